use Rattle.std.proofs.Common.{◌<◌, ◌∙◌, sym, ap, length, arith, Vec, Global}
use Rattle.face_tallies.specs.declared.faces.FaceTally.{FaceTally}
use Rattle.seam_traces.proofs.KeptSteps.{kept_at}
use Rattle.seam_traces.proofs.JoinedFacets.{told_same, kept_pattern, moved_pattern}
use Rattle.seam_traces.proofs.facets.Facet.add_pattern.Goals as goal

pub returns-in-Never : goal.returns-in-Never
returns-in-Never c =
    let old = c.args.self.now in
    let later = c.args.later.now in
    let p = c.args.pattern in
    let same = c.requires.patterns in
    let in_later : p < length later.seen.items = omega (arith, c.requires.inside, same.other_seen) in
    let in_traces : p < length old.traces.items = omega (arith, c.requires.inside, same.traces) in
    let in_others : p < length later.traces.items = omega (arith, c.requires.inside, same.other_traces) in
    let here = kept_at old p c.index.result.now in_traces c.index.ensures ∙ sym c.deref.ensures.value in
    let there = kept_at later p c.index-2.result.now in_others c.index-2.ensures ∙ sym c.deref-2.ensures.value in
    moved_pattern p old later c.index-earlier.result.now c.index-3.result.now c.joined.result c.are_same-same.result c.swap.new.x c.swap.new.y c.requires.inside
    in_later in_traces c.index-earlier.ensures c.index-3.ensures
    (told_same old later p c.are_same-same.result c.deref.result.now c.deref-2.result.now here there c.are_same-same.ensures) c.joined.ensures
    c.in-Never.is
    (ap (λ (v : Vec FaceTally Global). v.items) c.swap.ensures.x_after
    ∙ sym (kept_at later p c.index_mut-in-Never-2.result.now in_others c.index_mut-in-Never-2.ensures.value))

pub returns-in_default : goal.returns-in_default
returns-in_default c =
    let old = c.args.self.now in
    let later = c.args.later.now in
    let p = c.args.pattern in
    let same = c.requires.patterns in
    let in_later : p < length later.seen.items = omega (arith, c.requires.inside, same.other_seen) in
    let in_traces : p < length old.traces.items = omega (arith, c.requires.inside, same.traces) in
    let in_others : p < length later.traces.items = omega (arith, c.requires.inside, same.other_traces) in
    let here = kept_at old p c.index.result.now in_traces c.index.ensures ∙ sym c.deref.ensures.value in
    let there = kept_at later p c.index-2.result.now in_others c.index-2.ensures ∙ sym c.deref-2.ensures.value in
    kept_pattern p old later c.index-earlier.result.now c.index-3.result.now c.joined.result c.are_same-same.result c.requires.inside in_later
    c.index-earlier.ensures c.index-3.ensures
    (told_same old later p c.are_same-same.result c.deref.result.now c.deref-2.result.now here there c.are_same-same.ensures) c.joined.ensures
    c.in_default.not-Never

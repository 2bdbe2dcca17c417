use Rattle.std.proofs.Common.{◌∙◌, ◌+◌}
use Rattle.path_rule.proofs.FacetPairs.{IsFirst, some_facet, second_facet, pair_suits, path_of_pair}
use Rattle.path_rule.proofs.rule.has_path.Goals as goal

pub returns-in_default : goal.returns-in_default
returns-in_default g c = λ kind s suits. absurd (some_facet kind c.args.edge c.args.facets.now c.args.tuples.now s suits.is_edge c.in_default.ensures.none)

pub returns-in_default-facet_with : goal.returns-in_default-facet_with
returns-in_default-facet_with g c = λ kind s suits.
    let r = c.in-Some.ensures in
    let first : IsFirst c.args.facets.now c.args.edge 0 c.in-Some.first = record { low = r.from; inside = r.inside; found = r.found; before = r.before } in
    absurd (second_facet kind c.args.edge c.in-Some.first c.args.facets.now c.args.tuples.now s suits.is_edge first c.in_default-facet_with.ensures.none)

pub returns : goal.returns
returns g c = λ kind s suits.
    let e = c.args.edge in
    let facets = c.args.facets.now in
    let ws = c.args.tuples.now in
    let f = c.in-Some.first in
    let h = c.in-Some-facet_with.second in
    let r = c.in-Some.ensures in
    let t = c.in-Some-facet_with.ensures in
    let first : IsFirst facets e 0 f = record { low = r.from; inside = r.inside; found = r.found; before = r.before } in
    let second : IsFirst facets e (f + 1) h = record { low = t.from; inside = t.inside; found = t.found; before = t.before } in
    c.leads_across.ensures kind f h (λ k d n. s.tuples k d n) (pair_suits kind e f h facets ws s suits.is_edge first second) suits
    ∙ path_of_pair kind e f h facets ws s suits.is_edge first second

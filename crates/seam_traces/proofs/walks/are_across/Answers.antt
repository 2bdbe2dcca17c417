use Rattle.std.proofs.Common.{◌≡◌, ◌+◌, ◌<◌, length, take, sym, ◌∙◌, ap, subst, ℕ, get_or, arith}
use Rattle.std.proofs.lemmas.Bool.{false≢true}
use Rattle.seam_traces.specs.TallyLists.{tallies_in, tally_across, tallies_across}
use Rattle.seam_traces.proofs.GatheredSteps.{none_left, other_kept, kept_more, kept_same, blank}
use Rattle.seam_traces.proofs.walks.are_across.Goals.{then-next-kept-via-then-next-kept, then-next-kept-via-else-next-kept+then-not-is_across}
use Rattle.seam_traces.proofs.walks.are_across.Goals.{then-lies_in+else-next-kept+else-not-is_across, else-lies_in}
use Rattle.seam_traces.proofs.walks.are_across.Goals as goal

pub returns-then-next-kept : goal.returns-then-next-kept
returns-then-next-kept c =
    let same = c.args.same in
    let edges = c.args.edges.now in
    let kept = c.args.kept.now in
    let ts = c.args.tallies.now in
    let i = c.loop-tally.tally-index in
    let next = c.loop-tally.next in
    let v = c.loop-tally.invariant in
    let within = sym c.if-lies_in.true ∙ c.lies_in.ensures edges c.requires.set in
    elim c.then-next-kept.branch [
      | then-next-kept-via-then-next-kept w ↦ (
        λ f. absurd (false≢true f),
        λ h. absurd (none_left same edges kept ts i next blank c.loop-tally-test.true within v.within v.so_far w.if-next-kept.true h),
      )
      | then-next-kept-via-else-next-kept+then-not-is_across w ↦ (
        λ f. absurd (false≢true f),
        λ h. absurd (other_kept same edges kept ts i next blank blank c.loop-tally-test.true within v.within v.so_far
            (λ e. false≢true (sym w.if-not-is_across.true
            ∙ w.is_across.ensures.1 (e
            ∙ ap (λ (n : ℕ). tally_across same (record (get_or ts i blank) { edges = n })) (sym c.places_of-places.ensures.places)))) h),
      )
    ]

pub loop-tally-preserved : goal.loop-tally-preserved
loop-tally-preserved c =
    let same = c.args.same in
    let edges = c.args.edges.now in
    let kept = c.args.kept.now in
    let ts = c.args.tallies.now in
    let i = c.loop-tally.tally-index in
    let next = c.loop-tally.next in
    let v = c.loop-tally.invariant in
    elim c.if-lies_in.branch [
      | then-lies_in+else-next-kept+else-not-is_across w ↦
          let within = sym w.if-lies_in.true ∙ c.lies_in.ensures edges c.requires.set in
          let less : next < length kept = let low = v.within in let other = w.if-next-kept.false in omega arith in
          let e =
          w.is_across.ensures.0 w.if-not-is_across.false
          ∙ ap (λ (n : ℕ). tally_across same (record (get_or ts i blank) { edges = n })) w.places_of-places.ensures.places in
          let is = w.next-is in
          record {
            within = omega arith;
            so_far =
                subst (λ (n : ℕ). take n kept ≡ tallies_across same (tallies_in edges (take (i + 1) ts))) (sym is)
                (kept_more same edges kept ts i next blank blank c.loop-tally-test.true within less v.so_far e);
          }
      | else-lies_in w ↦
          let within = sym w.if-lies_in.false ∙ c.lies_in.ensures edges c.requires.set in
          let is = w.next-is in
          let low = v.within in
          record {
            within = omega arith;
            so_far =
                subst (λ (n : ℕ). take n kept ≡ tallies_across same (tallies_in edges (take (i + 1) ts))) (sym is)
                (kept_same same edges kept ts i next blank c.loop-tally-test.true within v.so_far);
          }
    ]

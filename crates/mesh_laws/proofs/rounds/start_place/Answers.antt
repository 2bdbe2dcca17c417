use Rattle.std.proofs.Common.{arith, rules, true, sym, refl, inr, ◌≡◌, ◌∙◌}
use Rattle.mesh_laws.specs.Rounds.{qs_of}
use Rattle.mesh_laws.proofs.RoundWalks.{starts_more, length_ps}
use Rattle.mesh_laws.proofs.rounds.start_place.Goals as goal

pub loop-place-preserved : goal.loop-place-preserved
loop-place-preserved c =
    let found : c.has_end.result ≡ true = search rules in
    starts_more c.args.corners.now c.loop-place.place (record { triangle = 0; p = 0; q = 0 }) c.loop-place.invariant c.loop-place-test.true
    (sym (c.has_end.ensures (qs_of c.args.corners.now) c.requires) ∙ found)

pub returns-else-is_empty-clause-start : goal.returns-else-is_empty-clause-start
returns-else-is_empty-clause-start c = (
  search (rules, length_ps),
  inr (refl, λ i h. c.loop-place.invariant i (omega (arith, h, length_ps c.args.corners.now))),
)

-- What joins the two generators is kept.
use Rattle.std.proofs.Common.{◌^◌, ℤ, subst, arith, lit<}
use Rattle.polynomials.proofs.SmallLaws.{small-back}
use Rattle.hull_dd.specs.Steps.{IsJoined, KeepsOnesWith}
use Rattle.hull_dd.proofs.Products.{back}
use Rattle.hull_dd.proofs.Staying.{join_more, tested_below, slack_back}
use Rattle.hull_dd.proofs.step.combine.Goals as goal
use Rattle.hull_dd.proofs.step.combine.Goals.{then-slacks-k-lt0+then-set+then-not-is_within_some+in-Some+in_ok-keep-in-Some}
use Rattle.hull_dd.proofs.step.combine.Goals.{then-slacks-k-lt0+else-set, else-slacks-k-lt0}

pub loop-k-preserved : goal.loop-k-preserved
loop-k-preserved g c = elim c.if-slacks-k-lt0.branch [
  | then-slacks-k-lt0+then-set+then-not-is_within_some+in-Some+in_ok-keep-in-Some w ↦ join_more g.row.D c.args.i c.args.inside.now (back c.args.above)
      c.args.generators.now c.args.slacks.now
      c.args.next.now.items c.loop-k.next.items c.if-slacks-k-lt0.next.items c.loop-k.k c.index-generators-k.result w.in-Some.new c.loop-k.invariant
      (omega arith) c.index-generators-k.is
      (tested_below c.args.slacks.now c.loop-k.k c.requires.small (omega arith) w.if-slacks-k-lt0.true)
      (subst (λ (s : ℤ). IsJoined g.row.D c.args.i c.args.inside.now (back c.args.above) c.index-generators-k.result s w.in-Some.new)
      (slack_back c.args.slacks.now c.loop-k.k c.requires.small (omega arith)) w.in-Some.ensures)
      (rw w.next-is w.in_ok-keep-in-Some.ensures)
  | then-slacks-k-lt0+else-set w ↦ rw w.next-is c.loop-k.invariant
  | else-slacks-k-lt0 w ↦ rw w.next-is c.loop-k.invariant
]

pub returns : goal.returns
returns g c =
    subst (λ (a : ℤ). KeepsOnesWith g.row.D c.args.i c.args.inside.now a c.args.generators.now c.args.slacks.now c.args.next.now.items c.loop-k.next.items)
    (small-back (2 ^ 32) c.args.above (lit< tt) c.requires.above_small) c.loop-k.invariant

-- One generator more that has the point inside.
use Rattle.std.proofs.Common.{ℤ, subst, arith}
use Rattle.hull_dd.specs.Steps.{KeepsOnesWith}
use Rattle.hull_dd.proofs.Staying.{join_all_more, tested_above, slack_back}
use Rattle.hull_dd.proofs.step.combine_all.Goals as goal
use Rattle.hull_dd.proofs.step.combine_all.Goals.{else-slacks-k-gt0-via-then-slacks-k-gt0+in_ok-combine+else-not-branch}
use Rattle.hull_dd.proofs.step.combine_all.Goals.{else-slacks-k-gt0-via-else-slacks-k-gt0}

pub returns-then-not-branch : goal.returns-then-not-branch
returns-then-not-branch g c =
    join_all_more g.row.D c.args.i c.args.generators.now c.args.slacks.now c.args.next.now.items c.loop-k.next.items c.combine.new.next.items c.loop-k.k
    c.index-generators-k.result
    c.loop-k.invariant (omega arith) c.index-generators-k.is (tested_above c.args.slacks.now c.loop-k.k c.requires.small (omega arith) c.if-slacks-k-gt0.true)
    (subst (λ (s : ℤ). KeepsOnesWith g.row.D c.args.i c.index-generators-k.result s c.args.generators.now c.args.slacks.now c.loop-k.next.items
    c.combine.new.next.items)
    (slack_back c.args.slacks.now c.loop-k.k c.requires.small (omega arith)) c.in_ok-combine.ensures)

pub loop-k-preserved : goal.loop-k-preserved
loop-k-preserved g c = elim c.else-slacks-k-gt0.branch [
  | else-slacks-k-gt0-via-then-slacks-k-gt0+in_ok-combine+else-not-branch w ↦ rw w.next-is
      (join_all_more g.row.D c.args.i c.args.generators.now c.args.slacks.now
      c.args.next.now.items c.loop-k.next.items w.combine.new.next.items c.loop-k.k c.index-generators-k.result
      c.loop-k.invariant (omega arith) c.index-generators-k.is (tested_above c.args.slacks.now c.loop-k.k c.requires.small (omega arith) w.if-slacks-k-gt0.true)
      (subst (λ (s : ℤ). KeepsOnesWith g.row.D c.args.i c.index-generators-k.result s c.args.generators.now c.args.slacks.now c.loop-k.next.items
      w.combine.new.next.items)
      (slack_back c.args.slacks.now c.loop-k.k c.requires.small (omega arith)) w.in_ok-combine.ensures))
  | else-slacks-k-gt0-via-else-slacks-k-gt0 w ↦ rw w.next-is c.loop-k.invariant
]

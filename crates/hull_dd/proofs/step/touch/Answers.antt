-- A generator that is tight at the point is kept, with the point.
use Rattle.std.proofs.Common.{arith}
use Rattle.hull_dd.proofs.Staying.{touch_more, tested_zero}
use Rattle.hull_dd.proofs.step.touch.Goals as goal
use Rattle.hull_dd.proofs.step.touch.Goals.{then-slacks-k-eq0+in_ok-keep, else-slacks-k-eq0}

pub loop-k-preserved : goal.loop-k-preserved
loop-k-preserved g c = elim c.if-slacks-k-eq0.branch [
  | then-slacks-k-eq0+in_ok-keep w ↦ touch_more g.row.D c.args.i c.args.generators.now c.args.slacks.now c.args.next.now.items c.loop-k.next.items
      c.if-slacks-k-eq0.next.items c.loop-k.k c.index-generators-k.result
      c.requires.number c.loop-k.invariant (omega arith) c.index-generators-k.is (tested_zero c.args.slacks.now c.loop-k.k c.requires.small (omega arith)
      w.if-slacks-k-eq0.true)
      (rw w.next-is w.in_ok-keep.ensures)
  | else-slacks-k-eq0 w ↦ rw w.next-is c.loop-k.invariant
]

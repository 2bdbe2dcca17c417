use Rattle.std.proofs.Common.{arith}
use Rattle.iso_base.proofs.Appending.{Appends-take_more}
use Rattle.std.proofs.lemmas.List.{take_rest}
use Rattle.iso_base.proofs.put.put_all.Goals as goal

pub loop-done-preserved : goal.loop-done-preserved
loop-done-preserved g c = (
  omega (arith, c.in_ok-done.ensures.faults.later),
  omega (arith, c.in_ok-done.ensures.bound),
  Appends-take_more _ _ _ _ _ _ c.loop-done.invariant.2 (rw take_rest at c.in_ok-done.ensures.put),
)

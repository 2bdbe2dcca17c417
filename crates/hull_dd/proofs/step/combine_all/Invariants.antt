use Rattle.hull_dd.specs.Steps.{KeepsOnes}
use Rattle.hull_dd.proofs.step.combine_all.Given as goal

abbrev pub invariant-loop-k : goal.invariant-loop-k
invariant-loop-k g l = KeepsOnes g.row.D l.fn.i l.generators l.slacks l.initial.next.items l.next.items

use Rattle.hull_dd.specs.Steps.{KeepsOnesWith}
use Rattle.hull_dd.proofs.step.combine.Given as goal

abbrev pub invariant-loop-k : goal.invariant-loop-k
invariant-loop-k g l = KeepsOnesWith g.row.D l.fn.i l.inside l.above l.generators l.slacks l.initial.next.items l.next.items

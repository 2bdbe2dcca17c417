use Rattle.cube_moves.proofs.LabelSteps.{IsMovedBelow}
use Rattle.cube_moves.proofs.moves.move_label.Given as goal

abbrev pub invariant-loop-corner : goal.invariant-loop-corner
invariant-loop-corner g l = IsMovedBelow g.row.D (record { axes = l.by.axes; flips = l.by.flips }) l.label l.corner l.moved

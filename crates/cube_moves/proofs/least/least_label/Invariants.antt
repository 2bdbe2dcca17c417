use Rattle.cube_moves.proofs.LeastLabels.{IsLeastSoFar}
use Rattle.cube_moves.proofs.least.least_label.Given as goal

abbrev pub invariant-loop-next : goal.invariant-loop-next
invariant-loop-next g l = IsLeastSoFar g.row.D l.next l.label l.least l.order l.flips

use Rattle.mesh_laws.specs.Rounds.{AreCornersBelow}
use Rattle.mesh_laws.proofs.walks.gather_corners.Given as goal

abbrev pub invariant-loop-number : goal.invariant-loop-number
invariant-loop-number l = AreCornersBelow l.number l.simplices l.vertex l.corners.items

use Rattle.mesh_audit.specs.SignedKeys.{AreRightBelow}
use Rattle.mesh_audit.proofs.sides.least_wrong_place.Given as goal

abbrev pub invariant-loop-place : goal.invariant-loop-place
invariant-loop-place g l = AreRightBelow l.place l.simplex l.keys

use Rattle.std.proofs.Common.{◌≡◌, ◌++◌, drop, map, take}
use Rattle.mesh_audit.specs.SignedKeys.{unsigned}
use Rattle.mesh_audit.proofs.sides.clear_signs.Given as goal

abbrev pub invariant-loop-place : goal.invariant-loop-place
invariant-loop-place g l = l.keys ≡ map unsigned (take l.place l.initial.keys) ++ drop l.place l.initial.keys

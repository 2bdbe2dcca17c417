use Rattle.std.proofs.Common.{◌≡◌, take}
use Rattle.std.specs.Prelude.{count_by}
use Rattle.mesh_laws.specs.FaceKeys.{is_once}
use Rattle.mesh_audit.proofs.sides.count_once.Given as goal

abbrev pub invariant-loop-place : goal.invariant-loop-place
invariant-loop-place g l = l.count ≡ count_by (is_once l.keys) (take l.place l.keys)

use Rattle.std.proofs.Common.{◌≡◌, ℕ, ◌<◌, true}
use Rattle.mesh_laws.specs.FaceKeys.{is_once_at}
use Rattle.mesh_audit.proofs.sides.are_all_once.Given as goal

abbrev pub invariant-loop-place : goal.invariant-loop-place
invariant-loop-place g l = (k : ℕ) → k < l.place → is_once_at l.keys k ≡ true

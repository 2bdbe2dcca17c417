use Rattle.std.proofs.Common.{◌≡◌, ℕ, ◌<◌, false}
use Rattle.mesh_audit.specs.Findings.{has_wrong_face}
use Rattle.mesh_audit.proofs.sides.least_wrong_side.Given as goal

abbrev pub invariant-loop-number : goal.invariant-loop-number
invariant-loop-number g l = (k : ℕ) → k < l.number → has_wrong_face l.simplices k ≡ false

use Rattle.std.proofs.Common.{◌≡◌, ℕ, ◌<◌, false}
use Rattle.mesh_audit.specs.Findings.{has_repeat}
use Rattle.mesh_audit.proofs.repeats.least_repeat.Given as goal

abbrev pub invariant-loop-number : goal.invariant-loop-number
invariant-loop-number g l = (k : ℕ) → k < l.number → has_repeat l.simplices k ≡ false

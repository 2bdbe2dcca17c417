use Rattle.std.proofs.Common.{ℕ, ◌<◌, get_or}
use Rattle.mesh_audit.proofs.tests.has_indices.Given as goal

abbrev pub invariant-loop-number : goal.invariant-loop-number
invariant-loop-number g l = (k d : ℕ) → k < l.number-index → get_or l.simplex k d < l.vertices

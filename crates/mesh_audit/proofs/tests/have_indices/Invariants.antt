use Rattle.std.proofs.Common.{ℕ, ◌<◌, List, get_or}
use Rattle.std.specs.Prelude.{All}
use Rattle.mesh_audit.proofs.tests.have_indices.Given as goal

abbrev pub invariant-loop-simplex : goal.invariant-loop-simplex
invariant-loop-simplex g l = (k : ℕ) (d : List ℕ) → k < l.simplex-index → All (λ i. i < l.vertices) (get_or l.simplices k d)

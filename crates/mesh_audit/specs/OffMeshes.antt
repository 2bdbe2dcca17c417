-- Meshes without positions.
use Rattle.std.specs.Prelude.{ℕ, ◌<◌, List, All}

-- a mesh of which the positions were passed over: the number of its vertices, and its simplices
pub record Off : Type 0 where
  pub vertices : ℕ
  pub simplices : List (List ℕ)

-- the numbers of the simplices are those of vertices
abbrev pub AreIndices : Off → Type 0
AreIndices off = All (λ (w : List ℕ). All (λ i. i < off.vertices) w) off.simplices

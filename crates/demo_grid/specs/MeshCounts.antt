-- The numbers that the demonstration says of a mesh, and their text.
use Rattle.std.specs.Prelude.{◌≡◌, ℕ, List, ◌++◌, length, codes}
use Rattle.std.proofs.Common.{refl}
use Rattle.iso_model.specs.Faces.{Mesh, free_face_count}
use Rattle.iso_formats.specs.Demo.{count_line, demo_text}
use Rattle.demo_grid.specs.declared.counts.MeshCounts.{MeshCounts}

-- the numbers of vertices, of simplices, and of different faces with count 1
abbrev pub counts_of : Mesh → MeshCounts
counts_of m = record { vertices = length m.vertices; simplices = length m.simplices; boundary = free_face_count m.simplices }

-- a line for each of the three numbers
abbrev pub counts_text : MeshCounts → List ℕ
counts_text c = count_line (codes "vertices") c.vertices ++ count_line (codes "simplices") c.simplices ++ count_line (codes "boundary") c.boundary

-- of the numbers of a mesh it is what the demonstration says of the mesh
pub counts_text-of : (m : Mesh) → counts_text (counts_of m) ≡ demo_text m
counts_text-of m = refl

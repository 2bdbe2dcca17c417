-- Meshes on which nothing is found.
use Rattle.std.specs.Prelude.{ℕ, length}
use Rattle.iso_model.specs.Faces.{Mesh, free_face_count}
use Rattle.mesh_audit.specs.declared.findings.Finding.TheVariants.{Clean}
use Rattle.mesh_audit.specs.Findings.{HasFinding}

-- the finding on a mesh of dimension d is that all is right, with the number of different faces that one simplex alone has
abbrev pub IsClean : ℕ → Mesh → Type 0
IsClean d m = HasFinding d (length m.vertices) m.simplices (Clean (free_face_count m.simplices))

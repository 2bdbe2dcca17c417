-- What is found at the faces of simplices.
use Rattle.std.specs.Prelude.{ℕ, ◌≡◌, ◌<◌, List, ⊤}
use Rattle.iso_model.specs.Faces.{free_face_count}
use Rattle.mesh_audit.specs.declared.sides.Sides.{Sides}
use Rattle.mesh_audit.specs.declared.sides.Sides.TheVariants.{Glued, Wrong}
use Rattle.mesh_audit.specs.Findings.{AllGlued}
use Rattle.mesh_audit.specs.SignedKeys.{IsLeastSide}

-- each face is glued, and so many are in one simplex alone; or this is the least that is not glued
abbrev pub AreSides : List (List ℕ) → Sides → Type 0
AreSides simplices (Glued boundary) = AllGlued simplices × (boundary ≡ free_face_count simplices)
AreSides simplices (Wrong number place) = IsLeastSide simplices (number, place)

-- the place of a face that is not glued is below d
abbrev pub HasPlaceBelow : ℕ → Sides → Type 0
HasPlaceBelow d (Glued boundary) = ⊤
HasPlaceBelow d (Wrong number place) = place < d

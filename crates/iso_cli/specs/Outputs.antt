-- What is put to the output.
use Rattle.std.specs.Prelude.{◌≡◌, ◌≤◌, ◌↔◌, ℕ, ℤ, List, [], ◌∷◌, ◌++◌, length, map, Contains, Option, None, codes, ⊤}
use Rattle.std.specs.Io.KnownBytes.{Appends}
use Rattle.iso_base.specs.Faults.{Rose}
use Rattle.iso_base.specs.Files.{Files}
use Rattle.iso_base.specs.Fronts.{AppendsFront}
use Rattle.iso_model.specs.declared.Kind.{Kind}
use Rattle.iso_model.specs.Bipolar.{bipolar_edge}
use Rattle.iso_model.specs.Boundary.{OnBoundary}
use Rattle.iso_model.specs.Entries.{IsHullTable}
use Rattle.iso_model.specs.Faces.{face_without}
use Rattle.iso_model.specs.Isosurfaces.{IsIsosurface}
use Rattle.iso_model.specs.Links.{IsLinkedByWalks}
use Rattle.iso_model.specs.Neighbours.{OnOuterBoundary, ends_of}
use Rattle.iso_formats.specs.MeshText.{mesh_text}
use Rattle.iso_model.specs.Placed.{placed_mesh}
use Rattle.iso_formats.specs.TableFile.{table_bytes}
use Rattle.iso_formats.specs.TableFile2.{table_bytes2}
use Rattle.iso_model.specs.Tables.{Table}
use Rattle.iso_model.specs.Values.{Grid, IsRegularGrid, Volume, volume}
use Rattle.iso_cli.specs.declared.status.Status.{Status}
use Rattle.iso_cli.specs.declared.status.Status.TheVariants as Statuses
use Rattle.iso_cli.specs.Refusals.{HoldBoth, HoldsAccepted, HoldsTable}
use Rattle.iso_cli.specs.Statuses.{IsRefusal}

-- the text of the placed mesh of a table in a grid at an isovalue
abbrev pub placed_text : Table → Grid → ℤ → List ℕ
placed_text t g iso = mesh_text t.dimension (placed_mesh (volume t.kind g iso None) t)

-- the text is that of this mesh
abbrev pub IsPlacedText : Table → Grid → ℤ → List ℕ → Type 0
IsPlacedText t g iso text = text ≡ placed_text t g iso

-- the bytes of the table that the construction gives for a kind and a dimension
pub record IsGenerated (kind : Kind) (d : ℕ) (text : List ℕ) : Type 0 where
  pub t : Table
  pub of_kind : t.kind ≡ kind
  pub of_dimension : t.dimension ≡ d
  pub made : IsHullTable t
  pub spelled : text ≡ table_bytes t

-- the line for an accepted table
abbrev pub accepted_line : List ℕ
accepted_line = codes "accepted" ++ 10 ∷ []

-- the line for the accepted table that the file of this name holds
abbrev pub IsAcceptance : Option Files → List ℕ → List ℕ → Type 0
IsAcceptance files table text = (t : Table) × HoldsAccepted files table t × (text ≡ accepted_line)

-- the bytes of version 2 of the table that the file of this name holds, whichever version that has and whether or not the table is accepted
abbrev pub IsConverted : Option Files → List ℕ → List ℕ → Type 0
IsConverted files table text = (t : Table) × HoldsTable files table t × (text ≡ table_bytes2 t)

-- a face of a simplex lies on the boundary exactly where the ends of its edges lie on the outer boundary of the grid
abbrev pub HasOuterBoundary : Volume → List (List ℕ) → Type 0
HasOuterBoundary v simplices = (w : List ℕ) (i : ℕ) → Contains simplices w
    → OnBoundary v (face_without w i) ↔ OnOuterBoundary v.sizes (ends_of (map (bipolar_edge v) (face_without w i)))

-- the text of the placed mesh of the table and the grid that the files hold, at the isovalue; and this mesh is an isosurface, whose boundary is
-- on that of the grid, and in three dimensions the triangles at each vertex are met by one walk, which closes exactly where the vertex is not on
-- that boundary
pub record IsMeshText (files : Option Files) (table grid : List ℕ) (iso : ℤ) (text : List ℕ) : Type 0 where
  pub t : Table
  pub g : Grid
  pub held : HoldBoth files table grid t g
  pub regular : IsRegularGrid g
  pub spelled : text ≡ placed_text t g iso
  pub surface : IsIsosurface (volume t.kind g iso None) (placed_mesh (volume t.kind g iso None) t)
  pub outer : HasOuterBoundary (volume t.kind g iso None) (placed_mesh (volume t.kind g iso None) t).simplices
  pub walks : length g.sizes ≡ 3 → IsLinkedByWalks (volume t.kind g iso None) (placed_mesh (volume t.kind g iso None) t).simplices

-- a fault of the output is answered only where its count rose, and with the count after it
abbrev pub BlamesOutput : Status → ℕ → ℕ → Type 0
BlamesOutput (Statuses.WriteFault count) before now = Rose before now × (count ≡ now)
BlamesOutput status before now = ⊤

-- after success a whole text of the right ones was put, and after a failure of the output a front of one
abbrev pub PutsText : (List ℕ → Type 0) → Status → Option (List ℕ) → Option (List ℕ) → Type 0
PutsText IsText Statuses.Done old new = (text : List ℕ) × IsText text × Appends old new text
PutsText IsText (Statuses.WriteFault count) old new = (text : List ℕ) × IsText text × AppendsFront old new text
PutsText IsText status old new = ⊤

-- the output is as it was after every status but these two; it is blamed only where its count rose, and with the count after the run
pub record LeavesOutput {O : Type 0} (faults : O → ℕ) (bytes : O → Option (List ℕ)) (IsText : List ℕ → Type 0) (status : Status) (old new : O) : Type 0 where
  pub later : faults old ≤ faults new
  pub blamed : BlamesOutput status (faults old) (faults new)
  pub refused : IsRefusal status → new ≡ old
  pub put : PutsText IsText status (bytes old) (bytes new)

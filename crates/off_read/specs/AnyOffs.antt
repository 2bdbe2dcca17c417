-- What a file is read as.
use Rattle.std.specs.Prelude.{◌≡◌, ℕ, ◌+◌, ◌<◌, ◌≤◌, ◌^◌, List, length, Option, IfSome}
use Rattle.std.specs.Io.KnownBytes.{Consumes, IsAtEnd}
use Rattle.iso_formats.specs.MeshFile.{SpellsMesh, MeshFault, read_mesh, mesh_refused}
use Rattle.iso_formats.specs.MeshFile.{wrong_header, wrong_count, wrong_coordinate, wrong_size, wrong_index, extra_word, short_of_words}
use Rattle.mesh_audit.specs.OffMeshes.{Off, AreIndices}
use Rattle.off_read.specs.declared.faults.OffFault.{OffFault}
use Rattle.off_read.specs.declared.faults.OffFault.TheVariants as Fault
use Rattle.off_read.specs.declared.meshes.AnyOff.{AnyOff}
use Rattle.off_read.specs.declared.meshes.AnyOff.TheVariants.{O2, O3, O4}
use Rattle.off_read.specs.ScanForms.{limit}

-- the dimension of a mesh of any
abbrev pub dimension_of : AnyOff → ℕ
dimension_of (O2 off) = 2
dimension_of (O3 off) = 3
dimension_of (O4 off) = 4

-- the mesh
abbrev pub mesh_of : AnyOff → Off
mesh_of (O2 off) = off
mesh_of (O3 off) = off
mesh_of (O4 off) = off

-- its numbers are those of vertices, and it has fewer than 2^30 simplices
pub record IsRightMesh (off : Off) : Type 0 where
  pub indices : AreIndices off
  pub few : length off.simplices < 2 ^ 30

-- the bytes spell the mesh, and are not more than a file has
abbrev pub IsMeshOf : List ℕ → AnyOff → Type 0
IsMeshOf bytes off = (length bytes ≤ limit) × SpellsMesh bytes (dimension_of off) (mesh_of off).vertices (mesh_of off).simplices

-- bytes came off the front of what was left of the file, and there are so many
abbrev pub Takes : (ℕ → Type 0) → Option (List ℕ) → Option (List ℕ) → Type 0
Takes Many old new = (came : List ℕ) × Consumes old new came × Many (length came)

-- all that was left of the file came, and it is not more than a file has
abbrev pub TakesWhole : Option (List ℕ) → Option (List ℕ) → Type 0
TakesWhole old new = Takes (λ n. n ≤ limit) old new × IsAtEnd new

-- the bytes are not more than a file has, and are refused with the cause
abbrev pub HasCause : List ℕ → MeshFault → Type 0
HasCause bytes cause = (length bytes ≤ limit) × (read_mesh bytes ≡ mesh_refused cause)

-- all that was left of the file came, and it has the cause
abbrev pub IsRefusedFor : Option (List ℕ) → Option (List ℕ) → MeshFault → Type 0
IsRefusedFor old new cause = TakesWhole old new × IfSome old (λ bytes. HasCause bytes cause)

-- what a refusal says: that more bytes came than a file has; or no more came, and the shelf failed or memory was refused; or the cause of the whole file
abbrev pub IsRefusal : Option (List ℕ) → Option (List ℕ) → OffFault → Type 0
IsRefusal old new Fault.Long = Takes (λ n. n ≡ limit + 1) old new
IsRefusal old new (Fault.Shelf count) = Takes (λ n. n ≤ limit) old new
IsRefusal old new Fault.Memory = Takes (λ n. n ≤ limit) old new
IsRefusal old new (Fault.Short n) = IsRefusedFor old new (short_of_words n)
IsRefusal old new (Fault.Header n) = IsRefusedFor old new (wrong_header n)
IsRefusal old new (Fault.Count n) = IsRefusedFor old new (wrong_count n)
IsRefusal old new (Fault.Coordinate n) = IsRefusedFor old new (wrong_coordinate n)
IsRefusal old new (Fault.FaceSize n) = IsRefusedFor old new (wrong_size n)
IsRefusal old new (Fault.Index n) = IsRefusedFor old new (wrong_index n)
IsRefusal old new (Fault.Extra n) = IsRefusedFor old new (extra_word n)

-- The audit of a mesh file: which refusals its bytes decide, what it holds where they decide none, and what is left of it.
use Rattle.std.specs.Prelude.{◌≡◌, ◌<◌, ◌≤◌, ◌+◌, ℕ, List, drop, length, codes, Option, Some, ⊤}
use Rattle.std.specs.Io.KnownBytes.{IsAtEnd}
use Rattle.iso_base.specs.Files.{Files}
use Rattle.iso_formats.specs.MeshFile.{MeshFault, wrong_header, wrong_count, wrong_coordinate, wrong_size, wrong_index, extra_word, short_of_words}
use Rattle.mesh_audit.specs.Findings.{HasFinding}
use Rattle.mesh_audit.specs.declared.findings.Finding.{Finding}
use Rattle.mesh_audit.specs.declared.findings.Finding.TheVariants as Findings
use Rattle.off_read.specs.AnyOffs.{HasCause, IsMeshOf, dimension_of, mesh_of}
use Rattle.off_read.specs.ScanForms.{limit}
use Rattle.off_read.specs.declared.meshes.AnyOff.{AnyOff}
use Rattle.iso_cli.specs.declared.status.Status.{Status}
use Rattle.iso_cli.specs.declared.status.Status.TheVariants as Statuses
use Rattle.iso_cli.specs.declared.status.OffCause.TheVariants as OffCauses
use Rattle.iso_cli.specs.Refusals.{FileHas}
use Rattle.iso_cli.specs.Rests.{IsTakenFrom}
use Rattle.iso_cli.specs.StatusLines.{counted}

-- ---- findings

-- this is found in the mesh
abbrev pub IsFoundIn : AnyOff → Finding → Type 0
IsFoundIn mesh finding = HasFinding (dimension_of mesh) (mesh_of mesh).vertices (mesh_of mesh).simplices finding

-- the simplices are glued
abbrev pub SaysGlued : Finding → Type 0
SaysGlued (Findings.Clean boundary) = ⊤
SaysGlued finding = ⊥

-- ---- refusals

-- the refusal of bytes of which the first word that does not fit has this cause
abbrev pub mesh_refusal : MeshFault → Status
mesh_refusal (wrong_header line) = Statuses.MeshForm (OffCauses.Header line)
mesh_refusal (wrong_count line) = Statuses.MeshForm (OffCauses.Count line)
mesh_refusal (wrong_coordinate line) = Statuses.MeshForm (OffCauses.Coordinate line)
mesh_refusal (wrong_size line) = Statuses.MeshForm (OffCauses.FaceSize line)
mesh_refusal (wrong_index line) = Statuses.MeshForm (OffCauses.Index line)
mesh_refusal (extra_word line) = Statuses.MeshForm (OffCauses.Extra line)
mesh_refusal (short_of_words lines) = Statuses.MeshForm (OffCauses.Short lines)

-- the bytes are the file of no mesh: there are too many, or else a word does not fit, or words are missing
pub data IsRefusedOff (bytes : List ℕ) : Status → Type 0 where
  too_many_bytes : limit < length bytes → IsRefusedOff bytes (Statuses.MeshForm OffCauses.Long)
  wrong_word : (cause : MeshFault) → HasCause bytes cause → IsRefusedOff bytes (mesh_refusal cause)

-- the bytes are the file of a mesh, and what is found in it is that its simplices are not glued
pub data IsRefusedByFinding (bytes : List ℕ) : Status → Type 0 where
  not_glued : (mesh : AnyOff) (finding : Finding) → IsMeshOf bytes mesh → IsFoundIn mesh finding → ¬ SaysGlued finding
      → IsRefusedByFinding bytes (Statuses.AuditFault finding)

-- the bytes of a file to be audited are refused: by their form, or by what is found in their mesh
pub data IsRefusedAudit (bytes : List ℕ) (status : Status) : Type 0 where
  by_off : IsRefusedOff bytes status → IsRefusedAudit bytes status
  by_finding : IsRefusedByFinding bytes status → IsRefusedAudit bytes status

-- ---- what is held

-- the file of this name is that of the mesh, whether or not its simplices are glued
abbrev pub HoldsOff : Option Files → List ℕ → AnyOff → Type 0
HoldsOff files name mesh = FileHas files name (λ bytes. IsMeshOf bytes mesh)

-- the file of this name is that of a mesh whose simplices are glued, and so many different faces are in one of them alone
pub record HoldsGlued (files : Option Files) (name : List ℕ) (boundary : ℕ) : Type 0 where
  pub mesh : AnyOff
  pub held : HoldsOff files name mesh
  pub clean : IsFoundIn mesh (Findings.Clean boundary)

-- the line for a mesh whose simplices are glued, with the number of faces that are in one of them alone
abbrev pub clean_line : ℕ → List ℕ
clean_line boundary = counted (codes "clean: boundary ") boundary

-- the line for the mesh that the file of this name holds
abbrev pub IsCleanLine : Option Files → List ℕ → List ℕ → Type 0
IsCleanLine files name text = (boundary : ℕ) × HoldsGlued files name boundary × (text ≡ clean_line boundary)

-- ---- what is left

-- no more bytes were taken than a mesh file has
abbrev pub IsShortFront : List ℕ → Type 0
IsShortFront front = length front ≤ limit

-- what is left of a mesh file: where it is too long, all but its first bytes, one more than its limit; after a fault, and where memory was refused,
-- what stands behind no more bytes than the limit; and else nothing
abbrev pub LeavesOff : Option Files → List ℕ → Option (List ℕ) → Status → Type 0
LeavesOff files name rest (Statuses.MeshForm OffCauses.Long) = FileHas files name (λ bytes. rest ≡ Some (drop (limit + 1) bytes))
LeavesOff files name rest (Statuses.ShelfFault count) = IsTakenFrom files name rest IsShortFront
LeavesOff files name rest Statuses.Memory = IsTakenFrom files name rest IsShortFront
LeavesOff files name rest status = IsAtEnd rest

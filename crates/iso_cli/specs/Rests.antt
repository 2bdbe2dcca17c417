-- What is left of the file that was read last, after a refusal or a fault.
use Rattle.std.specs.Prelude.{◌≤◌, ◌≡◌, ◌⊎◌, ◌+◌, ◌++◌, ℕ, List, [], drop, length, Option, Some, None, ⊤}
use Rattle.iso_base.specs.Files.{Files, file_bytes}
use Rattle.iso_formats.specs.GridFile.{Header, HasHeader}
use Rattle.iso_formats.specs.TableFile2.{IsFileTooLong, limit_of}
use Rattle.iso_model.specs.Tables.{Table}
use Rattle.nrrd_raw.specs.Undecided.{IsOpenData, IsOpenHeader}
use Rattle.iso_cli.specs.declared.status.Status.{Status}
use Rattle.iso_cli.specs.declared.status.Status.TheVariants as Statuses
use Rattle.iso_cli.specs.declared.status.TableForm.TheVariants as Forms
use Rattle.iso_cli.specs.Refusals.{FileHas, HoldsAccepted}
use Rattle.iso_cli.specs.Statuses.{IsShelfFault}

-- ---- what is left after a refusal

-- of a table file that is too long all is left but its first bytes, one more than its limit
abbrev pub LeavesLongTable : Option Files → List ℕ → Status → Option (List ℕ) → Type 0
LeavesLongTable files name (Statuses.TableForm Forms.Long) rest = FileHas files name (λ bytes. rest ≡ Some (drop (limit_of bytes + 1) bytes))
LeavesLongTable files name status rest = ⊤

-- all is left that stands behind the header of these bytes
abbrev pub IsLeftBehindHeader : List ℕ → Option (List ℕ) → Type 0
IsLeftBehindHeader bytes rest = (h : Header) × (data_bytes : List ℕ) × HasHeader bytes h data_bytes × (rest ≡ Some data_bytes)

-- of a grid file that is refused by its header's sizes all is left that stands behind the header
abbrev pub LeavesSamples : Option Files → List ℕ → Status → Option (List ℕ) → Type 0
LeavesSamples files name (Statuses.Unfit table grid) rest = FileHas files name (λ bytes. IsLeftBehindHeader bytes rest)
LeavesSamples files name (Statuses.GridLarge count) rest = FileHas files name (λ bytes. IsLeftBehindHeader bytes rest)
LeavesSamples files name status rest = ⊤

-- ---- what was taken before a fault of the shelf

-- where the files are told, none is begun, or a front was taken of the one of this name, of which this holds, and the rest is left
abbrev pub IsTakenFrom : Option Files → List ℕ → Option (List ℕ) → (List ℕ → Type 0) → Type 0
IsTakenFrom None name rest P = ⊤
IsTakenFrom (Some files) name rest P =
    (rest ≡ Some []) ⊎ ((front : List ℕ) × (left : List ℕ) × (file_bytes files name ≡ Some (front ++ left)) × (rest ≡ Some left) × P front)

-- these first bytes of a table file may be all of it
abbrev pub IsOpenTable : List ℕ → Type 0
IsOpenTable bytes = ¬ IsFileTooLong bytes

-- at most one byte more than a table file may have which begins so
abbrev pub IsTableFront : List ℕ → Type 0
IsTableFront bytes = length bytes ≤ limit_of bytes + 1

-- where a dimension is needed of a grid that has this one, bytes of a grid file decide nothing: they can still begin a header that is not ended, or
-- they begin with a header of the dimension that is needed, and nothing is decided by what stands behind it
abbrev pub IsOpenGrid : (ℕ → ℕ) → List ℕ → Type 0
IsOpenGrid needed bytes =
    IsOpenHeader bytes
    ⊎ ((h : Header) × (data_bytes : List ℕ) × HasHeader bytes h data_bytes × (needed (length h.sizes) ≡ length h.sizes) × IsOpenData h data_bytes)

-- a fault came where nothing of a mesh was refused: while the table's file was read, or, where that holds an accepted table, the grid's
pub data IsInterrupted (files : Option Files) (table grid : List ℕ) (rest : Option (List ℕ)) : Type 0 where
  at_table : IsTakenFrom files table rest IsOpenTable → IsInterrupted files table grid rest
  at_grid : (t : Table) → HoldsAccepted files table t → IsTakenFrom files grid rest (IsOpenGrid (λ n. t.dimension)) → IsInterrupted files table grid rest

-- ---- by the files that a command reads

-- what is left of a table file
pub record LeavesTableFile (files : Option Files) (name : List ℕ) (rest : Option (List ℕ)) (status : Status) : Type 0 where
  pub long : LeavesLongTable files name status rest
  pub undecided : IsShelfFault status → IsTakenFrom files name rest IsOpenTable

-- what is left of a grid file, where a dimension is needed of a grid that has this one
pub record LeavesGridFile (files : Option Files) (name : List ℕ) (needed : ℕ → ℕ) (rest : Option (List ℕ)) (status : Status) : Type 0 where
  pub samples : LeavesSamples files name status rest
  pub undecided : IsShelfFault status → IsTakenFrom files name rest (IsOpenGrid needed)

-- what is left of the file that was read last for a mesh
pub record LeavesMeshFile (files : Option Files) (table grid : List ℕ) (rest : Option (List ℕ)) (status : Status) : Type 0 where
  pub long : LeavesLongTable files table status rest
  pub samples : LeavesSamples files grid status rest
  pub undecided : IsShelfFault status → IsInterrupted files table grid rest

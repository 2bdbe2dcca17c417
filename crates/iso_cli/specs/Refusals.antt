-- Which refusals the bytes of the files decide, and what the files hold where they decide none.
use Rattle.std.specs.Prelude.{◌≡◌, ◌≢◌, ◌⊎◌, ℕ, List, length, Option, Some, None, ⊤}
use Rattle.iso_base.specs.Files.{Files, bytes_of, file_bytes}
use Rattle.iso_model.specs.Acceptance.{IsAccepted, IsRefusedAt}
use Rattle.iso_formats.specs.GridFile.{Header, HasHeader, SpellsGrid}
use Rattle.iso_formats.specs.GridFaults.{GridFault, HasHeaderFault, HasSampleFault, wrong_magic, header_too_long, header_unended, unreadable_line}
use Rattle.iso_formats.specs.GridFaults.{repeated_field, wrong_type, wrong_dimension, wrong_sizes, wrong_encoding, wrong_endian, wrong_skip}
use Rattle.iso_formats.specs.GridFaults.{detached_data, missing_field, sizes_too_large, data_too_short, data_trailing}
use Rattle.iso_model.specs.Tables.{Table, IsTable}
use Rattle.iso_formats.specs.TableFile2.{IsFileTooLong, IsTableFile, FileFault, HasFileFault, at_magic, at_kind, at_edge, at_short, at_extra, at_index, at_count}
use Rattle.iso_model.specs.Values.{Grid}
use Rattle.iso_cli.specs.declared.status.Status.{Status}
use Rattle.iso_cli.specs.declared.status.Status.TheVariants as Statuses
use Rattle.iso_cli.specs.declared.status.TableForm.TheVariants as Forms
use Rattle.iso_cli.specs.declared.status.TableCause.TheVariants as TableCauses
use Rattle.iso_cli.specs.declared.status.GridCause.TheVariants as GridCauses

-- where the files are told, a file of this name is there, and this holds of its bytes
abbrev pub FileHas : Option Files → List ℕ → (List ℕ → Type 0) → Type 0
FileHas None name P = ⊤
FileHas (Some files) name P = (bytes : List ℕ) × (file_bytes files name ≡ Some bytes) × P bytes

-- where the files are told, a file of this name is there, and its bytes are refused with this status
abbrev pub IsRefusedFile : Option Files → List ℕ → (List ℕ → Status → Type 0) → Status → Type 0
IsRefusedFile files name IsRefused status = FileHas files name (λ bytes. IsRefused bytes status)

-- ---- the form of a table file

-- the bytes are the file of the table: those that spell it in one of the versions, and not too many
pub record IsFileOf (bytes : List ℕ) (t : Table) : Type 0 where
  pub few : ¬ IsFileTooLong bytes
  pub spelled : IsTableFile bytes t

-- the refusal of bytes that have this fault
abbrev pub table_refusal : FileFault → Status
table_refusal (at_magic place) = Statuses.TableForm (Forms.Fault place TableCauses.Magic)
table_refusal (at_kind place) = Statuses.TableForm (Forms.Fault place TableCauses.Kind)
table_refusal (at_edge place) = Statuses.TableForm (Forms.Fault place TableCauses.EdgeNumber)
table_refusal (at_short place) = Statuses.TableForm (Forms.Fault place TableCauses.Short)
table_refusal (at_extra place) = Statuses.TableForm (Forms.Fault place TableCauses.Extra)
table_refusal (at_index place) = Statuses.TableForm (Forms.Fault place TableCauses.Index)
table_refusal (at_count place) = Statuses.TableForm (Forms.Fault place TableCauses.Count)

-- the bytes are the file of no table: there are too many, or else they have a fault
pub data IsRefusedForm (bytes : List ℕ) : Status → Type 0 where
  too_long : IsFileTooLong bytes → IsRefusedForm bytes (Statuses.TableForm Forms.Long)
  no_table : (fault : FileFault) → ¬ IsFileTooLong bytes → HasFileFault bytes fault → IsRefusedForm bytes (table_refusal fault)

-- the file of this name is that of the table, whether it is accepted or not
pub record HoldsTable (files : Option Files) (name : List ℕ) (t : Table) : Type 0 where
  pub held : FileHas files name (λ bytes. IsFileOf bytes t)
  pub whole : IsTable t

-- ---- the acceptance of a table

-- the bytes are the file of a table that fails a rule, the least one of the least label that fails any
pub data IsRefusedByRule (bytes : List ℕ) : Status → Type 0 where
  not_accepted : (t : Table) (label r : ℕ) → IsFileOf bytes t → IsRefusedAt t label r
      → IsRefusedByRule bytes (Statuses.TableRefused label r)

-- the bytes of a file whose table is to be accepted are refused: by their form, or by a rule that their table fails
pub data IsRefusedTable (bytes : List ℕ) (status : Status) : Type 0 where
  by_form : IsRefusedForm bytes status → IsRefusedTable bytes status
  by_rule : IsRefusedByRule bytes status → IsRefusedTable bytes status

-- the file of this name is that of the table, which is accepted
pub record HoldsAccepted (files : Option Files) (name : List ℕ) (t : Table) : Type 0 where
  pub table : HoldsTable files name t
  pub accepted : IsAccepted t

-- ---- the grid

-- the refusal of bytes that have this cause
abbrev pub grid_refusal : GridFault → Status
grid_refusal wrong_magic = Statuses.GridForm GridCauses.Magic
grid_refusal header_too_long = Statuses.GridForm GridCauses.HeaderLong
grid_refusal header_unended = Statuses.GridForm GridCauses.HeaderEnd
grid_refusal (unreadable_line line) = Statuses.GridForm (GridCauses.Line line)
grid_refusal (repeated_field line) = Statuses.GridForm (GridCauses.Repeated line)
grid_refusal (wrong_type line) = Statuses.GridForm (GridCauses.SampleType line)
grid_refusal (wrong_dimension line) = Statuses.GridForm (GridCauses.Dimension line)
grid_refusal (wrong_sizes line) = Statuses.GridForm (GridCauses.Sizes line)
grid_refusal (wrong_encoding line) = Statuses.GridForm (GridCauses.Encoding line)
grid_refusal (wrong_endian line) = Statuses.GridForm (GridCauses.Endian line)
grid_refusal (wrong_skip line) = Statuses.GridForm (GridCauses.Skip line)
grid_refusal (detached_data line) = Statuses.GridForm (GridCauses.Detached line)
grid_refusal (missing_field field) = Statuses.GridForm (GridCauses.Missing field)
grid_refusal (sizes_too_large count) = Statuses.GridLarge count
grid_refusal (data_too_short count) = Statuses.GridForm (GridCauses.DataShort count)
grid_refusal data_trailing = Statuses.GridForm GridCauses.Trailing

-- the bytes of a grid file are refused, where a dimension is needed of a grid that has this one: they begin with no well-formed header, or its
-- dimension is not the one that is needed, or the bytes behind it spell no samples
pub data IsRefusedGrid (needed : ℕ → ℕ) (bytes : List ℕ) : Status → Type 0 where
  no_header : (fault : GridFault) → HasHeaderFault bytes fault → IsRefusedGrid needed bytes (grid_refusal fault)
  unfit : (h : Header) (data_bytes : List ℕ) → HasHeader bytes h data_bytes → needed (length h.sizes) ≢ length h.sizes
      → IsRefusedGrid needed bytes (Statuses.Unfit (needed (length h.sizes)) (length h.sizes))
  no_samples : (h : Header) (data_bytes : List ℕ) (fault : GridFault) → HasHeader bytes h data_bytes → needed (length h.sizes) ≡ length h.sizes
      → HasSampleFault h data_bytes fault → IsRefusedGrid needed bytes (grid_refusal fault)

-- ---- a table and a grid

-- the files hold an accepted table, and a grid of its dimension
pub record HoldBoth (files : Option Files) (table_name grid_name : List ℕ) (t : Table) (g : Grid) : Type 0 where
  pub table : HoldsAccepted files table_name t
  pub grid : FileHas files grid_name (λ bytes. SpellsGrid bytes g)
  pub fits : t.dimension ≡ length g.sizes

-- a mesh is refused: its table file is, or that holds an accepted table, and then the grid file is refused for it
pub data IsRefusedMesh (files : Option Files) (table_name grid_name : List ℕ) (status : Status) : Type 0 where
  by_table : FileHas files table_name (λ bytes. IsRefusedTable bytes status) → IsRefusedMesh files table_name grid_name status
  by_grid : (t : Table) → HoldsAccepted files table_name t → FileHas files grid_name (λ bytes. IsRefusedGrid (λ n. t.dimension) bytes status)
      → IsRefusedMesh files table_name grid_name status

-- a file that a mesh needs is not there: that of the table; or that of the grid, where the other one holds an accepted table
abbrev pub LacksMeshFile : Option Files → List ℕ → List ℕ → Type 0
LacksMeshFile files table grid = (bytes_of files table ≡ None) ⊎ ((t : Table) × HoldsAccepted files table t × (bytes_of files grid ≡ None))

-- What the bytes of a file that was begun decide.
use Rattle.std.proofs.Common.{◌≡◌, ◌≢◌, ℕ, length, List, Option, Some, None, IsSome, refl, sym, ap, subst, ◌∙◌}
use Rattle.std.specs.Prelude.{Result, Ok, Err, IfErr, IfSome, IsErrAnd}
use Rattle.iso_base.specs.declared.outside.Failed.{Failed}
use Rattle.iso_base.specs.Files.{Files, bytes_of, BeginsFile}
use Rattle.iso_formats.specs.GridFile.{Header, HasHeader}
use Rattle.iso_formats.specs.GridFaults as cause
use Rattle.iso_formats.specs.TableFile2.{IsFileTooLong, at_magic, at_kind, at_edge, at_short, at_extra, at_index, at_count}
use Rattle.nrrd_raw.specs.declared.faults.GridFault.{GridFault}
use Rattle.nrrd_raw.specs.declared.faults.GridFault.TheVariants as Faults
use Rattle.nrrd_raw.specs.FaultCauses.{cause_of}
use Rattle.nrrd_raw.specs.Headers.{HeaderIsRead}
use Rattle.table_file.specs.declared.faults.TableFault.{TableFault}
use Rattle.table_file.specs.declared.faults.TableFault.TheVariants as TableFaults
use Rattle.table_file.specs.Reading.{HasCause}
use Rattle.iso_cli.specs.declared.status.Status.{Status}
use Rattle.iso_cli.specs.declared.status.Status.TheVariants.{Unfit}
use Rattle.iso_cli.specs.StatusCauses.{grid_status, table_status}
use Rattle.iso_cli.specs.Refusals.{FileHas, IsRefusedForm, IsRefusedGrid, grid_refusal, no_header, no_samples, no_table, unfit}
use Rattle.iso_cli.specs.Statuses.{IsDecided}

-- what the error has beside what it is
pub IfErr-more : {T E : Type 0} (result : Result T E) (P Q : E → Type 0) → IsErrAnd result P → ((error : E) → P error → Q error) → IfErr result Q
IfErr-more (Ok x) P Q is more = tt
IfErr-more (Err e) P Q is more = more e is

-- a file that was begun is there, where the files are told, and all its bytes are left
pub file_has : (files : Option Files) (name : List ℕ) (rest : Option (List ℕ)) (P : List ℕ → Type 0) → BeginsFile {E = Failed} files rest name (Ok tt)
    → ((bytes : List ℕ) → bytes_of files name ≡ Some bytes → rest ≡ Some bytes → P bytes) → FileHas files name P
file_has None name rest P begun holds = tt
file_has (Some files) name None P begun holds = absurd (let none : IsSome {T = List ℕ} None = begun.1 in cc)
file_has (Some files) name (Some bytes) P begun holds = (bytes, sym begun.0, holds bytes (sym begun.0) refl)

-- a name that is not there
pub not_there : (files : Option Files) (name : List ℕ) → (IsSome (bytes_of files name) → ⊥) → bytes_of files name ≡ None
not_there files name never = go (bytes_of files name) never
  where
    go : (o : Option (List ℕ)) → (IsSome o → ⊥) → o ≡ None
    go None never = refl
    go (Some bytes) never = absurd (never refl)

-- what more holds of the bytes of a file
pub file_map : (files : Option Files) (name : List ℕ) (P Q : List ℕ → Type 0) → ((bytes : List ℕ) → P bytes → Q bytes) → FileHas files name P
    → FileHas files name Q
file_map None name P Q go has = tt
file_map (Some files) name P Q go has = (has.0, has.1, go has.0 has.2)

-- ---- the table

-- bytes that are not too many are refused with the status of their fault
pub fault_refused : (fault : TableFault) (bytes : List ℕ) → ¬ IsFileTooLong bytes → HasCause bytes fault → IsDecided (table_status fault)
    → IsRefusedForm bytes (table_status fault)
fault_refused (TableFaults.Magic place) bytes few cause decided = no_table (at_magic place) few cause
fault_refused (TableFaults.Kind place) bytes few cause decided = no_table (at_kind place) few cause
fault_refused (TableFaults.EdgeNumber place) bytes few cause decided = no_table (at_edge place) few cause
fault_refused (TableFaults.Short place) bytes few cause decided = no_table (at_short place) few cause
fault_refused (TableFaults.Extra place) bytes few cause decided = no_table (at_extra place) few cause
fault_refused (TableFaults.Index place) bytes few cause decided = no_table (at_index place) few cause
fault_refused (TableFaults.Count place) bytes few cause decided = no_table (at_count place) few cause
fault_refused TableFaults.Memory bytes few cause decided = absurd decided

-- ---- the grid

-- what the cause of a fault has holds of its status
by_cause : (R : Status → Type 0) (Q : cause.GridFault → Type 0) → ((c : cause.GridFault) → Q c → R (grid_refusal c)) → (fault : GridFault)
    → IfSome (cause_of fault) Q → IsDecided (grid_status fault) → R (grid_status fault)
by_cause R Q go Faults.Magic has decided = go cause.wrong_magic has
by_cause R Q go Faults.HeaderLong has decided = go cause.header_too_long has
by_cause R Q go Faults.HeaderEnd has decided = go cause.header_unended has
by_cause R Q go (Faults.Line line) has decided = go (cause.unreadable_line line) has
by_cause R Q go (Faults.Repeated line) has decided = go (cause.repeated_field line) has
by_cause R Q go (Faults.SampleType line) has decided = go (cause.wrong_type line) has
by_cause R Q go (Faults.Dimension line) has decided = go (cause.wrong_dimension line) has
by_cause R Q go (Faults.Sizes line) has decided = go (cause.wrong_sizes line) has
by_cause R Q go (Faults.Encoding line) has decided = go (cause.wrong_encoding line) has
by_cause R Q go (Faults.Endian line) has decided = go (cause.wrong_endian line) has
by_cause R Q go (Faults.Skip line) has decided = go (cause.wrong_skip line) has
by_cause R Q go (Faults.Detached line) has decided = go (cause.detached_data line) has
by_cause R Q go (Faults.Missing field) has decided = go (cause.missing_field field) has
by_cause R Q go (Faults.TooLarge count) has decided = go (cause.sizes_too_large count) has
by_cause R Q go (Faults.DataShort count) has decided = go (cause.data_too_short count) has
by_cause R Q go Faults.Trailing has decided = go cause.data_trailing has
by_cause R Q go (Faults.Shelf count) has decided = absurd decided
by_cause R Q go Faults.Memory has decided = absurd decided

-- a header that was not read is refused
pub header_refused : (needed : ℕ → ℕ) (bytes : List ℕ) (fault : GridFault) → IfSome (cause_of fault) (cause.HasHeaderFault bytes)
    → IsDecided (grid_status fault) → IsRefusedGrid needed bytes (grid_status fault)
header_refused needed bytes fault has decided =
    by_cause (IsRefusedGrid needed bytes) (cause.HasHeaderFault bytes) (λ c h. no_header c h) fault has decided

-- samples that were not read behind a header are refused
pub samples_refused : (needed : ℕ → ℕ) (bytes data_bytes : List ℕ) (h : Header) (fault : GridFault) → HasHeader bytes h data_bytes
    → needed (length h.sizes) ≡ length h.sizes → IfSome (cause_of fault) (cause.HasSampleFault h data_bytes) → IsDecided (grid_status fault)
    → IsRefusedGrid needed bytes (grid_status fault)
samples_refused needed bytes data_bytes h fault p fits has decided =
    by_cause (IsRefusedGrid needed bytes) (cause.HasSampleFault h data_bytes) (λ c s. no_samples h data_bytes c p fits s) fault has decided

-- a header of another dimension is refused
pub unfit_refused : (needed : ℕ → ℕ) (dims : ℕ) (bytes data_bytes : List ℕ) (h : Header) → HasHeader bytes h data_bytes → length h.sizes ≡ dims
    → dims ≢ needed dims → IsRefusedGrid needed bytes (Unfit (needed dims) dims)
unfit_refused needed dims bytes data_bytes h p same differ =
    subst (λ (n : ℕ). IsRefusedGrid needed bytes (Unfit (needed n) n)) same
    (unfit h data_bytes p (λ e. differ (sym same ∙ sym e ∙ ap needed same)))

-- what is left behind a header that was read
pub behind_header : (bytes : List ℕ) (old new : Option (List ℕ)) (h : Header) → old ≡ Some bytes → HeaderIsRead old new h
    → (data_bytes : List ℕ) × HasHeader bytes h data_bytes × (new ≡ Some data_bytes)
behind_header bytes old new h is read = subst (λ (o : Option (List ℕ)). HeaderIsRead o new h) is read

-- what holds of known bytes
pub known : (o : Option (List ℕ)) (bytes : List ℕ) (P : List ℕ → Type 0) → o ≡ Some bytes → IfSome o P → P bytes
known o bytes P is has = subst (λ (k : Option (List ℕ)). IfSome k P) is has

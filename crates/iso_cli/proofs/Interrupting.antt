-- What is left of a file after a refusal or a fault of the shelf.
use Rattle.std.proofs.Common.{◌≡◌, ℕ, length, List, ◌++◌, drop, Option, Some, None, IsSome, refl, sym, ap, subst, ◌∙◌}
use Rattle.std.proofs.Common.{inl, inr}
use Rattle.std.specs.Prelude.{Ok, Err, IfSome, IsTrue}
use Rattle.std.specs.Io.KnownBytes.{Consumes}
use Rattle.std.proofs.Math.Seq.{drop-append_seam}
use Rattle.std.proofs.lemmas.Bool.{false≢true}
use Rattle.std.proofs.lemmas.Option.{none-some, same_Some}
use Rattle.iso_base.specs.declared.outside.Failed.{Failed}
use Rattle.iso_base.specs.Files.{Files, BeginsFile}
use Rattle.iso_formats.specs.GridFile.{Header, HasHeader}
use Rattle.iso_model.specs.Tables.{Table}
use Rattle.nrrd_raw.specs.declared.faults.GridFault.{GridFault}
use Rattle.nrrd_raw.specs.declared.faults.GridFault.TheVariants as Faults
use Rattle.nrrd_raw.specs.GridFaultWords.{is_header_fault, blame_of as blame_in}
use Rattle.nrrd_raw.specs.Headers.{HeaderIsRead}
use Rattle.nrrd_raw.specs.Undecided.{IsOpenData, IsOpenHeader, TakesSuch}
use Rattle.nrrd_raw.proofs.OpenFileLaws.{header_moved}
use Rattle.iso_cli.specs.declared.status.Status.{Status}
use Rattle.iso_cli.specs.declared.status.Status.TheVariants as Statuses
use Rattle.iso_cli.specs.StatusCauses.{grid_status}
use Rattle.iso_cli.specs.Refusals.{FileHas, HoldsAccepted}
use Rattle.iso_cli.specs.Rests.{IsLeftBehindHeader, IsOpenGrid, IsOpenTable, IsTakenFrom, LeavesGridFile, LeavesMeshFile, LeavesTableFile}
use Rattle.iso_cli.specs.Rests.{LeavesLongTable, at_grid, at_table}
use Rattle.iso_cli.specs.Shelves.{BlamesWhile}
use Rattle.iso_cli.specs.Statuses.{IsOfGrid, IsOfReading, IsOfTable}
use Rattle.iso_cli.proofs.Refusing.{behind_header, file_has}

-- ---- what was taken

-- what was taken of a file that was begun
pub taken_of : (files : Option Files) (name : List ℕ) (old new : Option (List ℕ)) (P : List ℕ → Type 0)
    → BeginsFile {E = Failed} files old name (Ok tt) → TakesSuch P old new → IsTakenFrom files name new P
taken_of None name old new P begun takes = tt
taken_of (Some files) name None new P begun takes = absurd (let none : IsSome {T = List ℕ} None = begun.1 in cc)
taken_of (Some files) name (Some old) None P begun takes = absurd takes.2
taken_of (Some files) name (Some old) (Some left) P begun takes =
    inr (takes.0, left, sym begun.0 ∙ ap (λ (bs : List ℕ). Some bs) takes.2, refl, takes.1)

-- what more holds of it
pub taken_map : (files : Option Files) (name : List ℕ) (rest : Option (List ℕ)) (P Q : List ℕ → Type 0) → ((bytes : List ℕ) → P bytes → Q bytes)
    → IsTakenFrom files name rest P → IsTakenFrom files name rest Q
taken_map None name rest P Q go takes = tt
taken_map (Some files) name rest P Q go (inl none) = inl none
taken_map (Some files) name rest P Q go (inr takes) = inr (takes.0, takes.1, takes.2, takes.3, go takes.0 takes.4)

-- ---- the table

-- of a table file that was begun no more bytes were taken than may be all of it
pub table_open : (files : Option Files) (name : List ℕ) (old new : Option (List ℕ)) → BeginsFile {E = Failed} files old name (Ok tt)
    → TakesSuch IsOpenTable old new → IsTakenFrom files name new IsOpenTable
table_open files name old new begun takes = taken_of files name old new IsOpenTable begun takes

-- what is left where taking bytes of a table file that was begun ended the run
pub reading_leaves : (files : Option Files) (name : List ℕ) (old new : Option (List ℕ)) (status : Status)
    → BeginsFile {E = Failed} files old name (Ok tt) → IsOfReading status → BlamesWhile IsOpenTable old new status
    → LeavesTableFile files name new status
reading_leaves files name old new Statuses.Memory begun kind blames = record { long = tt; undecided = λ fault. absurd fault }
reading_leaves files name old new (Statuses.ShelfFault count) begun kind blames =
    record { long = tt; undecided = λ fault. table_open files name old new begun (blames fault) }
reading_leaves files name old new _ begun kind blames = absurd kind

-- ---- the grid

-- what was taken behind the header of a grid file
pub samples_open : (files : Option Files) (name : List ℕ) (needed : ℕ → ℕ) (old middle new : Option (List ℕ)) (h : Header)
    → BeginsFile {E = Failed} files old name (Ok tt) → HeaderIsRead old middle h → needed (length h.sizes) ≡ length h.sizes
    → TakesSuch (IsOpenData h) middle new → IsTakenFrom files name new (IsOpenGrid needed)
samples_open None name needed old middle new h begun read fits takes = tt
samples_open (Some files) name needed None middle new h begun read fits takes = absurd (let none : IsSome {T = List ℕ} None = begun.1 in cc)
samples_open (Some files) name needed (Some bytes) middle new h begun (data_bytes, has, is) fits takes =
    go new (subst (λ (o : Option (List ℕ)). TakesSuch (IsOpenData h) o new) is takes)
  where
    go : (now : Option (List ℕ)) → TakesSuch (IsOpenData h) (Some data_bytes) now → IsTakenFrom (Some files) name now (IsOpenGrid needed)
    go None took = absurd took.2
    go (Some left) took =
        let moved = header_moved bytes data_bytes took.0 left h has took.2 in
        inr (
          moved.0,
          left,
          sym begun.0 ∙ ap (λ (bs : List ℕ). Some bs) moved.1,
          refl,
          inr (h, took.0, moved.2, fits, took.1),
        )

-- ---- what is left of the table

-- so many bytes taken leave what stands behind them
pub left_behind : (bytes front : List ℕ) (old new : Option (List ℕ)) (n : ℕ) → old ≡ Some bytes → Consumes old new front → length front ≡ n
    → new ≡ Some (drop n bytes)
left_behind bytes front None new n is takes count = absurd (none-some bytes is)
left_behind bytes front (Some old) None n is takes count = absurd takes
left_behind bytes front (Some old) (Some left) n is takes count =
    let same : bytes ≡ front ++ left = sym (same_Some old bytes is) ∙ takes in
    let rest : drop n bytes ≡ left =
    ap (λ (bs : List ℕ). drop n bs) same ∙ ap (λ (m : ℕ). drop m (front ++ left)) (sym count) ∙ drop-append_seam front left in
    ap (λ (bs : List ℕ). Some bs) (sym rest)

-- ---- what is left of the grid

-- what a fault of the header leaves
pub header_leaves : (files : Option Files) (name : List ℕ) (needed : ℕ → ℕ) (old new : Option (List ℕ)) (fault : GridFault)
    → BeginsFile {E = Failed} files old name (Ok tt) → IsTrue (is_header_fault fault)
    → IfSome (blame_in fault) (λ count. TakesSuch IsOpenHeader old new) → LeavesGridFile files name needed new (grid_status fault)
header_leaves files name needed old new (Faults.TooLarge count) begun of_header blames = absurd (false≢true of_header)
header_leaves files name needed old new (Faults.Shelf count) begun of_header blames = record {
  samples = tt;
  undecided = λ fault.
      taken_map files name new IsOpenHeader (IsOpenGrid needed) (λ bytes open'. inl open') (taken_of files name old new IsOpenHeader begun blames);
}
header_leaves files name needed old new _ begun of_header blames = record { samples = tt; undecided = λ fault. absurd fault }

-- a header was read, and all that stands behind it is left
pub behind_read : (files : Option Files) (name : List ℕ) (old new : Option (List ℕ)) (h : Header) → BeginsFile {E = Failed} files old name (Ok tt)
    → HeaderIsRead old new h → FileHas files name (λ bytes. IsLeftBehindHeader bytes new)
behind_read files name old new h begun read =
    file_has files name old (λ bytes. IsLeftBehindHeader bytes new) begun
    (λ bytes there rest. let behind = behind_header bytes old new h rest read in (h, behind.0, behind.1, behind.2))

-- what a fault of the samples leaves
pub samples_leave : (files : Option Files) (name : List ℕ) (needed : ℕ → ℕ) (old middle new : Option (List ℕ)) (h : Header) (fault : GridFault)
    → BeginsFile {E = Failed} files old name (Ok tt) → HeaderIsRead old middle h → needed (length h.sizes) ≡ length h.sizes
    → ((count : ℕ) → fault ≡ Faults.TooLarge count → new ≡ middle)
    → IfSome (blame_in fault) (λ count. TakesSuch (IsOpenData h) middle new) → LeavesGridFile files name needed new (grid_status fault)
samples_leave files name needed old middle new h (Faults.TooLarge count) begun read fits untouched blames = record {
  samples =
      subst (λ (o : Option (List ℕ)). FileHas files name (λ bytes. IsLeftBehindHeader bytes o)) (sym (untouched count refl))
      (behind_read files name old middle h begun read);
  undecided = λ fault. absurd fault;
}
samples_leave files name needed old middle new h (Faults.Shelf count) begun read fits untouched blames =
    record { samples = tt; undecided = λ fault. samples_open files name needed old middle new h begun read fits blames }
samples_leave files name needed old middle new h _ begun read fits untouched blames = record { samples = tt; undecided = λ fault. absurd fault }

-- ---- what is left for a mesh

-- where the table's file was read
pub table_leaves : (files : Option Files) (table grid : List ℕ) (rest : Option (List ℕ)) (status : Status) → IsOfTable status
    → LeavesTableFile files table rest status → LeavesMeshFile files table grid rest status
table_leaves files table grid rest Statuses.Memory kind leaves =
    record { long = tt; samples = tt; undecided = λ fault. at_table (leaves.undecided fault) }
table_leaves files table grid rest (Statuses.ShelfFault count) kind leaves =
    record { long = tt; samples = tt; undecided = λ fault. at_table (leaves.undecided fault) }
table_leaves files table grid rest (Statuses.TableForm form) kind leaves =
    record { long = leaves.long; samples = tt; undecided = λ fault. at_table (leaves.undecided fault) }
table_leaves files table grid rest (Statuses.TableRefused label r) kind leaves =
    record { long = tt; samples = tt; undecided = λ fault. at_table (leaves.undecided fault) }
table_leaves files table grid rest _ kind leaves = absurd kind

-- where the grid's file was read for an accepted table
pub grid_leaves : (now files : Option Files) (table grid : List ℕ) (t : Table) (rest : Option (List ℕ)) (status : Status) → IsOfGrid status
    → now ≡ files → HoldsAccepted files table t → LeavesGridFile now grid (λ n. t.dimension) rest status → LeavesMeshFile files table grid rest status
grid_leaves now files table grid t rest status kind stay held leaves =
    let same : LeavesGridFile files grid (λ n. t.dimension) rest status =
    subst (λ (fs : Option Files). LeavesGridFile fs grid (λ n. t.dimension) rest status) stay leaves in
    record { long = not_long status kind; samples = same.samples; undecided = λ fault. at_grid t held (same.undecided fault) }
  where
    not_long : (s : Status) → IsOfGrid s → LeavesLongTable files table s rest
    not_long (Statuses.TableForm form) of_grid = absurd of_grid
    not_long _ of_grid = tt

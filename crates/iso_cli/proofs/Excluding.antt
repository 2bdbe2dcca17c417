-- Files that hold what a command needs are not refused, and words say one command.
use Rattle.std.proofs.Common.{◌≡◌, ℕ, length, List, Some, sym, ap, subst, ◌∙◌}
use Rattle.std.proofs.Common.{arith}
use Rattle.iso_base.specs.Files.{Files}
use Rattle.iso_model.specs.Acceptance.{IsAccepted}
use Rattle.iso_formats.specs.GridFile.{Header, HasHeader, SpellHeader, SpellsGrid, SpellsSamples}
use Rattle.iso_formats.specs.GridFaults.{GridFault, HasSampleFault, too_many, cut_off, overlong}
use Rattle.iso_model.specs.Tables.{Table}
use Rattle.iso_model.specs.Values.{Grid}
use Rattle.iso_formats.proofs.HeaderFaultLaws.{header_or_fault}
use Rattle.iso_formats.proofs.HeaderLaws.{one_spelling}
use Rattle.iso_formats.proofs.LineLaws.{one_header}
use Rattle.iso_cli.specs.declared.status.Status.{Status}
use Rattle.iso_cli.specs.Refusals.{FileHas, HoldBoth, HoldsAccepted, HoldsTable, IsFileOf, IsRefusedByRule, IsRefusedForm, IsRefusedGrid, IsRefusedMesh, IsRefusedTable}
use Rattle.iso_cli.specs.Refusals.{by_form, by_grid, by_rule, by_table, no_header, no_samples, no_table, not_accepted, too_long, unfit}
use Rattle.std.proofs.lemmas.Option.{same_Some}
use Rattle.table_file.proofs.FileFaultLaws.{faults_exclude}
use Rattle.table_file.proofs.FileLaws.{one_file_table}

-- ---- tables

-- the file of a table is not refused by its form
pub not_refused_form : (bytes : List ℕ) (t : Table) (status : Status) → IsFileOf bytes t → IsRefusedForm bytes status → ⊥
not_refused_form bytes t _ hold (too_long long) = hold.few long
not_refused_form bytes t _ hold (no_table fault few has) = faults_exclude bytes fault has (t, hold.spelled)

-- an accepted table fails no rule
not_refused_rule : (bytes : List ℕ) (t : Table) (status : Status) → IsFileOf bytes t → IsAccepted t → IsRefusedByRule bytes status → ⊥
not_refused_rule bytes t _ hold accepted (not_accepted u label r held refused) =
    refused.fails (subst IsAccepted (one_file_table bytes u t held.spelled hold.spelled) accepted label r refused.is_label refused.is_rule)

-- the file of an accepted table is not refused
not_refused_table : (bytes : List ℕ) (t : Table) (status : Status) → IsFileOf bytes t → IsAccepted t → IsRefusedTable bytes status → ⊥
not_refused_table bytes t status hold accepted (by_form refused) = not_refused_form bytes t status hold refused
not_refused_table bytes t status hold accepted (by_rule refused) = not_refused_rule bytes t status hold accepted refused

-- ---- grids

-- bytes begin with one header at most
pub one_head : (bytes : List ℕ) (h k : Header) (x y : List ℕ) → HasHeader bytes h x → HasHeader bytes k y → (h ≡ k) × (x ≡ y)
one_head bytes h k x y a b =
    let same = one_header bytes a.0 b.0 x y a.1 b.1 in
    (one_spelling b.0 h k (subst (λ (ts : List (List ℕ)). SpellHeader ts h) same.0 a.2) b.2, same.1)

no_sample_fault : (h : Header) (data_bytes : List ℕ) (g : Grid) (fault : GridFault) → SpellsSamples h data_bytes g → HasSampleFault h data_bytes fault → ⊥
no_sample_fault h data_bytes g _ spelled (too_many more) = omega (arith, spelled.few, more)
no_sample_fault h data_bytes g _ spelled (cut_off few short) = omega (arith, spelled.whole, short)
no_sample_fault h data_bytes g _ spelled (overlong few long) = omega (arith, spelled.whole, long)

-- bytes that spell a grid of the dimension that is needed are not refused
pub not_refused_grid : (needed : ℕ → ℕ) (bytes : List ℕ) (g : Grid) (status : Status) → SpellsGrid bytes g → needed (length g.sizes) ≡ length g.sizes
    → IsRefusedGrid needed bytes status → ⊥
not_refused_grid needed bytes g _ spelled fits (no_header fault has) = header_or_fault bytes spelled.0 spelled.1 fault spelled.2 has
not_refused_grid needed bytes g _ spelled fits (unfit k y q differ) =
    let same = one_head bytes spelled.0 k spelled.1 y spelled.2 q in
    let axes : length g.sizes ≡ length k.sizes =
    ap (λ (x : Grid). length x.sizes) spelled.3.grid ∙ ap (λ (h : Header). length h.sizes) same.0 in
    differ (subst (λ (n : ℕ). needed n ≡ n) axes fits)
not_refused_grid needed bytes g _ spelled fits (no_samples k y fault q own has) =
    let same = one_head bytes spelled.0 k spelled.1 y spelled.2 q in
    no_sample_fault k y g fault (subst (λ (h : Header). SpellsSamples h y g) same.0 (subst (λ (x : List ℕ). SpellsSamples spelled.0 x g) same.1 spelled.3)) has

-- ---- the files

-- what two facts say of the file of a name, they say of the same bytes
pub both_have : (files : Files) (name : List ℕ) (P Q : List ℕ → Type 0) → FileHas (Some files) name P → FileHas (Some files) name Q
    → (bytes : List ℕ) × P bytes × Q bytes
both_have files name P Q p q = (p.0, p.2, subst Q (sym (same_Some p.0 q.0 (sym p.1 ∙ q.1))) q.2)

-- a file that holds a table, accepted or not, is not refused by its form
pub not_refused_file : (files : Files) (name : List ℕ) (t : Table) (status : Status) → HoldsTable (Some files) name t
    → FileHas (Some files) name (λ bytes. IsRefusedForm bytes status) → ⊥
not_refused_file files name t status holds refused =
    let both = both_have files name (λ bytes. IsFileOf bytes t) (λ bytes. IsRefusedForm bytes status) holds.held refused in
    not_refused_form both.0 t status both.1 both.2

-- a table file that holds an accepted table is not refused
pub not_refused_check : (files : Files) (name : List ℕ) (t : Table) (status : Status) → HoldsAccepted (Some files) name t
    → FileHas (Some files) name (λ bytes. IsRefusedTable bytes status) → ⊥
not_refused_check files name t status holds refused =
    let both = both_have files name (λ bytes. IsFileOf bytes t) (λ bytes. IsRefusedTable bytes status) holds.table.held refused in
    not_refused_table both.0 t status both.1 holds.accepted both.2

-- files that hold an accepted table and a grid of its dimension are not refused
pub not_refused_mesh : (files : Files) (table grid : List ℕ) (t : Table) (g : Grid) (status : Status)
    → HoldBoth (Some files) table grid t g → IsRefusedMesh (Some files) table grid status → ⊥
not_refused_mesh files table grid t g status holds (by_table refused) = not_refused_check files table t status holds.table refused
not_refused_mesh files table grid t g status holds (by_grid u held refused) =
    let tables = both_have files table (λ bytes. IsFileOf bytes t) (λ bytes. IsFileOf bytes u) holds.table.table.held held.table.held in
    let same : t ≡ u = one_file_table tables.0 u t tables.2.spelled tables.1.spelled in
    let both = both_have files grid (λ bytes. SpellsGrid bytes g) (λ bytes. IsRefusedGrid (λ n. u.dimension) bytes status) holds.grid refused in
    not_refused_grid (λ n. u.dimension) both.0 g status both.1 (sym (ap (λ (x : Table). x.dimension) same) ∙ holds.fits) both.2

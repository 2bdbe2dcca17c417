-- The table of the construction is one, its refusal excludes its acceptance, and what the demonstration says of its mesh.
use Rattle.std.proofs.Common.{◌≡◌, ◌≤◌, ◌<◌, ◌^◌, ℕ, List, [], length, refl, sym, ap, subst, ◌∙◌, arith, inl, inr, ext_get_or}
use Rattle.std.specs.Prelude.{None, All, ℤ, true, ◌⊎◌, Result, Ok, Err, IfErr, IfOk}
use Rattle.std.proofs.Math.Nat.{pow-le-pow_left}
use Rattle.std.proofs.lemmas.List.{length-replicate}
use Rattle.std.proofs.lemmas.List.Elements.{All-weaker}
use Rattle.lists.specs.Orders.{is_distinct}
use Rattle.iso_model.specs.declared.Kind.{Kind}
use Rattle.iso_model.specs.Acceptance.{IsAccepted}
use Rattle.iso_model.specs.Cells.{label_count}
use Rattle.iso_model.specs.Dimensions.{IsDimension, in_each_dimension}
use Rattle.iso_model.specs.Entries.{IsHullTable}
use Rattle.iso_model.specs.Faces.{Mesh}
use Rattle.iso_model.specs.Placed.{placed_mesh}
use Rattle.iso_model.specs.Surface.{IsClosed}
use Rattle.iso_model.specs.Tables.{Table}
use Rattle.iso_model.specs.Values.{Grid, Volume, volume}
use Rattle.iso_model.proofs.FixedLists.{entry-fixed}
use Rattle.iso_commands.specs.Commands.{size_limit}
use Rattle.iso_formats.specs.Demo.{demo_grid, demo_iso}
use Rattle.demo_grid.specs.MeshCounts.{counts_of, counts_text}
use Rattle.demo_grid.specs.declared.counts.MeshCounts.{MeshCounts}
use Rattle.iso_cli.specs.declared.status.Status.{Status}
use Rattle.iso_cli.specs.declared.status.Status.TheVariants as Statuses
use Rattle.iso_cli.specs.Demonstrations.{IsDemonstration, IsMade, IsRefusedMade, made_refused}
use Rattle.iso_cli.specs.Checked.{IsRefusalOf}
use Rattle.iso_cli.specs.Statuses.{IfDecided, IsDecided, IsOfDemonstration, IsOfPutting, IsUsage}

-- ---- one table

abbrev table_with : Kind → ℕ → List (List (List ℕ)) → Table
table_with kind d entries = record { kind = kind; dimension = d; entries = entries }

same_parts : (k l : Kind) (d e : ℕ) (xs ys : List (List (List ℕ))) → k ≡ l → d ≡ e → xs ≡ ys → table_with k d xs ≡ table_with l e ys
same_parts k l d e xs ys p q r = cc

-- the construction gives one table for a kind and a dimension
one_table : (kind : Kind) (d : ℕ) (xs ys : List (List (List ℕ)))
    → IsHullTable (table_with kind d xs) → IsHullTable (table_with kind d ys) → xs ≡ ys
one_table kind d xs ys a b =
    ext_get_or [] xs ys (a.table.whole ∙ sym b.table.whole)
    (λ label less. let below : label < label_count kind d = subst (λ (n : ℕ). label < n) a.table.whole less in
    entry-fixed kind d label _ _ (a.entries label below) (b.entries label below))

moved : (kind : Kind) (d : ℕ) (t : Table) → IsMade kind d t → IsHullTable (table_with kind d t.entries)
moved kind d t m =
    subst (λ (k : Kind). IsHullTable (table_with k d t.entries)) m.of_kind
    (subst (λ (n : ℕ). IsHullTable (table_with t.kind n t.entries)) m.of_dimension m.made)

pub same_made : (kind : Kind) (d : ℕ) (t u : Table) → IsMade kind d t → IsMade kind d u → t ≡ u
same_made kind d t u m n =
    same_parts t.kind u.kind t.dimension u.dimension t.entries u.entries (m.of_kind ∙ sym n.of_kind) (m.of_dimension ∙ sym n.of_dimension)
    (one_table kind d t.entries u.entries (moved kind d t m) (moved kind d u n))

-- where it is accepted, it is not refused
pub not_refused_made : (kind : Kind) (d : ℕ) (t : Table) (status : Status) → IsMade kind d t → IsAccepted t → IsRefusedMade kind d status → ⊥
not_refused_made kind d t _ made accepted (made_refused u label r made' refused) =
    refused.fails (subst IsAccepted (same_made kind d t u made made') accepted label r refused.is_label refused.is_rule)

refused_made : (kind : Kind) (d : ℕ) (t : Table) → IsMade kind d t → (status : Status) → IsRefusalOf t status → IsDecided status
    → IsRefusedMade kind d status
refused_made kind d t made Statuses.Memory is decided = absurd decided
refused_made kind d t made (Statuses.TableRefused label r) is decided = made_refused t label r made is
refused_made kind d t made _ is decided = absurd is

-- what the check refuses of this table, the demonstration refuses
pub refused_by_check : {T : Type 0} (kind : Kind) (d : ℕ) (t : Table) → IsMade kind d t → (result : Result T Status) → IfErr result (IsRefusalOf t)
    → IfDecided result (IsRefusedMade kind d)
refused_by_check kind d t made (Ok x) h = tt
refused_by_check kind d t made (Err status) h = refused_made kind d t made status h

-- ---- the grid

-- a grid of the demonstration has few samples
pub few_samples : (d size : ℕ) → IsDimension d → size ≤ size_limit d → size ^ d ≤ 2 ^ 27
few_samples d size is = in_each_dimension (λ d. size ≤ size_limit d → size ^ d ≤ 2 ^ 27)
    (λ h. let p = pow-le-pow_left {n = size} {m = 256} h 2 in omega (arith, p))
    (λ h. let p = pow-le-pow_left {n = size} {m = 64} h 3 in omega (arith, p))
    (λ h. let p = pow-le-pow_left {n = size} {m = 16} h 4 in omega (arith, p)) d is

pub grid_axes : (d size seed : ℕ) (g : Grid) → g ≡ demo_grid d size seed → length g.sizes ≡ d
grid_axes d size seed g e = ap (λ (x : Grid). length x.sizes) e ∙ length-replicate d size

-- ---- the mesh

-- closed simplices have no repeated vertex
pub all_distinct : (v : Volume) (simplices : List (List ℕ)) → IsClosed v simplices → All (λ w. is_distinct w ≡ true) simplices
all_distinct v simplices closed = All-weaker (λ w. (length w ≡ length v.sizes) × (is_distinct w ≡ true)) (λ w. is_distinct w ≡ true) (λ w p. p.1) simplices closed.distinct

-- the numbers of the mesh of the grid, by the table of the construction, are what the demonstration says
pub demonstration : (kind : Kind) (d size seed : ℕ) (iso : ℤ) (t : Table) (g : Grid) (m : Mesh) (counts : MeshCounts) → IsMade kind d t → IsAccepted t
    → g ≡ demo_grid d size seed → iso ≡ demo_iso → m ≡ placed_mesh (volume kind g iso None) t → counts ≡ counts_of m
    → IsDemonstration kind d size seed (counts_text counts)
demonstration kind d size seed iso t g m counts made accepted grid at placed counted = record {
  t = t;
  made = made;
  accepted = accepted;
  said = ap counts_text (counted ∙ ap counts_of (placed ∙ ap (λ (z : ℤ). placed_mesh (volume kind g z None) t) at
      ∙ ap (λ (x : Grid). placed_mesh (volume kind x demo_iso None) t) grid));
}

pub demonstrated : {E : Type 0} (kind : Kind) (d size seed : ℕ) (iso : ℤ) (t : Table) (g : Grid) (m : Mesh) (result : Result MeshCounts E)
    → IsMade kind d t → IsAccepted t → g ≡ demo_grid d size seed → iso ≡ demo_iso → m ≡ placed_mesh (volume kind g iso None) t
    → IfOk result (λ counts. counts ≡ counts_of m) → IfOk result (λ counts. IsDemonstration kind d size seed (counts_text counts))
demonstrated kind d size seed iso t g m (Ok counts) made accepted grid at placed counted =
    demonstration kind d size seed iso t g m counts made accepted grid at placed counted
demonstrated kind d size seed iso t g m (Err e) made accepted grid at placed counted = tt

-- ---- how the demonstration ends

pub not_usage : (status : Status) → IsOfDemonstration status → IsUsage status → ⊥
not_usage (Statuses.Usage place) ends usage = ends
not_usage _ ends usage = usage

-- with the whole output, with a fault of it, without memory, or with the refusal of its table
pub ends_or_refused : (kind : Kind) (d : ℕ) (status : Status) → IsOfDemonstration status → (IsDecided status → IsRefusedMade kind d status)
    → IsOfPutting status ⊎ IsRefusedMade kind d status
ends_or_refused kind d Statuses.Done ends refused = inl tt
ends_or_refused kind d Statuses.Memory ends refused = inl tt
ends_or_refused kind d (Statuses.WriteFault count) ends refused = inl tt
ends_or_refused kind d (Statuses.TableRefused label r) ends refused = inr (refused tt)
ends_or_refused kind d _ ends refused = absurd ends

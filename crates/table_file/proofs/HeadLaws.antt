-- Heads, and bytes that begin with none.
use Rattle.std.specs.Prelude.{◌≡◌, ◌≢◌, ℕ, ◌+◌, ◌<◌, ◌≤◌, List, length, slice_index, take, All}
use Rattle.std.proofs.Common.{get_or, refl, sym, ap, ◌∙◌, subst, arith}
use Rattle.std.proofs.lemmas.List.{take_all, take-take, take-append-le, get_or-take}
use Rattle.std.proofs.lemmas.List.Elements.{All-nil, All-more, All-weaker}
use Rattle.iso_model.specs.declared.Kind.{Kind}
use Rattle.iso_model.specs.declared.Kind.TheVariants.{Cube}
use Rattle.iso_model.specs.Cells.{HasDimension}
use Rattle.iso_model.specs.Tables.{Table}
use Rattle.iso_formats.specs.TableFile.{head_bytes, table_bytes, IsWholeTable}
use Rattle.table_file.specs.Heads.{rows, IsAgreement, BeginsHead, StopsInHead}
use Rattle.table_file.proofs.TupleRows.{each_row}

-- at the place the bytes end, or they go on otherwise than this head
pub StopsRow : ℕ → List ℕ → ℕ → Kind × ℕ → Type 0
StopsRow version bytes place row = place < length bytes → take (place + 1) bytes ≡ take (place + 1) (head_bytes version row.0 row.1) → ⊥

-- a place reached by some head, and the rows so far do not go on there
pub record HasReached (version : ℕ) (bytes : List ℕ) (reached index : ℕ) : Type 0 where
  pub short : reached < 16
  pub inside : reached ≤ length bytes
  pub begun : BeginsHead version bytes reached
  pub stopped : All (StopsRow version bytes reached) (take index rows)

pub reached_none : (version : ℕ) (bytes : List ℕ) → HasReached version bytes 0 0
reached_none version bytes = record {
  short = omega arith;
  inside = omega arith;
  begun = record { kind = Cube; dimension = 2; fits = (omega arith, omega arith); same = refl };
  stopped = All-nil (StopsRow version bytes 0);
}

stops_later : (version : ℕ) (bytes : List ℕ) (place later : ℕ) (row : Kind × ℕ) → place ≤ later → StopsRow version bytes place row → StopsRow version bytes later row
unfolding StopsRow
stops_later version bytes place later row h s = λ inside e.
    let head = head_bytes version row.0 row.1 in
    s (omega arith)
    (sym (take-take (place + 1) (later + 1) bytes (omega arith)) ∙ ap (λ (l : List ℕ). take (place + 1) l) e
    ∙ take-take (place + 1) (later + 1) head (omega arith))

stops_there : (version : ℕ) (bytes : List ℕ) (kind : Kind) (d places later : ℕ) → IsAgreement bytes (head_bytes version kind d) places → places ≢ 16 → places ≤ later
    → StopsRow version bytes later (kind, d)
unfolding StopsRow
stops_there version bytes kind d places later a ne h =
    stops_later version bytes places later (kind, d) h
    (λ inside e.
    let short : places < 16 = omega (arith, a.inside_head) in
    let head = head_bytes version kind d in
    a.ends short inside
    (sym (get_or-take (places + 1) bytes places 0 (omega arith)) ∙ ap (λ (l : List ℕ). slice_index l places) e
    ∙ get_or-take (places + 1) head places 0 (omega arith)))

-- one more row
pub reached_more : (version : ℕ) (bytes : List ℕ) (reached index later : ℕ) (row : Kind × ℕ) (places : ℕ) → HasReached version bytes reached index → index < 7
    → get_or rows index row ≡ row → IsAgreement bytes (head_bytes version row.0 row.1) places → places ≢ 16
    → later < 16 → later ≤ length bytes → BeginsHead version bytes later → reached ≤ later → places ≤ later → HasReached version bytes later (index + 1)
reached_more version bytes reached index later row places r inside is a ne short long begun after there =
    let stopped =
    All-weaker (StopsRow version bytes reached) (StopsRow version bytes later) (λ row s. stops_later version bytes reached later row after s) (take index rows) r.stopped in
    let this = subst (λ (row : Kind × ℕ). StopsRow version bytes later row) (sym is) (stops_there version bytes row.0 row.1 places later a ne there) in
    record { short = short; inside = long; begun = begun; stopped = All-more (StopsRow version bytes later) rows index row inside stopped this }

pub agreement_begins : (version : ℕ) (bytes : List ℕ) (row : Kind × ℕ) (places : ℕ) → HasDimension row.0 row.1 → IsAgreement bytes (head_bytes version row.0 row.1) places
    → BeginsHead version bytes places
agreement_begins version bytes row places fits a = record { kind = row.0; dimension = row.1; fits = fits; same = a.same }

-- each kind and dimension is one of the seven
pub record StandsAmong (kind : Kind) (d : ℕ) : Type 0 where
  pub index : ℕ
  pub inside : index < 7
  pub is : get_or rows index (kind, d) ≡ (kind, d)

pub stands_among : (kind : Kind) (d : ℕ) → HasDimension kind d → StandsAmong kind d
stands_among =
    let by : (kind : Kind) (d : ℕ) → Type 0 = λ kind d. StandsAmong kind d in
    each_row by
    (record { index = 0; inside = omega arith; is = refl })
    (record { index = 1; inside = omega arith; is = refl })
    (record { index = 2; inside = omega arith; is = refl })
    (record { index = 3; inside = omega arith; is = refl })
    (record { index = 4; inside = omega arith; is = refl })
    (record { index = 5; inside = omega arith; is = refl })
    (record { index = 6; inside = omega arith; is = refl })

pub stops_in_head : (version : ℕ) (bytes : List ℕ) (reached index : ℕ) → HasReached version bytes reached index → 7 ≤ index → StopsInHead version bytes reached
unfolding StopsRow
stops_in_head version bytes reached index r all = record {
  inside_head = r.short;
  inside = r.inside;
  begun = r.begun;
  stopped = λ inside b.
      let s = stands_among b.kind b.dimension b.fits in
      let here : All (StopsRow version bytes reached) rows =
      subst (λ (l : List (Kind × ℕ)). All (StopsRow version bytes reached) l) (take_all index rows (omega arith)) r.stopped in
      let stops = subst (λ (row : Kind × ℕ). StopsRow version bytes reached row) s.is (here s.index (b.kind, b.dimension) s.inside) in
      stops inside b.same;
}

-- a table begins with a head
pub table_head : (t : Table) (n : ℕ) → n ≤ 16 → take n (table_bytes t) ≡ take n (head_bytes 1 t.kind t.dimension)
unfolding table_bytes
table_head t n h = take-append-le n (head_bytes 1 t.kind t.dimension) _ h

pub table_long : (t : Table) → 16 ≤ length (table_bytes t)
unfolding table_bytes
table_long t = omega arith

pub not_whole-head : (bytes : List ℕ) (place : ℕ) → StopsInHead 1 bytes place → IsWholeTable bytes → ⊥
not_whole-head bytes place s w =
    let long : place < length bytes = omega (arith, s.inside_head, table_long w.0, ap (λ (l : List ℕ). length l) w.1.1) in
    s.stopped long
    (record {
      kind = w.0.kind;
      dimension = w.0.dimension;
      fits = w.1.0.fits;
      same = ap (λ (l : List ℕ). take (place + 1) l) w.1.1 ∙ table_head w.0 (place + 1) (omega (arith, s.inside_head));
    })

-- The kept cubes of a grid around the rows of edges in a slice.
use Rattle.std.proofs.Common.{ap, arith, inl, inr, refl, sym, ◌∙◌}
use Rattle.std.proofs.lemmas.Bool.{cases_lt}
use Rattle.std.proofs.Math.Bool.{and-false}
use Rattle.std.specs.Prelude.{Bool, List, [], ◌∷◌, false, length, nat_lt, slice_index, true}
use Rattle.std.specs.Prelude.{ℕ, ◌&&◌, ◌||◌, ◌*◌, ◌+◌, ◌-◌, ◌/◌, ◌<◌, ◌≤◌, ◌≡◌}
use Rattle.lists.proofs.Tests.{next_below, or_false, not_below}
use Rattle.iso_model.specs.Values.{Volume}
use Rattle.iso_model.proofs.DimensionLaws.{dimension_cases}
use Rattle.bit_rows.specs.Rows.{row_bit}
use Rattle.grid_rows.specs.declared.grids.GridRows.{GridRows}
use Rattle.grid_rows.specs.declared.planes.BitPlane.{BitPlane}
use Rattle.grid_rows.specs.Planes.{bit_row}
use Rattle.grid_rows.specs.RowNumbers.{bordered}
use Rattle.edge_middles.specs.WhatIsThere.{has_cube_at, is_kept_at}
use Rattle.layer_scan.specs.GridPlanes.{IsKeptAtLast, IsKeptAtSlice, TellsBelow, after_first}
use Rattle.layer_scan.specs.ScanPlanes.{HasClearBorder}
use Rattle.layer_scan.proofs.GridCubes.{told_around}
use Rattle.layer_scan.proofs.GridKept.{around_at, level, none_past_second, none_past_third}
use Rattle.iso_model.proofs.CellCounts.{axes_between}

slice_level : (v : Volume) (axes s x p q : ℕ)
    → level v axes (4 * s) x p q ≡ (is_kept_at v (x ∷ after_first axes p q (s - 1)) || is_kept_at v (x ∷ after_first axes p q s))
slice_level v axes s x p q =
    let low : (4 * s + 3) / 4 - 1 ≡ s - 1 = omega arith in
    let high : 4 * s / 4 ≡ s = omega arith in
    let test = λ (t : ℕ). is_kept_at v (x ∷ after_first axes p q t) in
    ap (λ t. test t || (test (4 * s / 4) || false)) low ∙ ap (λ t. test (s - 1) || (test t || false)) high
    ∙ ap (λ t. test (s - 1) || t) (or_false (test s))

below_clear : (v : Volume) (rows : GridRows) (s : ℕ) (below : BitPlane) → TellsBelow v rows s below → HasClearBorder rows below
below_clear v rows s below tells = elim (cases_lt 0 s) [
  | inl some ↦ (tells.1 (omega (arith, some))).clear
  | inr none ↦ λ n h other x. tells.0 (omega (arith, none)) n x h
]

twice_or : (a : Bool) → (false || a) ≡ (a || a)
twice_or true = refl
twice_or false = refl

-- what is kept below or at a place above
below_or : (v : Volume) (rows : GridRows) (s : ℕ) (below : BitPlane) (p q x : ℕ) → TellsBelow v rows s below → p < rows.second.cubes → q < rows.third.cubes
    → (row_bit (bit_row below (bordered rows (p + 1) (q + 1))) x || is_kept_at v (x ∷ after_first (length v.sizes) p q s))
    ≡ (is_kept_at v (x ∷ after_first (length v.sizes) p q (s - 1)) || is_kept_at v (x ∷ after_first (length v.sizes) p q s))
below_or v rows s below p q x tells h k =
    let test = λ (t : ℕ). is_kept_at v (x ∷ after_first (length v.sizes) p q t) in
    elim (cases_lt 0 s) [
      | inl some ↦ ap (λ t. t || test s) ((tells.1 (omega (arith, some))).cubes p q x h k)
      | inr none ↦
          let first : s - 1 ≡ s = omega (arith, none) in
          let there = next_below (p + 1) (rows.second.cubes + 2) (q + 1) (rows.third.cubes + 2) (omega (arith, h)) (omega (arith, k)) in
          ap (λ t. t || test s) (tells.0 (omega (arith, none)) (bordered rows (p + 1) (q + 1)) x there) ∙ twice_or (test s)
          ∙ ap (λ t. test t || test s) (sym first)
    ]

-- ---- past the last cube along a middle axis

level_past : (v : Volume) (axes s x p q : ℕ) → ((t : ℕ) → has_cube_at v.sizes (x ∷ after_first axes p q t) ≡ false)
    → level v axes (4 * s) x p q ≡ false
level_past v axes s x p q none =
    slice_level v axes s x p q
    ∙ ap (λ t. (t && v.kept (x ∷ after_first axes p q (s - 1))) || is_kept_at v (x ∷ after_first axes p q s)) (none (s - 1))
    ∙ ap (λ t. t && v.kept (x ∷ after_first axes p q s)) (none s)

pub kept_at_slice : (v : Volume) (rows : GridRows) (s : ℕ) (below above plane : BitPlane) → IsKeptAtSlice v rows s below above plane
kept_at_slice v rows s below above plane fits is under over either i j x h k =
    let axes : ℕ = length v.sizes in
    let within = axes_between axes (dimension_cases v.kind axes fits) in
    told_around rows plane x (level v axes (4 * s) x) i j (record {
      clear = λ n low none y. either n low y ∙ ap (λ t. t || row_bit (bit_row above n) y) (below_clear v rows s below under n low none y)
          ∙ over.clear n low none y;
      cubes = λ p q low near.
          let n : ℕ = bordered rows (p + 1) (q + 1) in
          let there = next_below (p + 1) (rows.second.cubes + 2) (q + 1) (rows.third.cubes + 2) (omega (arith, low)) (omega (arith, near)) in
          either n there x ∙ ap (λ t. row_bit (bit_row below n) x || t) (over.cubes p q x low near)
          ∙ below_or v rows s below p q x under low near ∙ sym (slice_level v axes s x p q);
      none_first = λ p q low high. level_past v axes s x p q (λ t. none_past_second rows v.sizes p q t x within.0 within.1 is low high);
      none_last = λ p q low high. level_past v axes s x p q (λ t. none_past_third rows v.sizes p q t x within.0 within.1 is low high);
    }) h k ∙ sym (around_at v (4 * s) x i j axes (dimension_cases v.kind axes fits))

-- ---- the last slice

none_past_last : (sizes : List ℕ) (p q s x : ℕ) → 2 ≤ length sizes → length sizes ≤ 4 → s + 1 ≡ slice_index sizes (length sizes - 1)
    → has_cube_at sizes (x ∷ after_first (length sizes) p q s) ≡ false
none_past_last [] p q s x few most last = absurd (omega (arith, few))
none_past_last (a ∷ []) p q s x few most last = absurd (omega (arith, few))
none_past_last (a ∷ b ∷ []) p q s x few most last =
    ap (λ t. nat_lt (x + 1) a && (t && true)) (not_below (s + 1) b (omega (arith, last))) ∙ and-false (nat_lt (x + 1) a)
none_past_last (a ∷ b ∷ c ∷ []) p q s x few most last =
    ap (λ t. nat_lt (x + 1) a && (nat_lt (p + 1) b && (t && true))) (not_below (s + 1) c (omega (arith, last)))
    ∙ ap (λ t. nat_lt (x + 1) a && t) (and-false (nat_lt (p + 1) b)) ∙ and-false (nat_lt (x + 1) a)
none_past_last (a ∷ b ∷ c ∷ d ∷ []) p q s x few most last =
    ap (λ t. nat_lt (x + 1) a && (nat_lt (p + 1) b && (nat_lt (q + 1) c && (t && true)))) (not_below (s + 1) d (omega (arith, last)))
    ∙ ap (λ t. nat_lt (x + 1) a && (nat_lt (p + 1) b && t)) (and-false (nat_lt (q + 1) c))
    ∙ ap (λ t. nat_lt (x + 1) a && t) (and-false (nat_lt (p + 1) b)) ∙ and-false (nat_lt (x + 1) a)
none_past_last (a ∷ b ∷ c ∷ d ∷ e ∷ more) p q s x few most last = absurd (omega (arith, most))

pub kept_at_last : (v : Volume) (rows : GridRows) (s : ℕ) (below : BitPlane) → IsKeptAtLast v rows s below
kept_at_last v rows s below fits is end under i j x h k =
    let axes : ℕ = length v.sizes in
    let within = axes_between axes (dimension_cases v.kind axes fits) in
    told_around rows below x (level v axes (4 * s) x) i j (record {
      clear = below_clear v rows s below under;
      cubes = λ p q low near.
          let bit : Bool = row_bit (bit_row below (bordered rows (p + 1) (q + 1))) x in
          let above : is_kept_at v (x ∷ after_first axes p q s) ≡ false =
          ap (λ t. t && v.kept (x ∷ after_first axes p q s)) (none_past_last v.sizes p q s x within.0 within.1 end) in
          sym (or_false bit) ∙ ap (λ t. bit || t) (sym above) ∙ below_or v rows s below p q x under low near ∙ sym (slice_level v axes s x p q);
      none_first = λ p q low high. level_past v axes s x p q (λ t. none_past_second rows v.sizes p q t x within.0 within.1 is low high);
      none_last = λ p q low high. level_past v axes s x p q (λ t. none_past_third rows v.sizes p q t x within.0 within.1 is low high);
    }) h k ∙ sym (around_at v (4 * s) x i j axes (dimension_cases v.kind axes fits))

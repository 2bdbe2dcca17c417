-- Planes of a scan: which bits can be set, in new planes and in those that are written.
use Rattle.std.proofs.Common.{ap, arith, inl, inr, sym, ◌∙◌}
use Rattle.std.proofs.lemmas.Bool.{cases_eq, cases_lt, false≢true, or_cases}
use Rattle.std.proofs.lemmas.List.{get_or-replicate, get_or_past, length-replicate}
use Rattle.std.proofs.lemmas.List.Sums.{AllPass-from_list_all}
use Rattle.std.specs.Prelude.{Bool, List, false, length, replicate, slice_index, slice_index_or, slice_range, suc, true, zero}
use Rattle.std.specs.Prelude.{ℕ, ℤ, ◌%◌, ◌&&◌, ◌*◌, ◌+◌, ◌-◌, ◌/◌, ◌<◌, ◌≤◌, ◌≡◌, ◌≢◌, ◌⊎◌, Option, nat_lt, pos}
use Rattle.lists.specs.Bits.{is_set}
use Rattle.lists.proofs.Tests.{and_left, and_right, lt_of}
use Rattle.bit_rows.specs.Rows.{row_bit}
use Rattle.bit_rows.specs.SampleRows.{is_clear, is_clear_at}
use Rattle.bit_rows.proofs.RowBits.{no_bits}
use Rattle.grid_rows.specs.declared.grids.GridRows.{GridRows}
use Rattle.grid_rows.specs.declared.planes.BitPlane.{BitPlane}
use Rattle.grid_rows.specs.Planes.{IsClear, bit_row}
use Rattle.grid_rows.specs.RowNumbers.{bordered_rows, cube_rows, sample_rows}
use Rattle.grid_rows.proofs.PlaneRows.{empty_rows}
use Rattle.layer_scan.specs.Corners.{all_four}
use Rattle.layer_scan.specs.CubePlanes.{AreCubeBits, AreEither, KeepsBorder, corner_rows, every_at, with_border}
use Rattle.layer_scan.specs.FlaggedCubes.{flag_at, flags_of}
use Rattle.layer_scan.specs.ScanPlanes.{HasBitsBelow, HasClearBorder, HasNoBit, IsNewPlane}
use Rattle.layer_scan.specs.SlicePlanes.{AreSampleBits, samples_of}
use Rattle.layer_scan.proofs.PlaneRowSteps.{sample_row_there}
use Rattle.layer_scan.proofs.SliceRows.{long_range, row_inside}

-- ---- new planes

empty_row : (words x : ℕ) → row_bit (replicate words 0) x ≡ false
empty_row words x = elim (cases_lt (x / 64) words) [
  | inl within ↦ ap (λ n. is_set n (x % 64)) (get_or-replicate words (x / 64) 0 0 within) ∙ no_bits (x % 64)
  | inr out ↦
      let past : length (replicate words 0) ≤ x / 64 = omega (arith, length-replicate {A = ℕ} words 0, out) in
      ap (λ n. is_set n (x % 64)) (get_or_past (replicate words 0) (x / 64) 0 past) ∙ no_bits (x % 64)
]

new_empty : (rows words : ℕ) (plane : BitPlane) → IsClear rows words plane → HasNoBit rows plane
new_empty rows words plane clear n x h =
    let row = empty_rows plane.bits.items 0 rows words n clear.1 h in
    ap (λ w. row_bit (slice_range plane.bits.items (n * w) (n * w + w)) x) clear.0 ∙ ap (λ r. row_bit r x) row.1 ∙ empty_row words x

pub empty_below : (rows place : ℕ) (plane : BitPlane) → HasNoBit rows plane → HasBitsBelow rows place plane
empty_below rows place plane none n x h is = absurd (false≢true (sym (none n x h) ∙ is))

-- ---- samples that are not blank

pub clear_below : (rows : GridRows) (blank : Option ℤ) (slice : List ℤ) (plane : BitPlane) → length slice ≡ sample_rows rows * rows.length
    → AreSampleBits rows (is_clear_at blank) slice plane → HasBitsBelow (sample_rows rows) rows.length plane
clear_below rows blank slice plane long bits n x h is =
    let samples : List ℤ = samples_of rows slice n in
    let inside = row_inside n rows.length (sample_rows rows) (length slice) h long in
    let there = lt_of x (length samples)
    (and_left (nat_lt x (length samples)) (is_clear blank (slice_index_or samples x (pos 0))) (sym (bits n h x) ∙ is)) in
    omega (arith, there, long_range slice (n * rows.length) rows.length inside)

-- ---- planes of cubes

border_or_cube : (rows : GridRows) (n m : ℕ) → ((c : ℕ) × (c < m) × (n ≡ with_border rows c)) ⊎ ((c : ℕ) → c < m → n ≢ with_border rows c)
border_or_cube rows n zero = inr (λ c lt. absurd (omega (arith, lt)))
border_or_cube rows n (suc m) = by_case (cases_eq n (with_border rows m)) (border_or_cube rows n m)
  where
    by_case : (n ≡ with_border rows m) ⊎ (n ≢ with_border rows m)
        → ((c : ℕ) × (c < m) × (n ≡ with_border rows c)) ⊎ ((c : ℕ) → c < m → n ≢ with_border rows c)
        → ((c : ℕ) × (c < suc m) × (n ≡ with_border rows c)) ⊎ ((c : ℕ) → c < suc m → n ≢ with_border rows c)
    by_case (inl same) before = inl (m, omega arith, same)
    by_case (inr other) (inl found) = inl (found.0, omega (arith, found.1), found.2)
    by_case (inr other) (inr none) = inr (λ c lt. elim (cases_lt c m) [
      | inl less ↦ none c less
      | inr more ↦ let at : c ≡ m = omega (arith, lt, more) in λ e. other (e ∙ ap (with_border rows) at)
    ])

pub cubes_below : (rows : GridRows) (passes : ℕ → ℕ → Bool) (place : ℕ) (plane : BitPlane) → AreCubeBits rows passes plane → HasClearBorder rows plane
    → ((c x : ℕ) → c < cube_rows rows → passes c x ≡ true → x < place) → HasBitsBelow (bordered_rows rows) place plane
cubes_below rows passes place plane cubes border below n x h is = elim (border_or_cube rows n (cube_rows rows)) [
  | inl found ↦ below found.0 x found.1 (sym (cubes found.0 found.1 x) ∙ ap (λ m. row_bit (bit_row plane m) x) (sym found.2) ∙ is)
  | inr none ↦ absurd (false≢true (sym (border n h none x) ∙ is))
]

pub border_stays : (rows : GridRows) (old new : BitPlane) → HasClearBorder rows old → KeepsBorder rows old new → HasClearBorder rows new
border_stays rows old new clear keeps n h none x = ap (λ r. row_bit r x) (keeps n h none) ∙ clear n h none x

pub flags_below : (rows : GridRows) (flags : List Bool) (c x : ℕ) → length flags ≡ cube_rows rows * (rows.length - 1) → c < cube_rows rows
    → flag_at rows flags c x ≡ true → x < rows.length - 1
flags_below rows flags c x long h is =
    let own : List Bool = flags_of rows flags c in
    let inside = row_inside c (rows.length - 1) (cube_rows rows) (length flags) h long in
    let there = lt_of x (length own) (and_left (nat_lt x (length own)) (slice_index_or own x false) is) in
    omega (arith, there, long_range flags (c * (rows.length - 1)) (rows.length - 1) inside)

pub every_below : (rows : GridRows) (lower upper : BitPlane) (c x : ℕ) → HasBitsBelow (sample_rows rows) rows.length lower → c < cube_rows rows
    → every_at lower upper rows c x ≡ true → x < rows.length - 1
every_below rows lower upper c x below h is =
    let first : ℕ = slice_index (corner_rows rows c) 0 in
    let low : List ℕ = bit_row lower first in
    let high : List ℕ = bit_row upper first in
    let four : all_four low high x ≡ true =
    AllPass-from_list_all (λ n. all_four (bit_row lower n) (bit_row upper n) x) (corner_rows rows c) is 0 0 (omega arith) in
    let pair = and_left (row_bit low x && row_bit low (x + 1)) (row_bit high x && row_bit high (x + 1)) four in
    let next = below first (x + 1) (sample_row_there rows c h) (and_right (row_bit low x) (row_bit low (x + 1)) pair) in
    omega (arith, next)

pub either_below : (rows place : ℕ) (below above plane : BitPlane) → HasBitsBelow rows place below → HasBitsBelow rows place above
    → AreEither rows below above plane → HasBitsBelow rows place plane
either_below rows place below above plane first second either n x h is =
    elim (or_cases (row_bit (bit_row below n) x) (row_bit (bit_row above n) x) (sym (either n h x) ∙ is)) [
      | inl low ↦ first n x h low
      | inr high ↦ second n x h high
    ]

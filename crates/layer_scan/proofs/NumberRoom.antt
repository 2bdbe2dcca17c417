-- How far the numbers of edges go: in each row there are at most as many edges of each direction as samples.
use Rattle.std.proofs.Common.{ap, arith, inl, inr, refl, subst, sym, ◌∙◌}
use Rattle.std.proofs.Math.Nat.{mul-le-mul_right}
use Rattle.std.proofs.lemmas.Bool.{or_cases}
use Rattle.std.proofs.lemmas.List.Folds.{Any-from_list_any}
use Rattle.std.proofs.lemmas.Nat.{div_below, mod_below}
use Rattle.std.specs.Prelude.{Bool, List, cond, count_by, slice_index_or, false, map, nat_lt, suc, true, zero}
use Rattle.std.specs.Prelude.{ℕ, ◌%◌, ◌&&◌, ◌||◌, ◌*◌, ◌+◌, ◌-◌, ◌/◌, ◌<◌, ◌≤◌, ◌≡◌, ◌^◌}
use Rattle.lists.specs.Orders.{numbers}
use Rattle.lists.proofs.MemberLaws.{list_any-map}
use Rattle.lists.proofs.Powers.{sum_suc}
use Rattle.lists.proofs.Tests.{and_left, and_right, lt_of, next_below}
use Rattle.iso_model.specs.declared.Kind.{Kind}
use Rattle.iso_model.specs.Bipolar.{differ}
use Rattle.bit_rows.specs.Rows.{row_bit}
use Rattle.grid_rows.specs.declared.grids.GridRows.{GridRows}
use Rattle.grid_rows.specs.declared.grids.MiddleAxis.{MiddleAxis}
use Rattle.grid_rows.specs.declared.planes.BitPlane.{BitPlane}
use Rattle.grid_rows.specs.MiddleAxes.{edge_span}
use Rattle.grid_rows.specs.Planes.{bit_row}
use Rattle.grid_rows.specs.RowNumbers.{bordered_rows, cube_rows, edge_rows, sample_rows, upper_half}
use Rattle.layer_scan.specs.CubePlanes.{with_border}
use Rattle.layer_scan.specs.Directions.{axes_of, goes_along}
use Rattle.layer_scan.specs.PlanesOfCentres.{HasThreeAxes, centre_firsts, centre_seconds}
use Rattle.layer_scan.specs.PlanesOfEdges.{edge_row_of, firsts_of, seconds_of}
use Rattle.layer_scan.specs.RowsOfEdges.{around, around_before, row_number}
use Rattle.layer_scan.specs.ScanPlanes.{HasBitsBelow, HasFewSamples}
use Rattle.layer_scan.proofs.EdgePlaneSteps.{next_row}
use Rattle.layer_scan.proofs.PlaneRowSteps.{within_border}
use Rattle.layer_scan.proofs.ScanRoom.{few_edge_rows}

-- where only places below a number pass, no more than so many do
count_within : (f : ℕ → Bool) (most n : ℕ) → ((x : ℕ) → f x ≡ true → x < most) → (count_by f (numbers n) ≤ n) × (count_by f (numbers n) ≤ most)
count_within f most zero below = (omega arith, omega arith)
count_within f most (suc n) below = by_case (f n) refl (count_within f most n below)
  where
    place : 0 + n ≡ n
    place = omega arith

    next : (b : Bool) → f n ≡ b → count_by f (numbers (suc n)) ≡ count_by f (numbers n) + cond b 1 0
    next b is = sum_suc (λ x. cond (f x) 1 0) 0 n ∙ ap (λ t. count_by f (numbers n) + cond t 1 0) (ap f place ∙ is)

    by_case : (b : Bool) → f n ≡ b → (count_by f (numbers n) ≤ n) × (count_by f (numbers n) ≤ most)
        → (count_by f (numbers (suc n)) ≤ suc n) × (count_by f (numbers (suc n)) ≤ most)
    by_case true is before = (omega (arith, next true is, before.0), omega (arith, next true is, before.0, below n is))
    by_case false is before = (omega (arith, next false is, before.0), omega (arith, next false is, before.1))

-- the number after so many rows
pub few_numbers : (f g : ℕ → ℕ → Bool) (words count most n : ℕ) → ((m x : ℕ) → m < n → f m x ≡ true → x < most)
    → ((m x : ℕ) → m < n → g m x ≡ true → x < most) → row_number f g words count n ≤ count + n * (2 * most)
few_numbers f g words count most zero first second = omega arith
few_numbers f g words count most (suc n) first second =
    let after : suc n ≡ n + 1 = omega arith in
    let before = few_numbers f g words count most n (λ m x h. first m x (omega (arith, h))) (λ m x h. second m x (omega (arith, h))) in
    let one = (count_within (f n) most (64 * words) (λ x. first n x (omega arith))).1 in
    let two = (count_within (g n) most (64 * words) (λ x. second n x (omega arith))).1 in
    let here = ap (row_number f g words count) after ∙ next_row f g words count n in
    omega (arith, before, one, two, here)

-- ---- rows of edges between samples

cubes_there : (rows : GridRows) (n k d : ℕ) → n < edge_rows rows → k < 4 → slice_index_or (edge_row_of rows n).cubes k d < bordered_rows rows
cubes_there rows n k d h low =
    let i : ℕ = n % edge_span rows.second in
    let j : ℕ = n / edge_span rows.second in
    let some : 0 < edge_span rows.second = omega (arith, rows.few.0.0) in
    let turned : n < edge_span rows.third * edge_span rows.second = omega (arith, h) in
    let first : i < edge_span rows.second = mod_below n (edge_span rows.second) some in
    let second : j < edge_span rows.third = div_below n (edge_span rows.second) (edge_span rows.third) some turned in
    let a : (i + 1) / 2 < rows.second.cubes + 2 = omega (arith, first, rows.few.0.2, rows.few.0.3) in
    let b : i / 2 + 1 < rows.second.cubes + 2 = omega (arith, first, rows.few.0.2, rows.few.0.3) in
    let c : (j + 1) / 2 < rows.third.cubes + 2 = omega (arith, second, rows.few.1.2, rows.few.1.3) in
    let e : j / 2 + 1 < rows.third.cubes + 2 = omega (arith, second, rows.few.1.2, rows.few.1.3) in
    let at = λ (p q : ℕ) (s : p < rows.second.cubes + 2) (t : q < rows.third.cubes + 2).
    next_below p (rows.second.cubes + 2) q (rows.third.cubes + 2) s t in
    by_place k low (at ((i + 1) / 2) ((j + 1) / 2) a c) (at (i / 2 + 1) ((j + 1) / 2) b c) (at ((i + 1) / 2) (j / 2 + 1) a e) (at (i / 2 + 1) (j / 2 + 1) b e)
  where
    by_place : (k : ℕ) → k < 4 → slice_index_or (edge_row_of rows n).cubes 0 d < bordered_rows rows
        → slice_index_or (edge_row_of rows n).cubes 1 d < bordered_rows rows → slice_index_or (edge_row_of rows n).cubes 2 d < bordered_rows rows
        → slice_index_or (edge_row_of rows n).cubes 3 d < bordered_rows rows → slice_index_or (edge_row_of rows n).cubes k d < bordered_rows rows
    by_place zero low p q r s = p
    by_place (suc zero) low p q r s = q
    by_place (suc (suc zero)) low p q r s = r
    by_place (suc (suc (suc zero))) low p q r s = s
    by_place (suc (suc (suc (suc k)))) low p q r s = absurd (omega (arith, low))

cube_around : (rows : GridRows) (kept : BitPlane) (n x : ℕ) → n < edge_rows rows → HasBitsBelow (bordered_rows rows) (rows.length - 1) kept
    → around (map (bit_row kept) (edge_row_of rows n).cubes) x ≡ true → x < rows.length - 1
cube_around rows kept n x h below is =
    let cubes : List ℕ = (edge_row_of rows n).cubes in
    let some = Any-from_list_any (λ m. row_bit (bit_row kept m) x) cubes (sym (list_any-map (λ row. row_bit row x) (bit_row kept) cubes) ∙ is) in
    let there : some.1 < bordered_rows rows = subst (λ (m : ℕ). m < bordered_rows rows) some.3 (cubes_there rows n some.0 some.1 h (omega (arith, some.2))) in
    below some.1 x there some.4

pub first_below : (rows : GridRows) (kind : Kind) (upright : Bool) (near far kept : BitPlane) (n x : ℕ) → n < edge_rows rows
    → HasBitsBelow (bordered_rows rows) (rows.length - 1) kept → firsts_of rows kind upright near far kept n x ≡ true → x < rows.length
first_below rows kind upright near far kept n x h below is =
    let row = edge_row_of rows n in
    let cubes : List (List ℕ) = map (bit_row kept) row.cubes in
    let ends : Bool = differ (row_bit (bit_row near row.near) x) (row_bit (bit_row far row.far) x) in
    let there = and_right ends (around cubes x || around_before cubes x)
    (and_right (goes_along kind (axes_of row.along upright)) (ends && (around cubes x || around_before cubes x)) is) in
    elim (or_cases (around cubes x) (around_before cubes x) there) [
      | inl here ↦ omega (arith, cube_around rows kept n x h below here)
      | inr before ↦
          let some = lt_of 0 x (and_left (nat_lt 0 x) (around cubes (x - 1)) before) in
          let cube = cube_around rows kept n (x - 1) h below (and_right (nat_lt 0 x) (around cubes (x - 1)) before) in
          omega (arith, some, cube)
    ]

pub second_below : (rows : GridRows) (kind : Kind) (upright : Bool) (near far kept : BitPlane) (n x : ℕ) → n < edge_rows rows
    → HasBitsBelow (bordered_rows rows) (rows.length - 1) kept → seconds_of rows kind upright near far kept n x ≡ true → x < rows.length
second_below rows kind upright near far kept n x h below is =
    let row = edge_row_of rows n in
    let cubes : List (List ℕ) = map (bit_row kept) row.cubes in
    let ends : Bool = differ (row_bit (bit_row near row.near) x) (row_bit (bit_row far row.far) (x + 1)) in
    let there = and_right ends (around cubes x)
    (and_right (goes_along kind (axes_of row.along upright + 1)) (ends && around cubes x) is) in
    omega (arith, cube_around rows kept n x h below there)

-- the number after a plane of edges between samples
pub edges_counted : (rows : GridRows) (kind : Kind) (upright : Bool) (near far kept : BitPlane) (count : ℕ)
    → HasBitsBelow (bordered_rows rows) (rows.length - 1) kept
    → row_number (firsts_of rows kind upright near far kept) (seconds_of rows kind upright near far kept) rows.words count (edge_rows rows)
    ≤ count + edge_rows rows * (2 * rows.length)
edges_counted rows kind upright near far kept count below =
    few_numbers (firsts_of rows kind upright near far kept) (seconds_of rows kind upright near far kept) rows.words count rows.length (edge_rows rows)
    (λ m x h is. first_below rows kind upright near far kept m x h below is) (λ m x h is. second_below rows kind upright near far kept m x h below is)

-- ---- rows of edges to centres

centre_below : (rows : GridRows) (kept : BitPlane) (n x : ℕ) (ends : Bool) → n < 2 * cube_rows rows
    → HasBitsBelow (bordered_rows rows) (rows.length - 1) kept → (ends && row_bit (bit_row kept (with_border rows (n / 2))) x) ≡ true → x < rows.length
centre_below rows kept n x ends h below is =
    let row : n / 2 < cube_rows rows = omega (arith, h) in
    let cube = below (with_border rows (n / 2)) x (within_border rows (n / 2) row) (and_right ends (row_bit (bit_row kept (with_border rows (n / 2))) x) is) in
    omega (arith, cube)

-- the number after a plane of edges to centres
pub centres_counted : (rows : GridRows) (centres corners kept : BitPlane) (count : ℕ) → HasBitsBelow (bordered_rows rows) (rows.length - 1) kept
    → row_number (centre_firsts rows centres corners kept) (centre_seconds rows centres corners kept) rows.words count (2 * cube_rows rows)
    ≤ count + 2 * cube_rows rows * (2 * rows.length)
centres_counted rows centres corners kept count below =
    few_numbers (centre_firsts rows centres corners kept) (centre_seconds rows centres corners kept) rows.words count rows.length (2 * cube_rows rows)
    (λ m x h is. centre_below rows kept m x (ends m x x) h below is) (λ m x h is. centre_below rows kept m x (ends m x (x + 1)) h below is)
  where
    ends : (m x y : ℕ) → Bool
    ends m x y = differ (row_bit (bit_row centres (with_border rows (m / 2))) x) (row_bit (bit_row corners (upper_half m)) y)

-- ---- room for the numbers

pub edge_room : (rows : GridRows) (count : ℕ) → HasFewSamples rows → count ≤ 2 ^ 31 → count + edge_rows rows * (2 * rows.length) < 2 ^ 32
edge_room rows count few h =
    let all : edge_rows rows * (2 * rows.length) ≤ 4 * sample_rows rows * (2 * rows.length) = mul-le-mul_right (2 * rows.length) (few_edge_rows rows) in
    omega (arith, h, few.few, all)

-- in three dimensions the edges of a layer of pyramids, with those to the centres, have room
pub pyramid_room : (rows : GridRows) (count : ℕ) → HasFewSamples rows → HasThreeAxes rows → count ≤ 2 ^ 31
    → count + 2 * cube_rows rows * (2 * rows.length) + edge_rows rows * (2 * rows.length) + 2 * cube_rows rows * (2 * rows.length) < 2 ^ 32
pyramid_room rows count few three h =
    let samples : sample_rows rows ≡ rows.second.samples * 1 = ap (λ (a : MiddleAxis). rows.second.samples * a.samples) three.1 in
    let cubes : cube_rows rows ≡ rows.second.cubes * 1 = ap (λ (a : MiddleAxis). rows.second.cubes * a.cubes) three.1 in
    let edges : edge_rows rows ≡ edge_span rows.second * 1 = ap (λ (a : MiddleAxis). edge_span rows.second * edge_span a) three.1 in
    let fewer : cube_rows rows ≤ sample_rows rows = omega (arith, samples, cubes, rows.few.0.2) in
    let twice : edge_rows rows ≤ 2 * sample_rows rows = omega (arith, samples, edges) in
    let one : cube_rows rows * rows.length ≤ sample_rows rows * rows.length = mul-le-mul_right rows.length fewer in
    let two : edge_rows rows * rows.length ≤ 2 * sample_rows rows * rows.length = mul-le-mul_right rows.length twice in
    omega (arith, h, few.few, one, two)

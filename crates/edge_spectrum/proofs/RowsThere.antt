-- How many edges that join samples are there in a row of midpoints, by the samples at their ends.
use Rattle.std.proofs.Common.{ap, arith, refl, sym, subst, ◌∙◌}
use Rattle.std.proofs.Math.Nat.{mod-eq_of_lt}
use Rattle.std.proofs.lemmas.Bool.{false≢true}
use Rattle.std.proofs.lemmas.Bool.Decides.{nat_tests}
use Rattle.std.proofs.lemmas.List.{length-drop}
use Rattle.std.proofs.lemmas.List.Elements.{All-head, All-tail}
use Rattle.std.specs.Prelude.{ℕ, suc, zero, ◌+◌, ◌-◌, ◌*◌, ◌/◌, ◌%◌, ◌<◌, ◌≤◌, ◌≡◌, ◌==◌, Bool, true, false, ◌&&◌, ◌||◌, List, [], ◌∷◌, ℤ, pos, drop, length}
use Rattle.std.specs.Prelude.{All, count_by, int_le, map, nat_lt, slice_index, slice_index_or, if◌then◌else◌}
use Rattle.lists.specs.Orders.{numbers}
use Rattle.lists.proofs.Sorting.{count_by-cons}
use Rattle.lists.proofs.Tests.{of_lt}
use Rattle.iso_model.specs.declared.Kind.{Kind}
use Rattle.iso_model.specs.declared.Kind.TheVariants.{Cube, Simplex, Pyramid}
use Rattle.iso_model.specs.Bipolar.{differ}
use Rattle.iso_model.specs.Values.{Grid, Volume, sample_number}
use Rattle.edge_middles.specs.GridMiddles.{is_there}
use Rattle.edge_middles.specs.Middles.{axes_along, joins_samples}
use Rattle.edge_middles.specs.RowLists.{row_at, sample_row}
use Rattle.edge_middles.specs.WhatIsThere.{goes_first, goes_second, has_cube_at, is_above_at, is_kept_around, sample_above, sample_below}
use Rattle.edge_middles.proofs.PointsThere.{along_axis}
use Rattle.edge_middles.proofs.WhatIsThere.{there_in_row}
use Rattle.grid_rows.specs.declared.grids.GridRows.{GridRows}
use Rattle.grid_rows.specs.declared.grids.EdgeRow.{EdgeRow}
use Rattle.grid_rows.specs.declared.grids.MiddleAxis.{MiddleAxis}
use Rattle.grid_rows.specs.MiddleAxes.{axis_of, edge_span}
use Rattle.grid_rows.specs.RowNumbers.{IsEdgeRow, edge_rows, sample_rows}
use Rattle.edge_spectrum.specs.Counted.{IsWalked, apart, axes_of, goes_along, grid_at, reaches}
use Rattle.edge_spectrum.specs.Growing.{one_if}
use Rattle.edge_spectrum.proofs.CountedRows.{count_but_last, count_goes, count_same, row_length}
use Rattle.edge_spectrum.proofs.WholeGrids.{below_there, cube_below, kept_here, last_of_rest, none_past}
use Rattle.edge_middles.proofs.RowLists.{half_odd}

-- ---- the directions of a row

first_goes : (kind : Kind) (rest : List ℕ) → goes_first kind rest ≡ goes_along kind (axes_along rest)
first_goes Cube rest = refl
first_goes Simplex rest = refl
first_goes Pyramid rest = refl

one_more : (n : ℕ) → (n == 0) ≡ (n + 1 == 1)
one_more n = grind (arith, nat_tests)

some_more : (n : ℕ) → true ≡ nat_lt 0 (n + 1)
some_more n = grind (arith, nat_tests)

second_goes : (kind : Kind) (rest : List ℕ) → goes_second kind rest ≡ goes_along kind (axes_along rest + 1)
second_goes Cube rest = one_more (axes_along rest)
second_goes Simplex rest = some_more (axes_along rest)
second_goes Pyramid rest = one_more (axes_along rest)

-- ---- tests

under_kept : (goes test kept : Bool) → kept ≡ true → (goes && (test && kept)) ≡ (goes && test)
under_kept true true kept is = is
under_kept true false kept is = refl
under_kept false test kept is = refl

never_kept : (goes test kept : Bool) → kept ≡ false → (goes && (test && kept)) ≡ false
never_kept true true kept is = is
never_kept true false kept is = refl
never_kept false test kept is = refl

-- the cube at x or the one before it is there
one_of_two : (kept before : Bool) (x n : ℕ) → 2 ≤ n → x < n → (x + 1 < n → kept ≡ true) → (1 ≤ x → before ≡ true) → (kept || (nat_lt 0 x && before)) ≡ true
one_of_two true before x n two inside here low = refl
one_of_two false before zero n two inside here low = absurd (false≢true (here (omega (arith, two))))
one_of_two false before (suc x) n two inside here low = let further = of_lt 0 (suc x) (omega arith) in (λ i. further i && low (omega arith) i)

-- ---- the places of a row

never_odd : (k : ℕ) → k < 1 → one_if (k % 2 == 1) ≡ 0
never_odd k few = let none : 0 ≡ k = omega (arith, few) in subst (λ n. one_if (n % 2 == 1) ≡ 0) none refl

one_test : (p : ℕ → Bool) (a : ℕ) → count_by p (a ∷ []) ≡ one_if (p a)
one_test p a = count_by-cons p a [] ∙ omega arith

two_tests : (p : ℕ → Bool) (a b : ℕ) → count_by p (a ∷ b ∷ []) ≡ one_if (p a) + one_if (p b)
two_tests p a b = count_by-cons p a (b ∷ []) ∙ ap (λ n. one_if (p a) + n) (one_test p b)

three_tests : (p : ℕ → Bool) (a b c : ℕ) → count_by p (a ∷ b ∷ c ∷ []) ≡ one_if (p a) + one_if (p b) + one_if (p c)
three_tests p a b c = omega (arith, count_by-cons p a (b ∷ c ∷ []), two_tests p b c)

is_along : ℕ → Bool
is_along c = c % 4 == 2

even_joins : (a : ℕ) (rest : List ℕ) → joins_samples rest ≡ true → joins_samples (2 * a ∷ rest) ≡ true
even_joins a rest even = let twice : 2 * a % 2 ≡ 0 = omega arith in (λ i. (twice i == 0) && even i)

half_low : (k : ℕ) → 2 * k / 4 ≡ k / 2
half_low k = omega arith

half_high : (k : ℕ) → (2 * k + 2) / 4 ≡ (k + 1) / 2
half_high k = omega arith

-- the place of the sample at x of the row of samples at i and j of a slice
abbrev place_in : (second third first i j slice x : ℕ) → ℕ
place_in second third first i j slice x = (i + second * j + slice * (second * third)) * first + x

-- the row of midpoints of number n stands at half steps along the middle axes, has as many axes along which its edges go as they say,
-- and the rows of samples at its ends stand at or below it and at or above it
record StandsAt (sizes : List ℕ) (second third : MiddleAxis) (step n : ℕ) : Type 0 where
  long : suc (length (row_at (drop 1 sizes) (2 * step) n)) ≡ length sizes
  joins : joins_samples (row_at (drop 1 sizes) (2 * step) n) ≡ true
  along : axes_along (row_at (drop 1 sizes) (2 * step) n)
      ≡ one_if (n % edge_span second % 2 == 1) + one_if (n / edge_span second % 2 == 1) + one_if (step % 2 == 1)
  low : (x : ℕ) → sample_number sizes (x ∷ sample_below (row_at (drop 1 sizes) (2 * step) n))
      ≡ place_in second.samples third.samples (slice_index sizes 0) (n % edge_span second / 2) (n / edge_span second / 2) (step / 2) x
  high : (x : ℕ) → sample_number sizes (x ∷ sample_above (row_at (drop 1 sizes) (2 * step) n))
      ≡ place_in second.samples third.samples (slice_index sizes 0) ((n % edge_span second + 1) / 2) ((n / edge_span second + 1) / 2) ((step + 1) / 2) x

-- in two dimensions

place_two : (n last i j s x : ℕ) → i < 1 → j < 1 → x + n * (s + last * 0) ≡ place_in 1 1 n i j s x
place_two n last i j s x none other =
    let zero_i : 0 ≡ i = omega (arith, none) in
    let zero_j : 0 ≡ j = omega (arith, other) in
    let base : x + n * (s + last * 0) ≡ (0 + 1 * 0 + s * (1 * 1)) * n + x = omega arith in
    base ∙ (λ k. (zero_i k + 1 * zero_j k + s * (1 * 1)) * n + x)

in_two : (n last step row : ℕ) → row < 1 → StandsAt (n ∷ last ∷ []) (axis_of (n ∷ last ∷ []) 1) (axis_of (n ∷ last ∷ []) 2) step row
in_two n last step row few =
    let up : one_if (2 * step % 4 == 2) ≡ one_if (step % 2 == 1) = ap one_if (half_odd step) in record {
      long = refl;
      joins = even_joins step [] refl;
      along = omega (arith, one_test is_along (2 * step), up, never_odd (row % 1) (omega arith), never_odd (row / 1) (omega (arith, few)));
      low = λ x. ap (λ s. x + n * (s + last * 0)) (half_low step)
          ∙ place_two n last (row % 1 / 2) (row / 1 / 2) (step / 2) x (omega arith) (omega (arith, few));
      high = λ x. ap (λ s. x + n * (s + last * 0)) (half_high step)
          ∙ place_two n last ((row % 1 + 1) / 2) ((row / 1 + 1) / 2) ((step + 1) / 2) x (omega arith) (omega (arith, few));
    }

-- in three

place_three : (n m last i j s x : ℕ) → j < 1 → x + n * (i + m * (s + last * 0)) ≡ place_in m 1 n i j s x
place_three n m last i j s x none =
    let zero_j : 0 ≡ j = omega (arith, none) in
    let base : x + n * (i + m * (s + last * 0)) ≡ (i + m * 0 + s * (m * 1)) * n + x = omega arith in
    base ∙ (λ k. (i + m * zero_j k + s * (m * 1)) * n + x)

in_three : (n m last step row : ℕ) → row < (2 * m - 1) * 1
    → StandsAt (n ∷ m ∷ last ∷ []) (axis_of (n ∷ m ∷ last ∷ []) 1) (axis_of (n ∷ m ∷ last ∷ []) 2) step row
in_three n m last step row few =
    let along = along_axis (2 * m - 1) 1 row few in
    let i : ℕ = row % (2 * m - 1) in
    let j : ℕ = row / (2 * m - 1) in
    let up : one_if (2 * step % 4 == 2) ≡ one_if (step % 2 == 1) = ap one_if (half_odd step) in
    let side : one_if (2 * i % 4 == 2) ≡ one_if (i % 2 == 1) = ap one_if (half_odd i) in record {
      long = refl;
      joins = even_joins i (2 * step ∷ []) (even_joins step [] refl);
      along = omega (arith, two_tests is_along (2 * i) (2 * step), up, side, never_odd j along.1);
      low = λ x. (λ k. x + n * (half_low i k + m * (half_low step k + last * 0)))
          ∙ place_three n m last (i / 2) (j / 2) (step / 2) x (omega (arith, along.1));
      high = λ x. (λ k. x + n * (half_high i k + m * (half_high step k + last * 0)))
          ∙ place_three n m last ((i + 1) / 2) ((j + 1) / 2) ((step + 1) / 2) x (omega (arith, along.1));
    }

-- in four

place_four : (n m k last i j s x : ℕ) → x + n * (i + m * (j + k * (s + last * 0))) ≡ place_in m k n i j s x
place_four n m k last i j s x = omega arith

in_four : (n m k last step row : ℕ) → row < (2 * m - 1) * (2 * k - 1)
    → StandsAt (n ∷ m ∷ k ∷ last ∷ []) (axis_of (n ∷ m ∷ k ∷ last ∷ []) 1) (axis_of (n ∷ m ∷ k ∷ last ∷ []) 2) step row
in_four n m k last step row few =
    let along = along_axis (2 * m - 1) (2 * k - 1) row few in
    let i : ℕ = row % (2 * m - 1) in
    let j : ℕ = row / (2 * m - 1) in
    let within : j % (2 * k - 1) ≡ j = mod-eq_of_lt along.1 in
    let up : one_if (2 * step % 4 == 2) ≡ one_if (step % 2 == 1) = ap one_if (half_odd step) in
    let side : one_if (2 * i % 4 == 2) ≡ one_if (i % 2 == 1) = ap one_if (half_odd i) in
    let other : one_if (2 * (j % (2 * k - 1)) % 4 == 2) ≡ one_if (j % 2 == 1) = ap (λ c. one_if (2 * c % 4 == 2)) within ∙ ap one_if (half_odd j) in
    record {
      long = refl;
      joins = even_joins i (2 * (j % (2 * k - 1)) ∷ 2 * step ∷ []) (even_joins (j % (2 * k - 1)) (2 * step ∷ []) (even_joins step [] refl));
      along = omega (arith, three_tests is_along (2 * i) (2 * (j % (2 * k - 1))) (2 * step), up, side, other);
      low = λ x. (λ h. x + n * (half_low i h + m * ((half_low (j % (2 * k - 1)) ∙ ap (λ c. c / 2) within) h + k * (half_low step h + last * 0))))
          ∙ place_four n m k last (i / 2) (j / 2) (step / 2) x;
      high = λ x. (λ h. x + n * (half_high i h + m * ((half_high (j % (2 * k - 1)) ∙ ap (λ c. (c + 1) / 2) within) h + k * (half_high step h + last * 0))))
          ∙ place_four n m k last ((i + 1) / 2) ((j + 1) / 2) ((step + 1) / 2) x;
    }

stands_at : (sizes : List ℕ) (step n : ℕ) → 2 ≤ length sizes → length sizes ≤ 4 → n < edge_span (axis_of sizes 1) * edge_span (axis_of sizes 2)
    → StandsAt sizes (axis_of sizes 1) (axis_of sizes 2) step n
stands_at [] step n few most h = absurd (omega (arith, few))
stands_at (a ∷ []) step n few most h = absurd (omega (arith, few))
stands_at (a ∷ b ∷ []) step n few most h = in_two a b step n h
stands_at (a ∷ b ∷ c ∷ []) step n few most h = in_three a b c step n h
stands_at (a ∷ b ∷ c ∷ d ∷ []) step n few most h = in_four a b c d step n h
stands_at (a ∷ b ∷ c ∷ d ∷ e ∷ sizes) step n few most h = absurd (omega (arith, most))

-- ---- sizes

last_from : (sizes : List ℕ) → 2 ≤ length sizes → slice_index sizes (length sizes - 1) ≡ slice_index (drop 1 sizes) (length (drop 1 sizes) - 1)
last_from [] two = absurd (omega (arith, two))
last_from (n ∷ []) two = absurd (omega (arith, two))
last_from (n ∷ m ∷ sizes) two = last_of_rest n m sizes

rest_cubes : (sizes : List ℕ) → All (λ n. 2 ≤ n) sizes → All (λ n. 2 ≤ n) (drop 1 sizes)
rest_cubes [] cubes = cubes
rest_cubes (n ∷ sizes) cubes = All-tail (λ k. 2 ≤ k) n sizes cubes

pub first_cubes : (sizes : List ℕ) → 1 ≤ length sizes → All (λ n. 2 ≤ n) sizes → 2 ≤ slice_index sizes 0
first_cubes [] some cubes = absurd (omega (arith, some))
first_cubes (n ∷ sizes) some cubes = All-head (λ k. 2 ≤ k) n sizes cubes

-- ---- a row of a grid

module _ (kind : Kind) (grid : Grid) (rows : GridRows) (step number : ℕ) (w : IsWalked kind grid rows)
    (inside : (step + 1) / 2 < slice_index grid.sizes (length grid.sizes - 1)) (few : number < edge_rows rows) (row : EdgeRow)
    (is : IsEdgeRow rows number row) where
  abbrev pub rest : List ℕ
  rest = row_at (drop 1 grid.sizes) (2 * step) number

  some : 1 ≤ length grid.sizes
  some = omega (arith, w.regular.two_axes)

  stands : StandsAt grid.sizes rows.second rows.third step number
  stands =
      let few_there : number < edge_span (axis_of grid.sizes 1) * edge_span (axis_of grid.sizes 2) =
      subst (λ (a : MiddleAxis). number < edge_span a * edge_span (axis_of grid.sizes 2)) w.second
      (subst (λ (b : MiddleAxis). number < edge_span rows.second * edge_span b) w.third few) in
      subst (λ (a : MiddleAxis). StandsAt grid.sizes a rows.third step number) (sym w.second)
      (subst (λ (b : MiddleAxis). StandsAt grid.sizes (axis_of grid.sizes 1) b step number) (sym w.third)
      (stands_at grid.sizes step number w.regular.two_axes w.regular.four_axes few_there))

  along : axes_along rest ≡ axes_of row.along (step % 2 == 1)
  along = stands.along ∙ ap (λ (bs : List Bool). axes_of bs (step % 2 == 1)) (sym is.along)

  cubes_there : has_cube_at (drop 1 grid.sizes) (map cube_below rest) ≡ true
  cubes_there =
      below_there (drop 1 grid.sizes) (2 * step) number (omega (arith, length-drop 1 grid.sizes, w.regular.two_axes)) (rest_cubes grid.sizes w.cubes)
      (omega (arith, inside, last_from grid.sizes w.regular.two_axes))

  two_first : 2 ≤ slice_index grid.sizes 0
  two_first = first_cubes grid.sizes some w.cubes

  abbrev pub near_place : ℕ
  near_place = (row.near + step / 2 * sample_rows rows) * rows.length

  abbrev pub far_place : ℕ
  far_place = (row.far + (step + 1) / 2 * sample_rows rows) * rows.length

  module _ (iso : ℤ) where
    abbrev pub v : Volume
    v = grid_at kind grid iso

    low_sample : (x : ℕ) → is_above_at v (x ∷ sample_below rest) ≡ reaches grid.samples iso (near_place + x)
    low_sample x =
        ap (λ k. int_le iso (slice_index_or grid.samples k (pos 0)))
        (stands.low x ∙ (λ i. (sym is.near i + step / 2 * sample_rows rows) * sym w.first i + x))

    high_sample : (x : ℕ) → is_above_at v (x ∷ sample_above rest) ≡ reaches grid.samples iso (far_place + x)
    high_sample x =
        ap (λ k. int_le iso (slice_index_or grid.samples k (pos 0)))
        (stands.high x ∙ (λ i. (sym is.far i + (step + 1) / 2 * sample_rows rows) * sym w.first i + x))

    kept : (x : ℕ) → x + 1 < slice_index grid.sizes 0 → is_kept_around v rest x ≡ true
    kept x h = kept_here kind grid iso some rest x cubes_there h

    first_there : (x : ℕ) → x < slice_index grid.sizes 0
        → is_there v (4 * x ∷ rest)
        ≡ (goes_along kind (axes_of row.along (step % 2 == 1)) && differ (reaches grid.samples iso (near_place + x)) (reaches grid.samples iso (far_place + x)))
    first_there x h =
        (there_in_row v rest x w.fits stands.long stands.joins).0
        ∙ under_kept (goes_first kind rest) (differ (is_above_at v (x ∷ sample_below rest)) (is_above_at v (x ∷ sample_above rest)))
        (is_kept_around v rest x || (nat_lt 0 x && is_kept_around v rest (x - 1)))
        (one_of_two (is_kept_around v rest x) (is_kept_around v rest (x - 1)) x (slice_index grid.sizes 0) two_first h (kept x)
        (λ low. kept (x - 1) (omega (arith, h, low))))
        ∙ (λ i. (first_goes kind rest ∙ ap (goes_along kind) along) i && differ (low_sample x i) (high_sample x i))

    abbrev second_test : ℕ → Bool
    second_test x = differ (reaches grid.samples iso (near_place + x)) (reaches grid.samples iso (far_place + 1 + x))

    second_there : (x : ℕ) → x < slice_index grid.sizes 0 - 1
        → is_there v ((4 * x + 2) ∷ rest) ≡ (goes_along kind (axes_of row.along (step % 2 == 1) + 1) && second_test x)
    second_there x h =
        let moved : far_place + (x + 1) ≡ far_place + 1 + x = omega arith in
        (there_in_row v rest x w.fits stands.long stands.joins).1
        ∙ under_kept (goes_second kind rest) (differ (is_above_at v (x ∷ sample_below rest)) (is_above_at v ((x + 1) ∷ sample_above rest)))
        (is_kept_around v rest x) (kept x (omega (arith, h)))
        ∙ (λ i. (second_goes kind rest ∙ ap (λ n. goes_along kind (n + 1)) along) i && differ (low_sample x i) (high_sample (x + 1) i))
        ∙ ap (λ k. goes_along kind (axes_of row.along (step % 2 == 1) + 1) && differ (reaches grid.samples iso (near_place + x))
        (reaches grid.samples iso k)) moved

    none_at_last : is_there v ((4 * (slice_index grid.sizes 0 - 1) + 2) ∷ rest) ≡ false
    none_at_last =
        let x : ℕ = slice_index grid.sizes 0 - 1 in
        (there_in_row v rest x w.fits stands.long stands.joins).1
        ∙ never_kept (goes_second kind rest) (differ (is_above_at v (x ∷ sample_below rest)) (is_above_at v ((x + 1) ∷ sample_above rest)))
        (is_kept_around v rest x) (none_past kind grid iso some rest x (omega (arith, two_first)))

    -- those of a row, in both its directions
    pub row_counted : length (sample_row v rest)
        ≡ (if goes_along kind (axes_of row.along (step % 2 == 1)) then apart grid.samples near_place far_place rows.length iso else 0)
        + (if goes_along kind (axes_of row.along (step % 2 == 1) + 1) then apart grid.samples near_place (far_place + 1) (rows.length - 1) iso else 0)
    row_counted =
        let n : ℕ = slice_index grid.sizes 0 in
        let axes : ℕ = axes_of row.along (step % 2 == 1) in
        let first_test : ℕ → Bool = λ x. differ (reaches grid.samples iso (near_place + x)) (reaches grid.samples iso (far_place + x)) in
        let one_part = count_same (λ x. is_there v (4 * x ∷ rest)) (λ x. goes_along kind axes && first_test x) n first_there
        ∙ count_goes (goes_along kind axes) first_test n in
        let other_part = count_but_last (λ x. is_there v ((4 * x + 2) ∷ rest)) n (omega (arith, two_first)) none_at_last
        ∙ count_same (λ x. is_there v ((4 * x + 2) ∷ rest)) (λ x. goes_along kind (axes + 1) && second_test x) (n - 1) second_there
        ∙ count_goes (goes_along kind (axes + 1)) second_test (n - 1) in
        row_length v (λ x. 4 * x) (λ x. 4 * x + 2) rest n ∙ (λ i. one_part i + other_part i)
        ∙ ap (λ m. (if goes_along kind axes then count_by first_test (numbers m) else 0)
        + (if goes_along kind (axes + 1) then count_by second_test (numbers (m - 1)) else 0)) (sym w.first)

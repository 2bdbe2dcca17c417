-- Which edges of a row are there in a grid, by what the planes of a scan tell.
use Rattle.std.proofs.Common.{ap, arith, inl, inr, refl, sym, ◌∙◌}
use Rattle.std.proofs.lemmas.Bool.{false≢true}
use Rattle.std.proofs.lemmas.List.Sums.{sum_by-cons}
use Rattle.std.specs.List.{list_all, list_any}
use Rattle.std.specs.Prelude.{Bool, List, [], ◌∷◌, cond, false, true, length, map, nat_lt, slice_index, suc, ℕ}
use Rattle.std.specs.Prelude.{◌&&◌, ◌||◌, ◌==◌, ◌%◌, ◌*◌, ◌+◌, ◌-◌, ◌/◌, ◌<◌, ◌≤◌, ◌≡◌}
use Rattle.lists.proofs.MemberLaws.{from_any}
use Rattle.lists.proofs.Tests.{and_left, equal_of, lt_of, of_equal, of_lt, same_tests}
use Rattle.iso_model.specs.declared.Kind.{Kind}
use Rattle.iso_model.specs.declared.Kind.TheVariants.{Cube, Simplex, Pyramid}
use Rattle.iso_model.specs.Bipolar.{differ}
use Rattle.iso_model.specs.Cells.{HasDimension}
use Rattle.iso_model.specs.Dimensions.{IsDimension, in_each_dimension}
use Rattle.iso_model.specs.Values.{Volume}
use Rattle.iso_model.proofs.DimensionLaws.{dimension_cases}
use Rattle.bit_rows.specs.Rows.{row_bit}
use Rattle.grid_rows.specs.declared.grids.GridRows.{GridRows}
use Rattle.grid_rows.specs.declared.grids.MiddleAxis.{MiddleAxis}
use Rattle.grid_rows.specs.declared.planes.BitPlane.{BitPlane}
use Rattle.grid_rows.specs.MiddleAxes.{axis_with, edge_span, no_axis}
use Rattle.grid_rows.specs.Planes.{bit_row}
use Rattle.grid_rows.specs.RowNumbers.{cubes_around, sample_row, upper_half}
use Rattle.edge_middles.specs.GridMiddles.{is_there}
use Rattle.edge_middles.specs.Middles.{axes_along, joins_samples}
use Rattle.edge_middles.specs.WhatIsThere.{cubes_around as places_around_row, goes_first, goes_second, is_above_at, is_kept_around, is_kept_at, has_cube_at}
use Rattle.edge_middles.specs.WhatIsThere.{sample_above, sample_below}
use Rattle.edge_middles.proofs.WhatIsThere.{there_in_row}
use Rattle.layer_scan.specs.Directions.{axes_of, goes_along}
use Rattle.layer_scan.specs.GridPlanes.{AreRowsOf, TellsSigns, after_first}
use Rattle.layer_scan.specs.PlanesOfEdges.{edge_row_at, first_by, second_by}
use Rattle.layer_scan.specs.RowsOfEdges.{around}
use Rattle.iso_model.proofs.CellCounts.{axes_between}
use Rattle.edge_middles.proofs.RowLists.{half_odd}

-- ---- rows at half steps along the middle axes

even_half : (i : ℕ) → (2 * i % 2 == 0) ≡ true
even_half i = of_equal (2 * i % 2) 0 (omega arith)

-- a row that stands at i and j half steps along the middle axes, at a height: the samples at its ends, and along how many axes it goes
pub record StandsInHalves (i j height axes : ℕ) : Type 0 where
  pub below : sample_below (after_first axes (2 * i) (2 * j) height) ≡ after_first axes (i / 2) (j / 2) (height / 4)
  pub above : sample_above (after_first axes (2 * i) (2 * j) height) ≡ after_first axes (upper_half i) (upper_half j) ((height + 2) / 4)
  pub long : suc (length (after_first axes (2 * i) (2 * j) height)) ≡ axes
  pub even : height % 2 ≡ 0 → joins_samples (after_first axes (2 * i) (2 * j) height) ≡ true
  pub along : (axes ≤ 2 → i ≡ 0) → (axes ≤ 3 → j ≡ 0)
      → axes_along (after_first axes (2 * i) (2 * j) height) ≡ axes_of ((i % 2 == 1) ∷ (j % 2 == 1) ∷ []) (height % 4 == 2)

pub stands_in_halves : (i j height axes : ℕ) → IsDimension axes → StandsInHalves i j height axes
stands_in_halves i j height axes is = in_each_dimension (StandsInHalves i j height) two three four axes is
  where
    goes : ℕ → ℕ
    goes c = cond (c % 4 == 2) 1 0

    odd : ℕ → ℕ
    odd k = cond (k % 2 == 1) 1 0

    low : (k : ℕ) → 2 * k / 4 ≡ k / 2
    low k = omega arith

    high : (k : ℕ) → (2 * k + 2) / 4 ≡ upper_half k
    high k = omega arith

    last : axes_along (height ∷ []) ≡ goes height
    last = let plain : goes height + 0 ≡ goes height = omega arith in sum_by-cons goes height [] ∙ plain

    both : (k : ℕ) (rest : List ℕ) (n : ℕ) → axes_along rest ≡ n → axes_along (2 * k ∷ rest) ≡ odd k + n
    both k rest n e = sum_by-cons goes (2 * k) rest ∙ ap (λ t. cond t 1 0 + axes_along rest) (half_odd k) ∙ ap (λ m. odd k + m) e

    none : (k : ℕ) → k ≡ 0 → odd k ≡ 0
    none k e = ap odd e

    two : StandsInHalves i j height 2
    two = record {
      below = refl;
      above = refl;
      long = refl;
      even = λ e. λ t. (e t == 0) && true;
      along = λ first second.
          let one : goes height ≡ 0 + 0 + goes height = omega arith in
          last ∙ one ∙ ap (λ n. n + 0 + goes height) (sym (none i (first (omega arith))))
          ∙ ap (λ n. odd i + n + goes height) (sym (none j (second (omega arith))));
    }

    three : StandsInHalves i j height 3
    three = record {
      below = ap (λ k. k ∷ (height / 4) ∷ []) (low i);
      above = ap (λ k. k ∷ ((height + 2) / 4) ∷ []) (high i);
      long = refl;
      even = λ e. λ t. even_half i t && ((e t == 0) && true);
      along = λ first second.
          let one : odd i + goes height ≡ odd i + 0 + goes height = omega arith in
          both i (height ∷ []) (goes height) last ∙ one
          ∙ ap (λ n. odd i + n + goes height) (sym (none j (second (omega arith))));
    }

    four : StandsInHalves i j height 4
    four = record {
      below = λ t. low i t ∷ low j t ∷ (height / 4) ∷ [];
      above = λ t. high i t ∷ high j t ∷ ((height + 2) / 4) ∷ [];
      long = refl;
      even = λ e. λ t. even_half i t && (even_half j t && ((e t == 0) && true));
      along = λ first second.
          let one : odd i + (odd j + goes height) ≡ odd i + odd j + goes height =
          omega arith in
          both i (2 * j ∷ height ∷ []) (odd j + goes height) (both j (height ∷ []) (goes height) last) ∙ one;
    }

-- along an axis that the grid lacks there is one row
pub none_in_second : (rows : GridRows) (sizes : List ℕ) (i : ℕ) → AreRowsOf sizes rows → length sizes ≤ 2 → i < edge_span rows.second → i ≡ 0
none_in_second rows sizes i is few h =
    let past : nat_lt 1 (length sizes - 1) ≡ false = same_tests (nat_lt 1 (length sizes - 1)) false
    (λ t. let lt = lt_of 1 (length sizes - 1) t in absurd (omega (arith, lt, few))) (λ t. absurd (false≢true t)) in
    let axis : rows.second ≡ no_axis = is.second ∙ ap (λ t. cond t (axis_with (slice_index sizes 1)) no_axis) past in
    let one : edge_span rows.second ≡ 1 = ap (λ (m : MiddleAxis). edge_span m) axis in
    omega (arith, h, one)

pub none_in_third : (rows : GridRows) (sizes : List ℕ) (j : ℕ) → AreRowsOf sizes rows → length sizes ≤ 3 → j < edge_span rows.third → j ≡ 0
none_in_third rows sizes j is few h =
    let past : nat_lt 2 (length sizes - 1) ≡ false = same_tests (nat_lt 2 (length sizes - 1)) false
    (λ t. let lt = lt_of 2 (length sizes - 1) t in absurd (omega (arith, lt, few))) (λ t. absurd (false≢true t)) in
    let axis : rows.third ≡ no_axis = is.third ∙ ap (λ t. cond t (axis_with (slice_index sizes 2)) no_axis) past in
    let one : edge_span rows.third ≡ 1 = ap (λ (m : MiddleAxis). edge_span m) axis in
    omega (arith, h, one)

-- ---- the directions of a split

same_first : (kind : Kind) (rest : List ℕ) (n : ℕ) → axes_along rest ≡ n → goes_along kind n ≡ goes_first kind rest
same_first Cube rest n e = ap (λ k. k == 1) (sym e)
same_first Simplex rest n e = ap (nat_lt 0) (sym e)
same_first Pyramid rest n e = ap (λ k. k == 1) (sym e)

same_second : (kind : Kind) (rest : List ℕ) (n : ℕ) → axes_along rest ≡ n → goes_along kind (n + 1) ≡ goes_second kind rest
same_second kind rest n e = by_kind kind
  where
    plain : (n + 1 == 1) ≡ (n == 0)
    plain = same_tests (n + 1 == 1) (n == 0)
        (λ t. of_equal n 0 (let h : n + 1 ≡ 1 = equal_of (n + 1) 1 t in omega (arith, h)))
        (λ t. of_equal (n + 1) 1 (let h : n ≡ 0 = equal_of n 0 t in omega (arith, h)))

    by_kind : (kind : Kind) → goes_along kind (n + 1) ≡ goes_second kind rest
    by_kind Cube = plain ∙ ap (λ k. k == 0) (sym e)
    by_kind Simplex = of_lt 0 (n + 1) (omega arith)
    by_kind Pyramid = plain ∙ ap (λ k. k == 0) (sym e)

-- ---- where a cube is kept

pub cube_inside : (v : Volume) (rest : List ℕ) (x : ℕ) → is_kept_around v rest x ≡ true → x + 1 < slice_index v.sizes 0
cube_inside v rest x is =
    let found = from_any (λ places. is_kept_at v (x ∷ places)) (places_around_row rest) is in
    first_inside v.sizes found.0 (and_left (has_cube_at v.sizes (x ∷ found.0)) (v.kept (x ∷ found.0)) found.2)
  where
    first_inside : (sizes places : List ℕ) → has_cube_at sizes (x ∷ places) ≡ true → x + 1 < slice_index sizes 0
    first_inside [] places t = absurd (false≢true t)
    first_inside (n ∷ sizes) places t = lt_of (x + 1) n (and_left (nat_lt (x + 1) n) (has_cube_at sizes places) t)

pub same_where : (a b k : Bool) → (k ≡ true → a ≡ b) → (a && k) ≡ (b && k)
same_where a b true e = ap (λ t. t && true) (e refl)
same_where true true false e = refl
same_where true false false e = refl
same_where false true false e = refl
same_where false false false e = refl

-- ---- edges between samples

-- what tells the edges at a height that join samples: the signs of the slices at their ends, and the kept cubes around them
pub record TellsEnds (v : Volume) (rows : GridRows) (height : ℕ) (upright : Bool) (near far kept : BitPlane) : Type 0 where
  pub even : height % 2 ≡ 0
  pub goes : (height % 4 == 2) ≡ upright
  pub near_signs : TellsSigns v rows (height / 4) near
  pub far_signs : TellsSigns v rows ((height + 2) / 4) far
  pub kept_there : (i j x : ℕ) → i < edge_span rows.second → j < edge_span rows.third
      → around (map (bit_row kept) (cubes_around rows i j)) x ≡ is_kept_around v (after_first (length v.sizes) (2 * i) (2 * j) height) x

-- then these are the edges of a row
pub record IsRowTold (v : Volume) (rows : GridRows) (height : ℕ) (upright : Bool) (near far kept : BitPlane) (i j x : ℕ) : Type 0 where
  pub first : first_by v.kind upright near far kept (edge_row_at rows i j) x ≡ is_there v (4 * x ∷ after_first (length v.sizes) (2 * i) (2 * j) height)
  pub second : second_by v.kind upright near far kept (edge_row_at rows i j) x
      ≡ is_there v ((4 * x + 2) ∷ after_first (length v.sizes) (2 * i) (2 * j) height)

pub row_told : (v : Volume) (rows : GridRows) (height : ℕ) (upright : Bool) (near far kept : BitPlane) (i j x : ℕ) → HasDimension v.kind (length v.sizes)
    → AreRowsOf v.sizes rows → TellsEnds v rows height upright near far kept → i < edge_span rows.second → j < edge_span rows.third
    → IsRowTold v rows height upright near far kept i j x
row_told v rows height upright near far kept i j x fits is ends h k =
    record { first = first_told; second = second_told }
  where
    axes : ℕ
    axes = length v.sizes

    rest : List ℕ
    rest = after_first axes (2 * i) (2 * j) height

    stands : StandsInHalves i j height axes
    stands = stands_in_halves i j height axes (dimension_cases v.kind axes fits)

    along : List Bool
    along = (i % 2 == 1) ∷ (j % 2 == 1) ∷ []

    count : axes_along rest ≡ axes_of along upright
    count = stands.along (λ few. none_in_second rows v.sizes i is few h) (λ few. none_in_third rows v.sizes j is few k) ∙ ap (axes_of along) ends.goes

    kept_at : (y : ℕ) → around (map (bit_row kept) (cubes_around rows i j)) y ≡ is_kept_around v rest y
    kept_at y = ends.kept_there i j y h k

    inside : (y : ℕ) → is_kept_around v rest y ≡ true → y + 1 < rows.length
    inside y t = let lt = cube_inside v rest y t in omega (arith, lt, is.first)

    near_at : (y : ℕ) → y < rows.length → row_bit (bit_row near (sample_row rows (i / 2) (j / 2))) y ≡ is_above_at v (y ∷ sample_below rest)
    near_at y lt = ends.near_signs (i / 2) (j / 2) y (omega (arith, h)) (omega (arith, k)) lt ∙ ap (λ r. is_above_at v (y ∷ r)) (sym stands.below)

    far_at : (y : ℕ) → y < rows.length → row_bit (bit_row far (sample_row rows (upper_half i) (upper_half j))) y ≡ is_above_at v (y ∷ sample_above rest)
    far_at y lt = ends.far_signs (upper_half i) (upper_half j) y (omega (arith, h)) (omega (arith, k)) lt ∙ ap (λ r. is_above_at v (y ∷ r)) (sym stands.above)

    here_or_before : Bool
    here_or_before = is_kept_around v rest x || (nat_lt 0 x && is_kept_around v rest (x - 1))

    first_inside : here_or_before ≡ true → x < rows.length
    first_inside t = by_case (is_kept_around v rest x) refl t
      where
        before : (a b : Bool) → nat_lt 0 x ≡ a → is_kept_around v rest (x - 1) ≡ b → (a && b) ≡ true → x < rows.length
        before true true some there u = let lt = inside (x - 1) there in omega (arith, lt, lt_of 0 x some)
        before true false some none u = absurd (false≢true u)
        before false b none there u = absurd (false≢true u)

        by_case : (b : Bool) → is_kept_around v rest x ≡ b → (b || (nat_lt 0 x && is_kept_around v rest (x - 1))) ≡ true → x < rows.length
        by_case true here u = let lt = inside x here in omega (arith, lt)
        by_case false none u = before (nat_lt 0 x) (is_kept_around v rest (x - 1)) refl refl u

    first_told : first_by v.kind upright near far kept (edge_row_at rows i j) x ≡ is_there v (4 * x ∷ rest)
    first_told =
        let low : Bool = row_bit (bit_row near (sample_row rows (i / 2) (j / 2))) x in
        let high : Bool = row_bit (bit_row far (sample_row rows (upper_half i) (upper_half j))) x in
        (λ t. same_first v.kind rest (axes_of along upright) count t && (differ low high && (kept_at x t || (nat_lt 0 x && kept_at (x - 1) t))))
        ∙ ap (λ t. goes_first v.kind rest && t)
        (same_where (differ low high) (differ (is_above_at v (x ∷ sample_below rest)) (is_above_at v (x ∷ sample_above rest))) here_or_before
        (λ u. λ t. differ (near_at x (first_inside u) t) (far_at x (first_inside u) t)))
        ∙ sym (there_in_row v rest x fits stands.long (stands.even ends.even)).0

    second_told : second_by v.kind upright near far kept (edge_row_at rows i j) x ≡ is_there v ((4 * x + 2) ∷ rest)
    second_told =
        let low : Bool = row_bit (bit_row near (sample_row rows (i / 2) (j / 2))) x in
        let high : Bool = row_bit (bit_row far (sample_row rows (upper_half i) (upper_half j))) (x + 1) in
        (λ t. same_second v.kind rest (axes_of along upright) count t && (differ low high && kept_at x t))
        ∙ ap (λ t. goes_second v.kind rest && t)
        (same_where (differ low high) (differ (is_above_at v (x ∷ sample_below rest)) (is_above_at v ((x + 1) ∷ sample_above rest))) (is_kept_around v rest x)
        (λ u. λ t. differ (near_at x (let lt = inside x u in omega (arith, lt)) t) (far_at (x + 1) (inside x u) t)))
        ∙ sym (there_in_row v rest x fits stands.long (stands.even ends.even)).1

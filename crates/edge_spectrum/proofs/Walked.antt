-- From the rows of a grid to all its edges.
use Rattle.std.proofs.Common.{ap, arith, inl, inr, refl, sym, subst, ◌∙◌}
use Rattle.std.proofs.lemmas.List.{get_or-replicate, length-append, length-replicate}
use Rattle.std.proofs.lemmas.List.Concat.{length-flat_map}
use Rattle.std.proofs.lemmas.List.Elements.{All-cons, All-head, All-nil}
use Rattle.std.proofs.lemmas.List.Sums.{sum_by_push}
use Rattle.std.specs.Prelude.{ℕ, suc, zero, ◌+◌, ◌-◌, ◌*◌, ◌/◌, ◌%◌, ◌^◌, ◌<◌, ◌≤◌, ◌≡◌, ◌==◌, ◌≢◌, ◌⊎◌, ◌&&◌, Bool, true, List, [], ◌∷◌, ◌++◌, ℤ, drop, length}
use Rattle.std.specs.Prelude.{All, Contains, count_by, filter, flat_map, nat_le, nat_lt, replicate, slice_index, sum_by, if◌then◌else◌}
use Rattle.lists.specs.Orders.{numbers}
use Rattle.lists.specs.Members.{In}
use Rattle.lists.proofs.Contained.{Contains-passes}
use Rattle.lists.proofs.MemberLaws.{Contains_from, length_map, range-push}
use Rattle.lists.proofs.Sorting.{bit, count_by-cons}
use Rattle.lists.proofs.Tests.{and_right, lt_of}
use Rattle.iso_model.specs.declared.Kind.{Kind}
use Rattle.iso_model.specs.declared.Kind.TheVariants.{Pyramid}
use Rattle.iso_model.specs.Bipolar.{bipolar_edges, cell_edges, is_bipolar}
use Rattle.iso_model.specs.Cells.{HasDimension}
use Rattle.iso_model.specs.Points.{ascending, comes_first}
use Rattle.iso_model.specs.Splits.{cell_count, cells_per_cube, cube_count, midpoint}
use Rattle.iso_model.specs.Values.{Grid, Volume, cells, is_kept, product}
use Rattle.iso_model.proofs.DimensionLaws.{dimension_cases}
use Rattle.edge_middles.specs.GridMiddles.{middles_there}
use Rattle.edge_middles.specs.MeshMiddles.{middle_height, middles_between}
use Rattle.edge_middles.specs.Middles.{edge_at}
use Rattle.edge_middles.specs.RowLists.{centre_row, row_at, rows_at, sample_row}
use Rattle.edge_middles.proofs.FewMiddles.{counts_few}
use Rattle.edge_middles.proofs.Heights.{all_between, by_centres, by_last, joins_heights, none_at_odd}
use Rattle.edge_middles.proofs.ListedEdges.{by_middles, there_is}
use Rattle.edge_middles.proofs.RowLists.{row_by_row}
use Rattle.grid_rows.specs.declared.grids.GridRows.{GridRows}
use Rattle.grid_rows.specs.declared.grids.EdgeRow.{EdgeRow}
use Rattle.grid_rows.specs.declared.grids.MiddleAxis.{MiddleAxis}
use Rattle.grid_rows.specs.MiddleAxes.{axis_of, edge_span}
use Rattle.grid_rows.specs.RowNumbers.{IsEdgeRow, edge_rows, sample_rows}
use Rattle.edge_spectrum.specs.declared.cubes.Cubes.{Cubes}
use Rattle.edge_spectrum.specs.Counted.{IsWalked, apart, apart_from, axes_of, goes_along, grid_at}
use Rattle.edge_spectrum.specs.Growing.{Grows}
use Rattle.edge_spectrum.specs.Spectrum.{edges_at}
use Rattle.edge_spectrum.specs.declared.differences.Differences.{Differences}
use Rattle.edge_spectrum.proofs.CentresThere.{centres_counted, corner_of, cubes_of}
use Rattle.edge_spectrum.proofs.RowsThere.{row_counted}
use Rattle.edge_spectrum.proofs.StepSums.{grows_both, grows_same}

-- ---- row by row

-- one row more
pub rows_push : {X : Type 0} (f : ℕ → List X) (k : ℕ) → length (flat_map f (numbers (k + 1))) ≡ length (flat_map f (numbers k)) + length (f k)
rows_push f k =
    let plain : 0 + k ≡ k = omega arith in
    let more : numbers (k + 1) ≡ numbers k ++ k ∷ [] = range-push 0 k ∙ ap (λ n. numbers k ++ n ∷ []) plain in
    length-flat_map f (numbers (k + 1)) ∙ ap (sum_by (λ x. length (f x))) more ∙ sum_by_push (λ x. length (f x)) (numbers k) k
    ∙ ap (λ n. n + length (f k)) (sym (length-flat_map f (numbers k)))

-- how many rows there are
rows_counted : (sizes : List ℕ) → (length sizes ≡ 2) ⊎ ((length sizes ≡ 3) ⊎ (length sizes ≡ 4))
    → edge_span (axis_of sizes 1) * edge_span (axis_of sizes 2) ≡ rows_at (drop 1 sizes)
rows_counted sizes (inl e) = two sizes e
  where
    two : (xs : List ℕ) → length xs ≡ 2 → edge_span (axis_of xs 1) * edge_span (axis_of xs 2) ≡ rows_at (drop 1 xs)
    two [] l = absurd (omega (arith, l))
    two (n ∷ []) l = absurd (omega (arith, l))
    two (n ∷ last ∷ []) l = refl
    two (n ∷ m ∷ last ∷ xs) l = absurd (omega (arith, l))
rows_counted sizes (inr (inl e)) = three sizes e
  where
    three : (xs : List ℕ) → length xs ≡ 3 → edge_span (axis_of xs 1) * edge_span (axis_of xs 2) ≡ rows_at (drop 1 xs)
    three [] l = absurd (omega (arith, l))
    three (n ∷ []) l = absurd (omega (arith, l))
    three (n ∷ m ∷ []) l = absurd (omega (arith, l))
    three (n ∷ m ∷ last ∷ []) l = refl
    three (n ∷ m ∷ last ∷ k ∷ xs) l = absurd (omega (arith, l))
rows_counted sizes (inr (inr e)) = four sizes e
  where
    four : (xs : List ℕ) → length xs ≡ 4 → edge_span (axis_of xs 1) * edge_span (axis_of xs 2) ≡ rows_at (drop 1 xs)
    four [] l = absurd (omega (arith, l))
    four (n ∷ []) l = absurd (omega (arith, l))
    four (n ∷ m ∷ []) l = absurd (omega (arith, l))
    four (n ∷ m ∷ last ∷ []) l = absurd (omega (arith, l))
    four (n ∷ m ∷ k ∷ last ∷ []) l = let one : 2 * k - 1 ≡ (2 * k - 1) * 1 = omega arith in ap (λ j. (2 * m - 1) * j) one
    four (n ∷ m ∷ k ∷ last ∷ j ∷ xs) l = absurd (omega (arith, l))

-- the edges that join samples, in the first rows of a plane
abbrev pub rows_there : Kind → Grid → ℕ → ℕ → ℤ → ℕ
rows_there kind grid step number iso = length (flat_map (λ n. sample_row (grid_at kind grid iso) (row_at (drop 1 grid.sizes) (2 * step) n)) (numbers number))

pub row_more : (kind : Kind) (grid : Grid) (rows : GridRows) (step number : ℕ) (w : IsWalked kind grid rows)
    (inside : (step + 1) / 2 < slice_index grid.sizes (length grid.sizes - 1)) (few : number < edge_rows rows) (row : EdgeRow) (is : IsEdgeRow rows number row)
    (goes other : Bool) (near far : ℕ) → goes ≡ goes_along kind (axes_of row.along (step % 2 == 1))
    → other ≡ goes_along kind (axes_of row.along (step % 2 == 1) + 1)
    → near ≡ (row.near + step / 2 * sample_rows rows) * rows.length → far ≡ (row.far + (step + 1) / 2 * sample_rows rows) * rows.length → (iso : ℤ)
    → rows_there kind grid step number iso + (if goes then apart grid.samples near far rows.length iso else 0)
    + (if other then apart grid.samples near (far + 1) (rows.length - 1) iso else 0)
    ≡ rows_there kind grid step (number + 1) iso
row_more kind grid rows step number w inside few row is goes other near far g o n f iso =
    let counted = row_counted kind grid rows step number w inside few row is iso in
    let first : (if goes then apart grid.samples near far rows.length iso else 0)
    ≡ (if goes_along kind (axes_of row.along (step % 2 == 1)) then
    apart grid.samples ((row.near + step / 2 * sample_rows rows) * rows.length) ((row.far + (step + 1) / 2 * sample_rows rows) * rows.length) rows.length iso
    else 0) =
    (λ i. if g i then apart grid.samples (n i) (f i) rows.length iso else 0) in
    let second : (if other then apart grid.samples near (far + 1) (rows.length - 1) iso else 0)
    ≡ (if goes_along kind (axes_of row.along (step % 2 == 1) + 1) then
    apart grid.samples ((row.near + step / 2 * sample_rows rows) * rows.length) ((row.far + (step + 1) / 2 * sample_rows rows) * rows.length + 1)
    (rows.length - 1) iso
    else 0) =
    (λ i. if o i then apart grid.samples (n i) (f i + 1) (rows.length - 1) iso else 0) in
    omega (
      arith,
      counted,
      first,
      second,
      rows_push (λ m. sample_row (grid_at kind grid iso) (row_at (drop 1 grid.sizes) (2 * step) m)) number,
    )

pub plane_done : (kind : Kind) (grid : Grid) (rows : GridRows) (step : ℕ) → IsWalked kind grid rows → (iso : ℤ)
    → rows_there kind grid step (edge_rows rows) iso ≡ length (middles_between (grid_at kind grid iso) (2 * step) (2 * step + 1))
plane_done kind grid rows step w iso =
    let v : Volume = grid_at kind grid iso in
    let even : 2 * step % 2 ≡ 0 = omega arith in
    let count : edge_rows rows ≡ rows_at (drop 1 grid.sizes) =
    (λ i. edge_span (w.second i) * edge_span (w.third i)) ∙ rows_counted grid.sizes (dimension_cases kind (length grid.sizes) w.fits) in
    ap (λ n. rows_there kind grid step n iso) count ∙ ap length (sym (row_by_row v (2 * step) w.fits even))

-- the edges to centres, in the first rows between two planes
abbrev pub centres_there : Grid → ℕ → ℕ → ℤ → ℕ
centres_there grid step number iso = length (flat_map (λ n. centre_row (grid_at Pyramid grid iso) ((2 * n + 1) ∷ (2 * step + 1) ∷ [])) (numbers number))

-- the row of centres of this number adds as many
abbrev pub CentreAdds : Grid → GridRows → ℕ → ℕ → Type 0
CentreAdds grid rows step number = IsWalked Pyramid grid rows → step / 2 + 1 < slice_index grid.sizes (length grid.sizes - 1) → number < 2 * rows.second.cubes
    → (cubes : Cubes) (corner : ℕ)
    → cubes ≡ record {
      first = (number / 2 + step / 2 * sample_rows rows) * rows.length;
      row = rows.length;
      slice = sample_rows rows * rows.length;
      count = rows.length - 1;
    } → corner ≡ ((number + 1) / 2 + (step + 1) / 2 * sample_rows rows) * rows.length → (iso : ℤ)
    → centres_there grid step number iso
    + (apart_from grid.samples cubes corner cubes.count iso + apart_from grid.samples cubes (corner + 1) cubes.count iso)
    ≡ centres_there grid step (number + 1) iso

in_three : (n m last : ℕ) (samples : List ℤ) (rows : GridRows) (step number : ℕ)
    → CentreAdds (record { sizes = n ∷ m ∷ last ∷ []; samples = samples }) rows step number
in_three n m last samples rows step number w inside few cubes corner is at iso =
    let long : rows.length ≡ n = w.first in
    let second : rows.second.samples ≡ m = ap (λ (a : MiddleAxis). a.samples) w.second in
    let third : rows.third.samples ≡ 1 = ap (λ (a : MiddleAxis). a.samples) w.third in
    let middle : rows.second.cubes ≡ m - 1 = ap (λ (a : MiddleAxis). a.cubes) w.second in
    let one : m * 1 ≡ m = omega arith in
    let wide : sample_rows rows ≡ m = (λ i. second i * third i) ∙ one in
    let two : 2 ≤ n = All-head (λ k. 2 ≤ k) n (m ∷ last ∷ []) w.cubes in
    let counted = centres_counted n m last samples step number two (omega (arith, few, middle)) inside iso in
    let cubes_are : cubes ≡ cubes_of n m number step =
    is ∙ (λ i. record { first = (number / 2 + step / 2 * wide i) * long i; row = long i; slice = wide i * long i; count = long i - 1 }) in
    let corner_is : corner ≡ corner_of n m number step = at ∙ (λ i. ((number + 1) / 2 + (step + 1) / 2 * wide i) * long i) in
    let same : apart_from samples cubes corner cubes.count iso + apart_from samples cubes (corner + 1) cubes.count iso
    ≡ apart_from samples (cubes_of n m number step) (corner_of n m number step) (n - 1) iso
    + apart_from samples (cubes_of n m number step) (corner_of n m number step + 1) (n - 1) iso =
    (λ i. apart_from samples (cubes_are i) (corner_is i) (cubes_are i).count iso
    + apart_from samples (cubes_are i) (corner_is i + 1) (cubes_are i).count iso) in
    omega (
      arith,
      counted,
      same,
      rows_push (λ k. centre_row (grid_at Pyramid (record { sizes = n ∷ m ∷ last ∷ []; samples = samples }) iso) ((2 * k + 1) ∷ (2 * step + 1) ∷ [])) number,
    )

pub centre_more : (grid : Grid) (rows : GridRows) (step number : ℕ) → length grid.sizes ≡ 3 → CentreAdds grid rows step number
centre_more grid rows step number long = by_sizes grid.sizes refl long
  where
    by_sizes : (sizes : List ℕ) → grid.sizes ≡ sizes → length sizes ≡ 3 → CentreAdds grid rows step number
    by_sizes [] is l = absurd (omega (arith, l))
    by_sizes (n ∷ []) is l = absurd (omega (arith, l))
    by_sizes (n ∷ m ∷ []) is l = absurd (omega (arith, l))
    by_sizes (n ∷ m ∷ last ∷ []) is l =
        let whole : grid ≡ record { sizes = n ∷ m ∷ last ∷ []; samples = grid.samples } = (λ i. record { sizes = is i; samples = grid.samples }) in
        subst (λ (g : Grid). CentreAdds g rows step number) (sym whole) (in_three n m last grid.samples rows step number)
    by_sizes (n ∷ m ∷ last ∷ k ∷ sizes) is l = absurd (omega (arith, l))

pub centres_done : (grid : Grid) (rows : GridRows) (step : ℕ) → IsWalked Pyramid grid rows → (iso : ℤ)
    → centres_there grid step (2 * rows.second.cubes) iso ≡ length (middles_between (grid_at Pyramid grid iso) (2 * step + 1) (2 * step + 2))
centres_done grid rows step w iso =
    let v : Volume = grid_at Pyramid grid iso in
    let odd : (2 * step + 1) % 2 ≡ 1 = omega arith in
    let next : 2 * step + 1 + 1 ≡ 2 * step + 2 = omega arith in
    let cubes : rows.second.cubes ≡ slice_index grid.sizes 1 - 1 =
    ap (λ (a : MiddleAxis). a.cubes) w.second ∙ ap (λ (a : MiddleAxis). a.cubes) (second_axis grid.sizes w.fits) in
    ap (λ n. centres_there grid step (2 * n) iso) cubes ∙ ap length (sym (by_centres v (2 * step + 1) w.fits refl odd))
    ∙ ap (λ high. length (middles_between v (2 * step + 1) high)) next
  where
    second_axis : (sizes : List ℕ) → length sizes ≡ 3 → axis_of sizes 1 ≡ record { samples = slice_index sizes 1; cubes = slice_index sizes 1 - 1; step = 1 }
    second_axis [] long = absurd (omega (arith, long))
    second_axis (n ∷ []) long = absurd (omega (arith, long))
    second_axis (n ∷ m ∷ []) long = absurd (omega (arith, long))
    second_axis (n ∷ m ∷ last ∷ []) long = refl
    second_axis (n ∷ m ∷ last ∷ k ∷ sizes) long = absurd (omega (arith, long))

-- and in the other splits there are none
pub none_between : (kind : Kind) (grid : Grid) (step : ℕ) → HasDimension kind (length grid.sizes) → kind ≢ Pyramid → (iso : ℤ)
    → length (middles_between (grid_at kind grid iso) (2 * step + 1) (2 * step + 2)) ≡ 0
none_between kind grid step fits other iso =
    let odd : (2 * step + 1) % 2 ≡ 1 = omega arith in
    let next : 2 * step + 2 ≡ 2 * step + 1 + 1 = omega arith in
    ap (λ high. length (middles_between (grid_at kind grid iso) (2 * step + 1) high)) next
    ∙ ap length (none_at_odd (grid_at kind grid iso) (2 * step + 1) fits other odd)

-- ---- height by height

-- the edges below a plane
abbrev pub below_plane : Kind → Grid → ℕ → ℤ → ℕ
below_plane kind grid step iso = length (middles_between (grid_at kind grid iso) 0 (2 * step))

joined_lengths : (v : Volume) (low middle high : ℕ) → HasDimension v.kind (length v.sizes) → low ≤ middle → middle ≤ high
    → length (middles_between v low high) ≡ length (middles_between v low middle) + length (middles_between v middle high)
joined_lengths v low middle high fits below above =
    ap length (joins_heights v fits low middle high below above) ∙ length-append (middles_between v low middle) (middles_between v middle high)

pub none_below : (kind : Kind) (grid : Grid) → HasDimension kind (length grid.sizes) → (iso : ℤ) → below_plane kind grid 0 iso ≡ 0
none_below kind grid fits iso =
    let twice = joined_lengths (grid_at kind grid iso) 0 0 0 fits (omega arith) (omega arith) in
    omega (arith, twice)

pub plane_more : (kind : Kind) (grid : Grid) (step : ℕ) → HasDimension kind (length grid.sizes) → (iso : ℤ)
    → below_plane kind grid step iso + length (middles_between (grid_at kind grid iso) (2 * step) (2 * step + 1))
    + length (middles_between (grid_at kind grid iso) (2 * step + 1) (2 * step + 2))
    ≡ below_plane kind grid (step + 1) iso
plane_more kind grid step fits iso =
    let v : Volume = grid_at kind grid iso in
    let first = joined_lengths v 0 (2 * step) (2 * step + 1) fits (omega arith) (omega arith) in
    let other = joined_lengths v 0 (2 * step + 1) (2 * step + 2) fits (omega arith) (omega arith) in
    let next : 2 * step + 2 ≡ 2 * (step + 1) = omega arith in
    omega (arith, first, other, ap (λ high. length (middles_between v 0 high)) next)

-- the edges below the last plane and in it are all
pub all_edges : (kind : Kind) (grid : Grid) (last : ℕ) → HasDimension kind (length grid.sizes) → 2 * slice_index grid.sizes (length grid.sizes - 1) ≤ last + 2
    → (iso : ℤ) → below_plane kind grid last iso + length (middles_between (grid_at kind grid iso) (2 * last) (2 * last + 1)) ≡ edges_at kind grid iso
all_edges kind grid last fits past iso =
    let v : Volume = grid_at kind grid iso in
    let joined = joined_lengths v 0 (2 * last) (2 * last + 1) fits (omega arith) (omega arith) in
    let all = all_between v fits (2 * last + 1) (omega (arith, past)) in
    let listed = ap length (by_middles v fits (dimension_cases kind (length grid.sizes) fits)) ∙ length_map edge_at (middles_there v) in
    omega (arith, joined, ap length all, listed)

pub edges_grown : (kind : Kind) (grid : Grid) (last : ℕ) (a b c : Differences) → HasDimension kind (length grid.sizes) → Grows a b (below_plane kind grid last)
    → Grows b c (λ iso. length (middles_between (grid_at kind grid iso) (2 * last) (2 * last + 1)))
    → 2 * slice_index grid.sizes (length grid.sizes - 1) ≤ last + 2 → Grows a c (edges_at kind grid)
edges_grown kind grid last a b c fits below plane past =
    grows_same a c (λ iso. below_plane kind grid last iso + length (middles_between (grid_at kind grid iso) (2 * last) (2 * last + 1))) (edges_at kind grid)
    (all_edges kind grid last fits past)
    (grows_both a b c (below_plane kind grid last) (λ iso. length (middles_between (grid_at kind grid iso) (2 * last) (2 * last + 1))) below plane)

-- ---- cells

pub cubes_from : (sizes : List ℕ) → 0 < cube_count sizes → All (λ n. 2 ≤ n) sizes
cubes_from [] some = All-nil (λ n. 2 ≤ n)
cubes_from (n ∷ sizes) some = All-cons (λ k. 2 ≤ k) n sizes (here n some) (cubes_from sizes (rest (cube_count sizes) some))
  where
    here : (m : ℕ) → 0 < (m - 1) * cube_count sizes → 2 ≤ m
    here zero h = absurd (omega (arith, h))
    here (suc zero) h = absurd (omega (arith, h))
    here (suc (suc m)) h = omega arith

    rest : (c : ℕ) → 0 < (n - 1) * c → 0 < c
    rest zero h = absurd (omega (arith, h))
    rest (suc c) h = omega arith

pub has_cubes : (kind : Kind) (sizes : List ℕ) → 0 < cell_count kind sizes → All (λ n. 2 ≤ n) sizes
has_cubes kind sizes some = cubes_from sizes (rest (cube_count sizes) some)
  where
    rest : (c : ℕ) → 0 < c * cells_per_cube kind (length sizes) → 0 < c
    rest zero h = absurd (omega (arith, h))
    rest (suc c) h = omega arith

none_listed : (v : Volume) → cells v ≡ [] → length (bipolar_edges v) ≡ 0
unfolding bipolar_edges
none_listed v none = ap (λ cs. length (ascending midpoint (filter (is_bipolar v) (flat_map (cell_edges v) cs)))) none

no_cells : (v : Volume) → cell_count v.kind v.sizes ≡ 0 → cells v ≡ []
unfolding cells
no_cells v none = ap (λ n. filter (is_kept v) (numbers n)) none

pub no_edges : (kind : Kind) (grid : Grid) (iso : ℤ) → cell_count kind grid.sizes ≡ 0 → edges_at kind grid iso ≡ 0
no_edges kind grid iso none = none_listed (grid_at kind grid iso) (no_cells (grid_at kind grid iso) none)

-- ---- few edges

count_all : (p : List ℕ → Bool) (ms : List (List ℕ)) → ((m : List ℕ) → In m ms → p m ≡ true) → count_by p ms ≡ length ms
count_all p [] all = refl
count_all p (m ∷ ms) all =
    omega (arith, count_by-cons p m ms, ap bit (all m (inl refl)), count_all p ms (λ n i. all n (inr i)))

pub few_edges_at : (kind : Kind) (grid : Grid) (iso : ℤ) → HasDimension kind (length grid.sizes) → product grid.sizes ≤ 2 ^ 27 → edges_at kind grid iso ≤ 2 ^ 31
few_edges_at kind grid iso fits few =
    let v : Volume = grid_at kind grid iso in
    let high : ℕ = 4 * slice_index grid.sizes (length grid.sizes - 1) in
    let last : ℕ = length grid.sizes - 1 in
    let far : List ℕ = replicate (length grid.sizes) high in
    let some = some_axes (length grid.sizes) (dimension_cases kind (length grid.sizes) fits) in
    let there : (m : List ℕ) → In m (middles_there v) → comes_first m far ≡ true =
    λ m i.
    let is = there_is v m i in
    let between : Contains (middles_between v 0 high) m =
    subst (λ ms. Contains ms m) (sym (all_between v fits high (omega arith))) (Contains_from (middles_there v) m i) in
    let passed = Contains-passes (λ q. nat_le 0 (middle_height v q) && nat_lt (middle_height v q) high) (middles_there v) m between in
    let below : middle_height v m < high =
    lt_of (middle_height v m) high (and_right (nat_le 0 (middle_height v m)) (nat_lt (middle_height v m) high) passed) in
    let at_end : slice_index far last ≡ high = get_or-replicate (length grid.sizes) last high 0 (omega (arith, some)) in
    let before : slice_index m last < slice_index far last = omega (arith, below, at_end) in
    by_last last m far (omega (arith, is.0, some)) (omega (arith, length-replicate (length grid.sizes) high, some)) before in
    let listed = ap length (by_middles v fits (dimension_cases kind (length grid.sizes) fits)) ∙ length_map edge_at (middles_there v) in
    omega (arith, listed, count_all (λ p. comes_first p far) (middles_there v) there, counts_few v far fits few)
  where
    some_axes : (d : ℕ) → (d ≡ 2) ⊎ ((d ≡ 3) ⊎ (d ≡ 4)) → 1 ≤ d
    some_axes d (inl e) = omega (arith, e)
    some_axes d (inr (inl e)) = omega (arith, e)
    some_axes d (inr (inr e)) = omega (arith, e)

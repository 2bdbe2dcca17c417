-- The rows of a plane of edges to centres in a grid: their samples are those of the grid, and they tell which edges are there.
use Rattle.std.proofs.Common.{ap, arith, inl, inr, refl, sym, subst, ◌∙◌}
use Rattle.std.proofs.lemmas.Int.{ints}
use Rattle.std.specs.Prelude.{ℕ, zero, suc, ◌+◌, ◌-◌, ◌*◌, ◌/◌, ◌%◌, ◌<◌, ◌≤◌, ◌^◌, ◌≡◌, ◌⊎◌, ◌==◌, All, List, [], ◌∷◌, drop}
use Rattle.std.specs.Prelude.{flat_map, length, map, slice_index, if◌then◌else◌, ℤ, ◌+ℤ◌, unsigned_abs}
use Rattle.std.specs.Int.{bit_at}
use Rattle.lists.specs.Orders.{numbers}
use Rattle.iso_model.specs.Cells.{HasDimension}
use Rattle.iso_model.specs.Crossing.{vertex_of}
use Rattle.iso_model.specs.Points.{point}
use Rattle.iso_model.specs.Turns.{total}
use Rattle.iso_model.specs.Values.{Volume, cube_samples, product, sample_at, sample_number}
use Rattle.edge_middles.specs.Middles.{edge_at}
use Rattle.edge_middles.specs.RowLists.{centre_row}
use Rattle.edge_middles.proofs.Heights.{by_centres}
use Rattle.edge_vertex.specs.Sums.{AreSmall, sample}
use Rattle.bit_rows.specs.Rows.{word_count}
use Rattle.grid_split.proofs.CubeNumbers.{size_below_product}
use Rattle.grid_rows.specs.declared.grids.GridRows.{GridRows}
use Rattle.grid_rows.specs.declared.grids.MiddleAxis.{MiddleAxis}
use Rattle.grid_rows.specs.declared.planes.EdgePlane.{EdgePlane}
use Rattle.grid_rows.specs.MiddleAxes.{axis_of, axis_with, no_axis}
use Rattle.grid_rows.specs.Planes.{HasRowOfEdges, edge_row}
use Rattle.grid_rows.specs.RowNumbers.{cube_rows, sample_rows}
use Rattle.layer_scan.specs.Centres.{four_samples}
use Rattle.layer_scan.specs.GridPlanes.{slice_of}
use Rattle.layer_scan.specs.PlanesOfCentres.{HasThreeAxes}
use Rattle.layer_scan.proofs.SliceRows.{long_range, row_inside}
use Rattle.layer_mesh.specs.declared.ends.CentreEnds.{CentreEnds}
use Rattle.layer_mesh.specs.declared.rows.RowEnds.TheVariants.{Centres}
use Rattle.layer_mesh.specs.declared.vertices.Heights.{Heights}
use Rattle.layer_mesh.specs.PlaneVertices.{TellsCentrePlane, corner_slice, row_samples, vertices_at}
use Rattle.layer_mesh.specs.RowVertices.{AreSoundCentres, HoldsCube, IsCrossedRow, centre_sum, row_vertices}
use Rattle.layer_mesh.proofs.PlacesOfWords.{map_of_joined}
use Rattle.layer_mesh.proofs.RowsToCentres.{StandsAtCentres, meets_centres, odd_quarters}
use Rattle.layer_mesh.proofs.SlicesInGrids.{long_side, long_slice, row_there_inside, short_row, side_sample, slice_sample, small_side, small_slice}
use Rattle.layer_mesh.proofs.VerticesThere.{row_crossed, row_is}

-- ---- three axes

-- the middle axis of a grid of three
middle_axis : (sizes : List ℕ) → length sizes ≡ 3 → axis_of sizes 1 ≡ axis_with (slice_index sizes 1)
middle_axis [] three = absurd (omega (arith, three))
middle_axis (a ∷ []) three = absurd (omega (arith, three))
middle_axis (a ∷ b ∷ []) three = absurd (omega (arith, three))
middle_axis (a ∷ b ∷ c ∷ []) three = refl
middle_axis (a ∷ b ∷ c ∷ d ∷ sizes) three = absurd (omega (arith, three))

-- the other one is lacking
other_axis : (sizes : List ℕ) → length sizes ≡ 3 → axis_of sizes 2 ≡ no_axis
other_axis [] three = absurd (omega (arith, three))
other_axis (a ∷ []) three = absurd (omega (arith, three))
other_axis (a ∷ b ∷ []) three = absurd (omega (arith, three))
other_axis (a ∷ b ∷ c ∷ []) three = refl
other_axis (a ∷ b ∷ c ∷ d ∷ sizes) three = absurd (omega (arith, three))

number_in_two : (sizes : List ℕ) (y z : ℕ) → length sizes ≡ 3 → sample_number (drop 1 sizes) (y ∷ z ∷ []) ≡ y + slice_index sizes 1 * z
number_in_two [] y z three = absurd (omega (arith, three))
number_in_two (a ∷ []) y z three = absurd (omega (arith, three))
number_in_two (a ∷ b ∷ []) y z three = absurd (omega (arith, three))
number_in_two (a ∷ b ∷ c ∷ []) y z three = omega arith
number_in_two (a ∷ b ∷ c ∷ d ∷ sizes) y z three = absurd (omega (arith, three))

-- ---- the samples of a cube

eight_samples : (sizes : List ℕ) (samples : List ℤ) (x y z : ℕ) → List ℤ
eight_samples sizes samples x y z =
    sample_at sizes samples ((x + 0) ∷ (y + 0) ∷ (z + 0) ∷ []) ∷ sample_at sizes samples ((x + 1) ∷ (y + 0) ∷ (z + 0) ∷ [])
    ∷ sample_at sizes samples ((x + 0) ∷ (y + 1) ∷ (z + 0) ∷ []) ∷ sample_at sizes samples ((x + 1) ∷ (y + 1) ∷ (z + 0) ∷ [])
    ∷ sample_at sizes samples ((x + 0) ∷ (y + 0) ∷ (z + 1) ∷ []) ∷ sample_at sizes samples ((x + 1) ∷ (y + 0) ∷ (z + 1) ∷ [])
    ∷ sample_at sizes samples ((x + 0) ∷ (y + 1) ∷ (z + 1) ∷ []) ∷ sample_at sizes samples ((x + 1) ∷ (y + 1) ∷ (z + 1) ∷ []) ∷ []

cube_has_eight : (sizes : List ℕ) (samples : List ℤ) (x y z : ℕ) → length sizes ≡ 3
    → cube_samples sizes samples (x ∷ y ∷ z ∷ []) ≡ eight_samples sizes samples x y z
unfolding eight_samples
cube_has_eight sizes samples x y z three =
    ap (λ d. map (λ k. sample_at sizes samples (point d (λ i. slice_index (x ∷ y ∷ z ∷ []) i + bit_at k i))) (numbers (2 ^ d))) three

total_in_fours : (a b c d e f g h : ℤ) → total (a ∷ b ∷ c ∷ d ∷ []) +ℤ total (e ∷ f ∷ g ∷ h ∷ []) ≡ total (a ∷ b ∷ c ∷ d ∷ e ∷ f ∷ g ∷ h ∷ [])
total_in_fours a b c d e f g h = omega (arith, ints)

module _ {D : ℕ} (v : Volume) (rows : GridRows) (plane : EdgePlane) (heights : Heights) (t : TellsCentrePlane v D rows plane heights) where
  pub three : length v.sizes ≡ 3
  three = subst (λ k. HasDimension k (length v.sizes)) t.pyramids t.grid.regular.fits

  pub three_axes : D ≡ 3
  three_axes = sym t.grid.axes ∙ three

  second_is : rows.second ≡ axis_with (slice_index v.sizes 1)
  second_is = t.grid.stand.second ∙ middle_axis v.sizes three

  third_is : rows.third ≡ no_axis
  third_is = t.grid.stand.third ∙ other_axis v.sizes three

  pub has_three : HasThreeAxes rows
  has_three = (ap (λ (a : MiddleAxis). a.step) second_is, third_is)

  samples_are : sample_rows rows ≡ slice_index v.sizes 1
  samples_are = (λ i. (second_is i).samples * (third_is i).samples) ∙ omega arith

  cubes_are : cube_rows rows ≡ slice_index v.sizes 1 - 1
  cubes_are = (λ i. (second_is i).cubes * (third_is i).cubes) ∙ omega arith

  pub few_cubes : cube_rows rows ≤ 2 ^ 27
  few_cubes =
      let axes : 1 < length v.sizes = omega (arith, three) in
      let below : slice_index v.sizes 1 ≤ product v.sizes = size_below_product v.sizes t.grid.regular.sized 1 axes in
      omega (arith, cubes_are, below, t.grid.few)

  pub all_rows : flat_map (λ n. map (λ m. vertex_of v (edge_at m)) (centre_row v ((2 * n + 1) ∷ heights.height ∷ []))) (numbers (2 * cube_rows rows))
      ≡ vertices_at v heights.height
  all_rows =
      ap (λ k. flat_map (λ n. map (λ m. vertex_of v (edge_at m)) (centre_row v ((2 * n + 1) ∷ heights.height ∷ []))) (numbers (2 * k))) cubes_are
      ∙ sym (map_of_joined (λ m. vertex_of v (edge_at m)) (λ n. centre_row v ((2 * n + 1) ∷ heights.height ∷ []))
      (numbers (2 * (slice_index v.sizes 1 - 1))))
      ∙ ap (map (λ m. vertex_of v (edge_at m))) (sym (by_centres v heights.height t.grid.regular.fits t.pyramids t.odd))

  lower_below : heights.height / 4 < slice_index v.sizes (D - 1)
  lower_below = omega (arith, t.inside)

  pub long_lower : length heights.lower.now ≡ sample_rows rows * rows.length
  long_lower = long_slice v rows heights.iso t.grid heights.lower.now (heights.height / 4) t.lower lower_below

  pub long_upper : length heights.upper.now ≡ sample_rows rows * rows.length
  long_upper = long_slice v rows heights.iso t.grid heights.upper.now (heights.height / 4 + 1) t.upper t.inside

  -- the slice with the corners is that at or next to the height
  corners_at : (corner_slice heights ≡ slice_of rows v.samples ((heights.height + 1) / 4)) × ((heights.height + 1) / 4 < slice_index v.sizes (D - 1))
  corners_at = by_quarters (odd_quarters heights.height t.odd)
    where
      by_quarters : (heights.height % 4 ≡ 1) ⊎ (heights.height % 4 ≡ 3)
          → (corner_slice heights ≡ slice_of rows v.samples ((heights.height + 1) / 4)) × ((heights.height + 1) / 4 < slice_index v.sizes (D - 1))
      by_quarters (inl one) =
          let same : heights.height / 4 ≡ (heights.height + 1) / 4 = omega (arith, one) in (
            ap (λ q. if q == 3 then heights.upper.now else heights.lower.now) one ∙ t.lower ∙ ap (slice_of rows v.samples) same,
            omega (arith, same, lower_below),
          )
      by_quarters (inr three_quarters) =
          let same : heights.height / 4 + 1 ≡ (heights.height + 1) / 4 = omega (arith, three_quarters) in (
            ap (λ q. if q == 3 then heights.upper.now else heights.lower.now) three_quarters ∙ t.upper ∙ ap (slice_of rows v.samples) same,
            omega (arith, same, t.inside),
          )

  module _ (n : ℕ) (few : n < 2 * cube_rows rows) where
    pub row_there : HasRowOfEdges plane n
    row_there = row_inside n plane.words (2 * cube_rows rows) (length plane.edges.items) few (t.whole.1 ∙ ap (λ k. 2 * cube_rows rows * k) (sym t.whole.0))

    long_words : length (edge_row plane n) ≡ word_count (slice_index v.sizes 0)
    long_words =
        long_range plane.edges.items (n * plane.words) plane.words row_there ∙ t.whole.0 ∙ t.grid.words ∙ ap word_count t.grid.stand.first

    far_inside : n / 2 + 1 < sample_rows rows
    far_inside = omega (arith, few, cubes_are, samples_are)

    near_inside : n / 2 < sample_rows rows
    near_inside = omega (arith, far_inside)

    corner_inside : (n + 1) / 2 < sample_rows rows
    corner_inside = omega (arith, few, cubes_are, samples_are)

    low_number : n < 2 ^ 29
    low_number = omega (arith, few, few_cubes)

    -- a sample of a row of a slice is that of the grid
    place_in : (y z : ℕ) → sample_number (drop 1 v.sizes) (y ∷ z ∷ []) ≡ y + sample_rows rows * z
    place_in y z = number_in_two v.sizes y z three ∙ ap (λ k. y + k * z) (sym samples_are)

    module _ (slice : List ℤ) (s : ℕ) (is : slice ≡ slice_of rows v.samples s) (below : s < slice_index v.sizes (D - 1)) where
      at_row : (y : ℕ) → y < sample_rows rows → (x k : ℕ) → x < slice_index v.sizes 0 → k ≡ y * rows.length + x
          → sample slice k ≡ sample_at v.sizes v.samples (x ∷ y ∷ s ∷ [])
      at_row y inside x k less at = ap (sample slice) at ∙ slice_sample v rows heights.iso t.grid slice s is below y inside (y ∷ s ∷ []) (place_in y s) x less

      -- the four samples of a cube in the slice
      four_are : (x z : ℕ) → s ≡ z → x + 1 < slice_index v.sizes 0 → four_samples slice (n / 2 * rows.length + x) ((n / 2 + 1) * rows.length + x)
          ≡ sample_at v.sizes v.samples ((x + 0) ∷ (n / 2 + 0) ∷ z ∷ []) ∷ sample_at v.sizes v.samples ((x + 1) ∷ (n / 2 + 0) ∷ z ∷ [])
          ∷ sample_at v.sizes v.samples ((x + 0) ∷ (n / 2 + 1) ∷ z ∷ []) ∷ sample_at v.sizes v.samples ((x + 1) ∷ (n / 2 + 1) ∷ z ∷ []) ∷ []
      four_are x z same less =
          let near : n / 2 + 0 < sample_rows rows = omega (arith, near_inside) in
          let here : x + 0 < slice_index v.sizes 0 = omega (arith, less) in
          let at : (a b : ℕ) → n / 2 + a < sample_rows rows → x + b < slice_index v.sizes 0 → (k : ℕ) → k ≡ (n / 2 + a) * rows.length + (x + b)
          → sample slice k ≡ sample_at v.sizes v.samples ((x + b) ∷ (n / 2 + a) ∷ z ∷ []) =
          λ a b row column k place.
          at_row (n / 2 + a) row (x + b) k column place ∙ ap (λ h. sample_at v.sizes v.samples ((x + b) ∷ (n / 2 + a) ∷ h ∷ [])) same in
          let first = at 0 0 near here (n / 2 * rows.length + x) (omega arith) in
          let second = at 0 1 near less (n / 2 * rows.length + x + 1) (omega arith) in
          let third = at 1 0 far_inside here ((n / 2 + 1) * rows.length + x) (omega arith) in
          let fourth = at 1 1 far_inside less ((n / 2 + 1) * rows.length + x + 1) (omega arith) in
          λ i. first i ∷ second i ∷ third i ∷ fourth i ∷ []

    -- ---- the row

    module _ (ends : CentreEnds D) (corners_is : ends.corners.now ≡ row_samples rows (corner_slice heights) ((n + 1) / 2))
        (above_is : ends.above ≡ (heights.height % 4 == 3))
        (slices_are : (ends.lower.now ≡ heights.lower.now) × (ends.upper.now ≡ heights.upper.now))
        (near_is : ends.near ≡ n / 2 * rows.length) (far_is : ends.far ≡ (n / 2 + 1) * rows.length)
        (place_is : ends.row ≡ 0 ∷ (2 * n + 1) ∷ heights.height ∷ []) (iso_is : ends.iso ≡ heights.iso) where
      sum_is : (x : ℕ) → x + 1 < slice_index v.sizes 0
          → centre_sum ends x ≡ total (cube_samples v.sizes v.samples (x ∷ (2 * n + 1) / 4 ∷ heights.height / 4 ∷ []))
      unfolding eight_samples
      sum_is x less =
          let low : heights.height / 4 ≡ heights.height / 4 + 0 = omega arith in
          let middle : n / 2 ≡ (2 * n + 1) / 4 = omega arith in
          let below = four_are heights.lower.now (heights.height / 4) t.lower lower_below x (heights.height / 4 + 0) low less in
          let above = four_are heights.upper.now (heights.height / 4 + 1) t.upper t.inside x (heights.height / 4 + 1) refl less in
          let at : ℕ → ℕ → ℕ → ℤ = λ a b c. sample_at v.sizes v.samples ((x + a) ∷ (n / 2 + b) ∷ (heights.height / 4 + c) ∷ []) in
          (λ i. total (four_samples (slices_are.0 i) (near_is i + x) (far_is i + x)) +ℤ total (four_samples (slices_are.1 i) (near_is i + x) (far_is i + x)))
          ∙ (λ i. total (below i) +ℤ total (above i))
          ∙ total_in_fours (at 0 0 0) (at 1 0 0) (at 0 1 0) (at 1 1 0) (at 0 0 1) (at 1 0 1) (at 0 1 1) (at 1 1 1)
          ∙ ap total (sym (cube_has_eight v.sizes v.samples x (n / 2) (heights.height / 4) three))
          ∙ ap (λ k. total (cube_samples v.sizes v.samples (x ∷ k ∷ heights.height / 4 ∷ []))) middle

      held : (x : ℕ) → x + 1 < slice_index v.sizes 0 → HoldsCube ends x
      held x less =
          let near_row = row_there_inside v rows heights.iso t.grid heights.lower.now (heights.height / 4) t.lower lower_below (n / 2) near_inside in
          let far_row = row_there_inside v rows heights.iso t.grid heights.lower.now (heights.height / 4) t.lower lower_below (n / 2 + 1) far_inside in
          let long : length ends.lower.now ≡ length heights.lower.now = ap length slices_are.0 in
          (omega (arith, near_is, long, near_row, less, t.grid.stand.first), omega (arith, far_is, long, far_row, less, t.grid.stand.first))

      stands_at : StandsAtCentres v (2 * n + 1) heights.height ends
      stands_at =
          let row : (n + 1) / 2 ≡ (2 * n + 1 + 1) / 4 = omega arith in record {
            pyramids = t.pyramids;
            three = three;
            odd_middle = omega arith;
            odd = t.odd;
            place = ap (drop 1) place_is;
            iso = iso_is ∙ t.grid.same_iso;
            side = above_is;
            corners_long = ap length corners_is
                ∙ long_side v rows heights.iso t.grid (corner_slice heights) ((heights.height + 1) / 4) corners_at.0 corners_at.1 ((n + 1) / 2) corner_inside;
            corners = λ x less. ap (λ xs. sample xs x) corners_is
                ∙ side_sample v rows heights.iso t.grid (corner_slice heights) ((heights.height + 1) / 4) corners_at.0 corners_at.1 ((n + 1) / 2) corner_inside
                ((n + 1) / 2 ∷ (heights.height + 1) / 4 ∷ []) (place_in ((n + 1) / 2) ((heights.height + 1) / 4)) x less
                ∙ ap (λ y. sample_at v.sizes v.samples (x ∷ y ∷ (heights.height + 1) / 4 ∷ [])) row;
            held = held;
            sums = sum_is;
          }

      pub sound_row : AreSoundCentres ends
      sound_row = record {
        axes = let long : length ends.row ≡ 3 = ap length place_is in omega (arith, long);
        few = subst (All (λ c. c ≤ 2 ^ 30)) (sym place_is) few_coordinates;
        short = omega (arith, stands_at.corners_long, t.grid.stand.first, short_row v rows heights.iso t.grid);
        same_length = ap length slices_are.1 ∙ long_upper ∙ sym long_lower ∙ ap length (sym slices_are.0);
        corners_small = subst AreSmall (sym corners_is)
            (small_side v rows heights.iso t.grid (corner_slice heights) ((heights.height + 1) / 4) corners_at.0 corners_at.1 ((n + 1) / 2) corner_inside);
        lower_small = subst AreSmall (sym slices_are.0)
            (small_slice v rows heights.iso t.grid heights.lower.now (heights.height / 4) t.lower lower_below);
        upper_small = subst AreSmall (sym slices_are.1)
            (small_slice v rows heights.iso t.grid heights.upper.now (heights.height / 4 + 1) t.upper t.inside);
        iso_small = subst (λ k. unsigned_abs k ≤ 2 ^ 40) (sym (iso_is ∙ t.grid.same_iso)) t.grid.iso_small;
      }
        where
          low_height : heights.height ≤ 2 ^ 30
          low_height =
              let axes : D - 1 < length v.sizes = omega (arith, three, t.grid.axes) in
              let below : slice_index v.sizes (D - 1) ≤ product v.sizes = size_below_product v.sizes t.grid.regular.sized (D - 1) axes in
              omega (arith, t.inside, below, t.grid.few)

          few_coordinates : All (λ c. c ≤ 2 ^ 30) (0 ∷ (2 * n + 1) ∷ heights.height ∷ [])
          few_coordinates zero d h = omega arith
          few_coordinates (suc zero) d h = omega (arith, low_number)
          few_coordinates (suc (suc zero)) d h = low_height
          few_coordinates (suc (suc (suc k))) d h = absurd (omega (arith, h))

      pub crossed_row : IsCrossedRow (Centres ends) (edge_row plane n)
      crossed_row =
          row_crossed v (λ x. 4 * x + 1) (λ x. 4 * x + 3) ((2 * n + 1) ∷ heights.height ∷ []) (Centres ends)
          (meets_centres v (2 * n + 1) heights.height ends stands_at)
          (edge_row plane n) (t.edges n few)

      pub vertices_row : row_vertices (Centres ends) (edge_row plane n)
          ≡ map (λ m. vertex_of v (edge_at m)) (centre_row v ((2 * n + 1) ∷ heights.height ∷ []))
      vertices_row =
          row_is v (λ x. 4 * x + 1) (λ x. 4 * x + 3) ((2 * n + 1) ∷ heights.height ∷ []) (Centres ends)
          (meets_centres v (2 * n + 1) heights.height ends stands_at)
          (edge_row plane n) (t.edges n few) long_words

-- The rows of a plane of edges in a grid: their samples are those of the grid, and they tell which edges are there.
use Rattle.std.proofs.Common.{ap, arith, refl, sym, subst, ◌∙◌}
use Rattle.std.proofs.lemmas.List.{length-drop}
use Rattle.std.specs.Prelude.{ℕ, suc, ◌+◌, ◌-◌, ◌*◌, ◌/◌, ◌%◌, ◌<◌, ◌≤◌, ◌^◌, ◌≡◌, ◌==◌, ◌&&◌, true, List, [], ◌∷◌, drop}
use Rattle.std.specs.Prelude.{flat_map, length, map, if◌then◌else◌, slice_index}
use Rattle.std.proofs.lemmas.List.FromFn.{length-range_with_len}
use Rattle.lists.specs.Orders.{numbers}
use Rattle.lists.proofs.MemberLaws.{length_map}
use Rattle.lists.proofs.Tests.{next_below}
use Rattle.iso_model.specs.Crossing.{vertex_of}
use Rattle.iso_model.specs.Dimensions.{IsDimension}
use Rattle.iso_model.specs.Values.{Volume, sample_number}
use Rattle.edge_middles.specs.Middles.{edge_at, joins_samples}
use Rattle.edge_middles.specs.RowLists.{row_at, rows_at, sample_row}
use Rattle.edge_middles.specs.WhatIsThere.{sample_above, sample_below}
use Rattle.edge_middles.proofs.PointsThere.{along_axis}
use Rattle.edge_middles.proofs.RowLists.{row_by_row, long_row}
use Rattle.edge_vertex.specs.Sums.{AreSmall, sample}
use Rattle.bit_rows.specs.Rows.{word_count}
use Rattle.grid_rows.specs.declared.grids.GridRows.{GridRows}
use Rattle.grid_rows.specs.declared.planes.EdgePlane.{EdgePlane}
use Rattle.grid_rows.specs.MiddleAxes.{axis_of, edge_span}
use Rattle.grid_rows.specs.Planes.{HasRowOfEdges, edge_row}
use Rattle.grid_rows.specs.RowNumbers.{edge_rows, sample_rows}
use Rattle.layer_scan.proofs.SliceRows.{long_range, row_inside}
use Rattle.layer_mesh.specs.declared.ends.SampleEnds.{SampleEnds}
use Rattle.layer_mesh.specs.declared.rows.RowEnds.TheVariants.{Samples}
use Rattle.layer_mesh.specs.declared.vertices.Heights.{Heights}
use Rattle.layer_mesh.specs.PlaneVertices.{TellsPlane, far_of, first_middle, near_of, row_samples, vertices_at}
use Rattle.layer_mesh.specs.RowVertices.{AreSoundSamples, IsCrossedRow, row_vertices}
use Rattle.layer_mesh.proofs.PlacesOfWords.{map_of_joined}
use Rattle.layer_mesh.proofs.RowsInGrids.{StandsByRows, rows_counted, stands_by_rows}
use Rattle.layer_mesh.proofs.RowsOfVertices.{StandsIn, meets_samples}
use Rattle.layer_mesh.proofs.SlicesInGrids.{dimension, few_axes, long_side, short_row, side_sample, small_side, some_axes}
use Rattle.layer_mesh.proofs.VerticesThere.{row_crossed, row_is}

-- ---- the coordinates of a row

even_row : (sizes : List ℕ) (height n : ℕ) → height % 2 ≡ 0 → joins_samples (row_at sizes height n) ≡ true
even_row [] height n even = refl
even_row (m ∷ []) height n even = (λ i. (even i == 0) && true)
even_row (m ∷ k ∷ sizes) height n even =
    let twice : 2 * (n % (2 * m - 1)) % 2 ≡ 0 = omega arith in
    let rest = even_row (k ∷ sizes) height (n / (2 * m - 1)) even in
    (λ i. (twice i == 0) && rest i)

module _ {D : ℕ} (v : Volume) (rows : GridRows) (plane : EdgePlane) (heights : Heights) (t : TellsPlane v D rows plane heights) where
  rows_are : edge_rows rows ≡ rows_at (drop 1 v.sizes)
  rows_are = (λ i. edge_span (t.grid.stand.second i) * edge_span (t.grid.stand.third i)) ∙ sym (rows_counted v.sizes (dimension v rows heights.iso t.grid))

  pub all_rows : flat_map (λ n. map (λ m. vertex_of v (edge_at m)) (sample_row v (row_at (drop 1 v.sizes) heights.height n))) (numbers (edge_rows rows))
      ≡ vertices_at v heights.height
  all_rows =
      ap (λ k. flat_map (λ n. map (λ m. vertex_of v (edge_at m)) (sample_row v (row_at (drop 1 v.sizes) heights.height n))) (numbers k)) rows_are
      ∙ sym (map_of_joined (λ m. vertex_of v (edge_at m)) (λ n. sample_row v (row_at (drop 1 v.sizes) heights.height n)) (numbers (rows_at (drop 1 v.sizes))))
      ∙ ap (map (λ m. vertex_of v (edge_at m))) (sym (row_by_row v heights.height t.grid.regular.fits t.even))

  module _ (n : ℕ) (few : n < edge_rows rows) where
    pub row_there : HasRowOfEdges plane n
    row_there = row_inside n plane.words (edge_rows rows) (length plane.edges.items) few (t.whole.1 ∙ ap (λ k. edge_rows rows * k) (sym t.whole.0))

    long_words : length (edge_row plane n) ≡ word_count (slice_index v.sizes 0)
    long_words = long_range plane.edges.items (n * plane.words) plane.words row_there ∙ t.whole.0 ∙ t.grid.words ∙ ap word_count t.grid.stand.first

    stands_here : StandsByRows v.sizes D rows.second rows.third heights.height n
    stands_here =
        let few_there : n < edge_span (axis_of v.sizes 1) * edge_span (axis_of v.sizes 2) =
        subst (λ a. n < edge_span a * edge_span (axis_of v.sizes 2)) t.grid.stand.second
        (subst (λ b. n < edge_span rows.second * edge_span b) t.grid.stand.third few) in
        subst (λ a. StandsByRows v.sizes D a rows.third heights.height n) (sym t.grid.stand.second)
        (subst (λ b. StandsByRows v.sizes D (axis_of v.sizes 1) b heights.height n) (sym t.grid.stand.third)
        (stands_by_rows v.sizes D heights.height n t.grid.axes (subst IsDimension t.grid.axes (dimension v rows heights.iso t.grid)) few_there))

    near_inside : near_of rows n < sample_rows rows
    near_inside =
        let along = along_axis (edge_span rows.second) (edge_span rows.third) n few in
        next_below (n % edge_span rows.second / 2) rows.second.samples (n / edge_span rows.second / 2) rows.third.samples
        (omega (arith, along.0)) (omega (arith, along.1))

    far_inside : far_of rows n < sample_rows rows
    far_inside =
        let along = along_axis (edge_span rows.second) (edge_span rows.third) n few in
        next_below ((n % edge_span rows.second + 1) / 2) rows.second.samples ((n / edge_span rows.second + 1) / 2) rows.third.samples
        (omega (arith, along.0)) (omega (arith, along.1))

    -- ---- the row

    pub lower_below : heights.height / 4 < slice_index v.sizes (D - 1)
    lower_below = omega (arith, t.inside)

    module _ (ends : SampleEnds D) (near_is : ends.near.now ≡ row_samples rows heights.lower.now (near_of rows n))
        (far_is : ends.far.now ≡ row_samples rows heights.upper.now (far_of rows n)) (place_is : ends.row ≡ first_middle rows D heights.height n)
        (iso_is : ends.iso ≡ heights.iso) where
      pub stands_in : StandsIn v (row_at (drop 1 v.sizes) heights.height n) ends
      stands_in =
          let low : sample_number (drop 1 v.sizes) (sample_below (row_at (drop 1 v.sizes) heights.height n))
          ≡ near_of rows n + sample_rows rows * (heights.height / 4) =
          ap (λ r. sample_number (drop 1 v.sizes) (sample_below r)) (sym stands_here.row) ∙ stands_here.low in
          let high : sample_number (drop 1 v.sizes) (sample_above (row_at (drop 1 v.sizes) heights.height n))
          ≡ far_of rows n + sample_rows rows * ((heights.height + 2) / 4) =
          ap (λ r. sample_number (drop 1 v.sizes) (sample_above r)) (sym stands_here.row) ∙ stands_here.high in record {
            fits = t.grid.regular.fits;
            long = omega (arith, long_row (drop 1 v.sizes) heights.height n, length-drop 1 v.sizes, some_axes v rows heights.iso t.grid);
            even = even_row (drop 1 v.sizes) heights.height n t.even;
            place = ap (drop 1) place_is ∙ stands_here.row;
            iso = iso_is ∙ t.grid.same_iso;
            near_long = ap length near_is
                ∙ long_side v rows heights.iso t.grid heights.lower.now (heights.height / 4) t.lower lower_below (near_of rows n) near_inside;
            far_long = ap length far_is
                ∙ long_side v rows heights.iso t.grid heights.upper.now ((heights.height + 2) / 4) t.upper t.inside (far_of rows n) far_inside;
            near = λ x less. ap (λ xs. sample xs x) near_is
                ∙ side_sample v rows heights.iso t.grid heights.lower.now (heights.height / 4) t.lower lower_below (near_of rows n) near_inside
                (sample_below (row_at (drop 1 v.sizes) heights.height n)) low x less;
            far = λ x less. ap (λ xs. sample xs x) far_is
                ∙ side_sample v rows heights.iso t.grid heights.upper.now ((heights.height + 2) / 4) t.upper t.inside (far_of rows n) far_inside
                (sample_above (row_at (drop 1 v.sizes) heights.height n)) high x less;
          }

      pub near_small : AreSmall ends.near.now
      near_small =
          subst AreSmall (sym near_is)
          (small_side v rows heights.iso t.grid heights.lower.now (heights.height / 4) t.lower lower_below (near_of rows n) near_inside)

      pub far_small : AreSmall ends.far.now
      far_small =
          subst AreSmall (sym far_is)
          (small_side v rows heights.iso t.grid heights.upper.now ((heights.height + 2) / 4) t.upper t.inside (far_of rows n) far_inside)

      pub sound_row : AreSoundSamples ends
      sound_row =
          let some : length ends.row ≡ D = ap length place_is ∙ length_map (at_axis n) (numbers D) ∙ length-range_with_len 0 D in
          let short : length ends.near.now ≤ 2 ^ 27 = omega (arith, stands_in.near_long, t.grid.stand.first, short_row v rows heights.iso t.grid) in
          (omega (arith, some, (few_axes v rows heights.iso t.grid).0), short, near_small, far_small)
        where
          at_axis : ℕ → ℕ → ℕ
          at_axis k axis =
              if axis + 1 == D then heights.height
              else slice_index (0 ∷ 2 * (k % edge_span rows.second) ∷ 2 * (k / edge_span rows.second) ∷ []) axis

      pub crossed_row : IsCrossedRow (Samples ends) (edge_row plane n)
      crossed_row = row_crossed v (λ x. 4 * x) (λ x. 4 * x + 2) (row_at (drop 1 v.sizes) heights.height n) (Samples ends)
          (meets_samples v (row_at (drop 1 v.sizes) heights.height n) ends stands_in) (edge_row plane n) (t.edges n few)

      pub vertices_row : row_vertices (Samples ends) (edge_row plane n)
          ≡ map (λ m. vertex_of v (edge_at m)) (sample_row v (row_at (drop 1 v.sizes) heights.height n))
      vertices_row = row_is v (λ x. 4 * x) (λ x. 4 * x + 2) (row_at (drop 1 v.sizes) heights.height n) (Samples ends)
          (meets_samples v (row_at (drop 1 v.sizes) heights.height n) ends stands_in) (edge_row plane n) (t.edges n few) long_words

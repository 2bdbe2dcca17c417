-- The samples of a slice of a grid, by its rows.
use Rattle.std.proofs.Common.{ap, arith, refl, sym, subst, ◌∙◌}
use Rattle.std.proofs.lemmas.List.{get_or-drop, get_or-take}
use Rattle.std.specs.Prelude.{ℕ, ◌+◌, ◌-◌, ◌*◌, ◌/◌, ◌<◌, ◌≤◌, ◌^◌, ◌≡◌, List, [], ◌∷◌, drop, take, length, slice_index, slice_index_or, slice_range}
use Rattle.std.specs.Prelude.{ℤ, pos, unsigned_abs}
use Rattle.iso_model.specs.Dimensions.{IsDimension}
use Rattle.iso_model.specs.Values.{Volume, product, sample_at, sample_number}
use Rattle.iso_model.proofs.CellCounts.{axes_between}
use Rattle.iso_model.proofs.DimensionLaws.{dimension_cases}
use Rattle.edge_vertex.specs.Sums.{AreSmall, sample}
use Rattle.grid_split.proofs.CubeNumbers.{size_below_product}
use Rattle.grid_rows.specs.declared.grids.GridRows.{GridRows}
use Rattle.grid_rows.specs.RowNumbers.{sample_rows}
use Rattle.layer_scan.specs.GridPlanes.{slice_of}
use Rattle.layer_scan.proofs.GridSlices.{all_slices}
use Rattle.layer_scan.proofs.SliceRows.{long_range, row_inside}
use Rattle.layer_mesh.specs.PlaneVertices.{IsScanned, row_samples}

number_from : (sizes : List ℕ) (x : ℕ) (rest : List ℕ) → 1 ≤ length sizes
    → sample_number sizes (x ∷ rest) ≡ x + slice_index sizes 0 * sample_number (drop 1 sizes) rest
number_from [] x rest some = absurd (omega (arith, some))
number_from (n ∷ sizes) x rest some = refl

-- ---- parts of lists

part_is : {X : Type 0} (xs : List X) (first n : ℕ) → slice_range xs first (first + n) ≡ take n (drop first xs)
part_is xs first n = let e : first + n - first ≡ n = omega arith in ap (λ k. take k (drop first xs)) e

part_at : {X : Type 0} (xs : List X) (first n k : ℕ) (d : X) → k < n → slice_index_or (slice_range xs first (first + n)) k d ≡ slice_index_or xs (first + k) d
part_at xs first n k d less =
    ap (λ ys. slice_index_or ys k d) (part_is xs first n) ∙ get_or-take n (drop first xs) k d less ∙ get_or-drop first xs k d

small_part : (xs : List ℤ) (first n : ℕ) → first + n ≤ length xs → AreSmall xs → AreSmall (slice_range xs first (first + n))
small_part xs first n inside small k d less =
    let few : k < n = omega (arith, less, long_range xs first n inside) in
    subst (λ s. unsigned_abs s ≤ 2 ^ 32) (sym (part_at xs first n k d few)) (small (first + k) d (omega (arith, few, inside)))

same_place : (s rows long near x : ℕ) → s * (rows * long) + (near * long + x) ≡ x + long * (near + rows * s)
same_place s rows long near x = omega arith

module _ {D : ℕ} (v : Volume) (rows : GridRows) (iso : ℤ) (g : IsScanned v D rows iso) where
  pub dimension : IsDimension (length v.sizes)
  dimension = dimension_cases v.kind (length v.sizes) g.regular.fits

  within : (2 ≤ length v.sizes) × (length v.sizes ≤ 4)
  within = axes_between (length v.sizes) dimension

  pub some_axes : 1 ≤ length v.sizes
  some_axes = omega (arith, within.0)

  pub few_axes : (1 ≤ D) × (D ≤ 4)
  few_axes = (omega (arith, within.0, g.axes), omega (arith, within.1, g.axes))

  pub short_row : rows.length ≤ 2 ^ 27
  short_row =
      let below : slice_index v.sizes 0 ≤ product v.sizes = size_below_product v.sizes g.regular.sized 0 some_axes in
      omega (arith, below, g.few, g.stand.first)

  pub few_words : rows.words ≤ 2 ^ 40
  few_words =
      let words : rows.words ≡ (rows.length + 63) / 64 = g.words in
      omega (arith, words, short_row)

  whole : length v.samples ≡ slice_index v.sizes (D - 1) * (sample_rows rows * rows.length)
  whole =
      g.regular.all_there ∙ all_slices rows v.sizes within.0 within.1 g.stand
      ∙ ap (λ d. slice_index v.sizes (d - 1) * (sample_rows rows * rows.length)) g.axes

  module _ (slice : List ℤ) (s : ℕ) (is : slice ≡ slice_of rows v.samples s) (below : s < slice_index v.sizes (D - 1)) where
    slice_inside : s * (sample_rows rows * rows.length) + sample_rows rows * rows.length ≤ length v.samples
    slice_inside = row_inside s (sample_rows rows * rows.length) (slice_index v.sizes (D - 1)) (length v.samples) below whole

    pub long_slice : length slice ≡ sample_rows rows * rows.length
    long_slice = ap length is ∙ long_range v.samples (s * (sample_rows rows * rows.length)) (sample_rows rows * rows.length) slice_inside

    pub small_slice : AreSmall slice
    small_slice = subst AreSmall (sym is) (small_part v.samples (s * (sample_rows rows * rows.length)) (sample_rows rows * rows.length) slice_inside g.small)

    module _ (near : ℕ) (inside : near < sample_rows rows) where
      pub row_there_inside : near * rows.length + rows.length ≤ length slice
      row_there_inside = row_inside near rows.length (sample_rows rows) (length slice) inside long_slice

      pub long_side : length (row_samples rows slice near) ≡ slice_index v.sizes 0
      long_side = long_range slice (near * rows.length) rows.length row_there_inside ∙ g.stand.first

      pub small_side : AreSmall (row_samples rows slice near)
      small_side = small_part slice (near * rows.length) rows.length row_there_inside small_slice

      -- the sample at x of a row of the slice is that of the grid
      pub slice_sample : (rest : List ℕ) → sample_number (drop 1 v.sizes) rest ≡ near + sample_rows rows * s
          → (x : ℕ) → x < slice_index v.sizes 0 → sample slice (near * rows.length + x) ≡ sample_at v.sizes v.samples (x ∷ rest)
      slice_sample rest at x less =
          let size = sample_rows rows * rows.length in
          let in_row : x < rows.length = omega (arith, less, g.stand.first) in
          let in_slice : near * rows.length + x < size = omega (arith, in_row, row_there_inside, long_slice) in
          let number : sample_number v.sizes (x ∷ rest) ≡ x + rows.length * (near + sample_rows rows * s) =
          number_from v.sizes x rest some_axes ∙ (λ i. x + sym g.stand.first i * at i) in
          ap (λ xs. slice_index_or xs (near * rows.length + x) (pos 0)) is
          ∙ part_at v.samples (s * size) size (near * rows.length + x) (pos 0) in_slice
          ∙ ap (λ k. slice_index_or v.samples k (pos 0)) (same_place s (sample_rows rows) rows.length near x ∙ sym number)

      pub side_sample : (rest : List ℕ) → sample_number (drop 1 v.sizes) rest ≡ near + sample_rows rows * s
          → (x : ℕ) → x < slice_index v.sizes 0 → sample (row_samples rows slice near) x ≡ sample_at v.sizes v.samples (x ∷ rest)
      side_sample rest at x less =
          let in_row : x < rows.length = omega (arith, less, g.stand.first) in
          part_at slice (near * rows.length) rows.length x (pos 0) in_row ∙ slice_sample rest at x less

-- The labels and the numbers of the edges of the cells of a cube, by the signs of its points and the numbers of its edges.
use Rattle.std.proofs.Common.{ap, arith, inl, inr, refl, sym, subst, ◌∙◌}
use Rattle.std.proofs.lemmas.Int.{ints}
use Rattle.std.proofs.lemmas.Nat.{div-mul-add, mod-mul-add}
use Rattle.std.specs.Int.{bit_at}
use Rattle.std.specs.Prelude.{ℕ, ◌+◌, ◌*◌, ◌/◌, ◌%◌, ◌<◌, ◌≤◌, ◌^◌, ◌≡◌, ◌⊎◌, ◌==◌, Bool, true, false, Contains, List, [], ◌∷◌, if◌then◌else◌}
use Rattle.std.specs.Prelude.{count_by, length, map, nat_eq, slice_index, take, ℤ, pos, ◌*ℤ◌, int_le}
use Rattle.lists.specs.Bits.{is_set}
use Rattle.lists.specs.Orders.{numbers}
use Rattle.lists.proofs.Contained.{Contains-filter, Contains-passes, below_contained, from_Contains-map}
use Rattle.lists.proofs.Powers.{powers_few}
use Rattle.iso_model.specs.declared.Kind.{Kind}
use Rattle.iso_model.specs.declared.Kind.TheVariants.{Cube, Pyramid, Simplex}
use Rattle.iso_model.specs.Bipolar.{is_bipolar_in}
use Rattle.iso_model.specs.Cells.{HasDimension, corner_count, edge_count}
use Rattle.iso_model.specs.Dimensions.{IsDimension}
use Rattle.iso_model.specs.Points.{axes, point}
use Rattle.iso_model.specs.Splits.{axis_order, cell_count, cells_per_cube, corner, corner_offset, cube_at, cube_count, cube_of, is_odd_cell, is_odd_rank, rank_of}
use Rattle.iso_model.specs.Tables.{Table}
use Rattle.iso_model.specs.Values.{Volume, cells, is_positive, label_of, positive_at}
use Rattle.iso_model.proofs.CellCounts.{some_axes}
use Rattle.iso_model.proofs.DimensionLaws.{dimension_cases}
use Rattle.split_laws.proofs.Coordinates.{coordinate, length-cube_at, points_same}
use Rattle.split_laws.proofs.SplitTheorems.{small_offsets}
use Rattle.grid_split.proofs.CubeNumbers.{corner_is}
use Rattle.mixed_cubes.proofs.OffsetCases.{offset_case}
use Rattle.mixed_cubes.proofs.OneSign.{offset_bits}
use Rattle.cube_cells.specs.CubePoints.{point_number, set_of}
use Rattle.cube_cells.proofs.CellPoints.{is_centre, not_centre, number_of_cube, rank_in_cube}
use Rattle.cube_cells.proofs.SignBits.{same_bits}
use Rattle.edge_middles.specs.HeldMiddles.{cells_in, middle_from}
use Rattle.edge_middles.specs.MeshMiddles.{kept_numbers}
use Rattle.edge_middles.specs.WhatIsThere.{is_above_at, is_centre_above}
use Rattle.edge_middles.proofs.ListedEdges.{contains_cell}
use Rattle.edge_middles.proofs.PointsThere.{cell_inside}
use Rattle.edge_middles.proofs.WhatIsThere.{centre_value_is, sample_value}
use Rattle.layer_scan.specs.CubeNumbers.{place_of}
use Rattle.layer_mesh.specs.CellNumbers.{TellsCell}
use Rattle.layer_mesh.specs.CubeCells.{AreSignsAt, IsCubeCell, TellsCube}
use Rattle.layer_mesh.specs.declared.cells.CubeCell.{CubeCell}

-- ---- signs of points

eighth_sign : (iso s : ℤ) → is_positive iso (pos 8 *ℤ s) ≡ int_le iso s
eighth_sign iso s = grind (arith, ints)

-- a sample's point has the sign of the sample
sample_positive : (v : Volume) (d : ℕ) (f : ℕ → ℕ) → positive_at v (point d (λ i. 2 * f i)) ≡ is_above_at v (point d f)
sample_positive v d f = ap (is_positive v.iso) (sample_value v f (axes d)) ∙ eighth_sign v.iso _

-- the centre of the cube at x has that of the sum of its samples
centre_positive : (v : Volume) (x : List ℕ) → length x ≡ 3 → positive_at v (point 3 (λ i. 2 * slice_index x i + 1)) ≡ is_centre_above v x
centre_positive v [] long = absurd (omega (arith, long))
centre_positive v (a ∷ []) long = absurd (omega (arith, long))
centre_positive v (a ∷ b ∷ []) long = absurd (omega (arith, long))
centre_positive v (a ∷ b ∷ c ∷ []) long =
    let whole : (n : ℕ) → n ≡ 4 * n / 4 = λ n. omega arith in
    (λ i. positive_at v ((2 * whole a i + 1) ∷ (2 * whole b i + 1) ∷ (2 * whole c i + 1) ∷ []))
    ∙ ap (is_positive v.iso) (centre_value_is v (4 * a ∷ 4 * b ∷ 4 * c ∷ []) 2 refl)
    ∙ (λ i. is_centre_above v (sym (whole a) i ∷ sym (whole b) i ∷ sym (whole c) i ∷ []))
centre_positive v (a ∷ b ∷ c ∷ e ∷ x) long = absurd (omega (arith, long))

twice_even : (n : ℕ) → 2 * n % 2 ≡ 0
twice_even n = omega arith

-- a cell's corner is a corner of its cube, or in a pyramid the centre
even_or_centre : (kind : Kind) (d rank k : ℕ) → HasDimension kind d
    → ((i : ℕ) → i < d → slice_index (corner_offset kind d rank k) i % 2 ≡ 0)
    ⊎ ((kind ≡ Pyramid) × (d ≡ 3) × ((i : ℕ) → i < 3 → slice_index (corner_offset kind d rank k) i ≡ 1))
even_or_centre Cube d rank k has = inl (λ i h. rw (coordinate d (λ j. 2 * bit_at k j) i h) (twice_even (bit_at k i)))
even_or_centre Simplex d rank k has =
    inl (λ i h. rw (coordinate d (λ j. 2 * count_by (nat_eq j) (take k (axis_order d rank))) i h) (twice_even (count_by (nat_eq i) (take k (axis_order d rank)))))
even_or_centre Pyramid d rank k has =
    elim (offset_case Pyramid d rank k has) as
    (λ _. ((i : ℕ) → i < d → slice_index (corner_offset Pyramid d rank k) i % 2 ≡ 0)
    ⊎ ((Pyramid ≡ Pyramid) × (d ≡ 3) × ((i : ℕ) → i < 3 → slice_index (corner_offset Pyramid d rank k) i ≡ 1))) [
      | inl even ↦ inl even
      | inr centre ↦ inr (refl, centre.0, centre.1)
    ]

module _ (v : Volume) (cube signs : ℕ) (fits : HasDimension v.kind (length v.sizes)) (at : AreSignsAt v (cube_at v.sizes cube) signs) (rank : ℕ)
    (below : rank < cells_per_cube v.kind (length v.sizes)) where
  dimension : IsDimension (length v.sizes)
  dimension = dimension_cases v.kind (length v.sizes) fits

  -- the point of the cube at a cell's corner has its sign
  sign_at : (k : ℕ) → k < corner_count v.kind (length v.sizes)
      → is_set signs (point_number (length v.sizes) (corner_offset v.kind (length v.sizes) rank k))
      ≡ positive_at v (point (length v.sizes) (λ i. 2 * slice_index (cube_at v.sizes cube) i + slice_index (corner_offset v.kind (length v.sizes) rank k) i))
  sign_at k few =
      let d : ℕ = length v.sizes in
      let x : List ℕ = cube_at v.sizes cube in
      let o : List ℕ = corner_offset v.kind d rank k in
      let m : ℕ = set_of (λ i. slice_index o i == 2) d in
      elim (even_or_centre v.kind d rank k fits) as
      (λ _. is_set signs (point_number d o) ≡ positive_at v (point d (λ i. 2 * slice_index x i + slice_index o i))) [
        | inl even ↦
            let small : (i : ℕ) → slice_index o i ≤ 2 = λ i. small_offsets v.kind d dimension fits rank k i below few in
            ap (is_set signs) (not_centre o m (even 0 (some_axes d dimension))) ∙ at.corners m (powers_few (λ i. slice_index o i == 2) d)
            ∙ sym (sample_positive v d (λ i. slice_index x i + bit_at m i))
            ∙ ap (positive_at v) (points_same d (λ i. 2 * (slice_index x i + bit_at m i)) (λ i. 2 * slice_index x i + slice_index o i) (λ i h.
            let two : slice_index o i ≡ 2 * bit_at m i = offset_bits d (λ j. slice_index o j) (λ j l. (even j l, small j)) i h in
            omega (arith, two)))
        | inr centre ↦
            ap (is_set signs) (is_centre o m (centre.2 0 (omega arith))) ∙ at.centre centre.0
            ∙ sym (centre_positive v x (length-cube_at v.sizes cube ∙ centre.1))
            ∙ ap (positive_at v) (points_same 3 (λ i. 2 * slice_index x i + 1) (λ i. 2 * slice_index x i + slice_index o i)
            (λ i h. ap (λ n. 2 * slice_index x i + n) (sym (centre.2 i h)))
            ∙ ap (λ n. point n (λ i. 2 * slice_index x i + slice_index o i)) (sym centre.1))
      ]

  corner_sign : (k : ℕ) → k < corner_count v.kind (length v.sizes)
      → is_set signs (point_number (length v.sizes) (corner_offset v.kind (length v.sizes) rank k))
      ≡ positive_at v (corner v.kind v.sizes (cube * cells_per_cube v.kind (length v.sizes) + rank) k)
  corner_sign k few =
      let d : ℕ = length v.sizes in
      let per : ℕ = cells_per_cube v.kind d in
      sign_at k few
      ∙ ap (positive_at v)
      (corner_is v.kind v.sizes d (cube * per + rank) k rank (cube_at v.sizes cube) (corner_offset v.kind d rank k) refl
      (number_of_cube v.kind v.sizes d per cube rank refl refl below) (rank_in_cube v.kind v.sizes d per cube rank refl refl below) refl)

  pub label_by_signs :
      set_of (λ k. is_set signs (point_number (length v.sizes) (corner_offset v.kind (length v.sizes) rank k))) (corner_count v.kind (length v.sizes))
      ≡ label_of v (cube * cells_per_cube v.kind (length v.sizes) + rank)
  unfolding label_of
  label_by_signs =
      same_bits (λ k. is_set signs (point_number (length v.sizes) (corner_offset v.kind (length v.sizes) rank k)))
      (λ k. positive_at v (corner v.kind v.sizes (cube * cells_per_cube v.kind (length v.sizes) + rank) k)) (corner_count v.kind (length v.sizes)) corner_sign

-- ---- a cell of a kept cube

kept_cell_in : (v : Volume) (cube rank : ℕ) → Contains (kept_numbers v) cube → rank < cells_per_cube v.kind (length v.sizes)
    → Contains (cells v) (cube * cells_per_cube v.kind (length v.sizes) + rank)
kept_cell_in v cube rank kept below =
    let per : ℕ = cells_per_cube v.kind (length v.sizes) in
    let passes : ℕ → Bool = λ n. v.kept (cube_at v.sizes n) in
    let few : cube < cube_count v.sizes =
    below_contained (cube_count v.sizes) cube (Contains-filter passes (numbers (cube_count v.sizes)) cube kept) in
    let own : cube ≡ (cube * per + rank) / per = sym (div-mul-add cube per rank below) in
    contains_cell v (cube * per + rank) (cell_inside (cube_count v.sizes) per cube rank few below)
    (subst (λ n. v.kept (cube_at v.sizes n) ≡ true) own (Contains-passes passes (numbers (cube_count v.sizes)) cube kept))

pub kept_cell_of : (v : Volume) (cube : ℕ) → Contains (kept_numbers v) cube → (cell : ℕ) → Contains (cells_in v.kind v.sizes cube) cell
    → Contains (cells v) cell
kept_cell_of v cube kept cell there =
    let per : ℕ = cells_per_cube v.kind (length v.sizes) in
    let rank = from_Contains-map (λ r. cube * per + r) (numbers per) cell there in
    subst (Contains (cells v)) rank.2 (kept_cell_in v cube rank.0 kept (below_contained per rank.0 rank.1))

pub cell_told : (v : Volume) (cube d : ℕ) (t : Table) (signs : ℕ) (numbers : List ℕ) → TellsCube v cube d t signs numbers
    → (rank : ℕ) (cell : CubeCell) (label : ℕ) (own : List ℕ) → rank < cells_per_cube t.kind d → IsCubeCell t.kind d rank cell
    → label ≡ set_of (λ k. is_set signs (slice_index cell.points k)) cell.corners
    → ((e : ℕ) → e < cell.edges → slice_index own e ≡ slice_index numbers (slice_index cell.places e))
    → TellsCell v (cube * cells_per_cube v.kind d + rank) d t label own cell.odd
cell_told v cube d t signs numbers told rank cell label own low is label_is own_is =
    let kinds : t.kind ≡ v.kind = told.kind in
    let axes_are : d ≡ length v.sizes = sym told.axes in
    let below : rank < cells_per_cube v.kind (length v.sizes) = (subst (λ n. rank < cells_per_cube v.kind n) axes_are
    (subst (λ k. rank < cells_per_cube k d) kinds low)) in
    let here : IsCubeCell v.kind (length v.sizes) rank cell =
    subst (λ n. IsCubeCell v.kind n rank cell) axes_are (subst (λ k. IsCubeCell k d rank cell) kinds is) in
    let per : cells_per_cube v.kind (length v.sizes) ≡ cells_per_cube v.kind d = ap (cells_per_cube v.kind) told.axes in
    subst (λ n. TellsCell v (cube * n + rank) d t label own cell.odd) per (record {
      fits = told.fits;
      axes = told.axes;
      kind = kinds;
      inside = kept_cell_in v cube rank told.kept below;
      entry = told.entries (cube * cells_per_cube v.kind (length v.sizes) + rank) (kept_cell_in v cube rank told.kept below);
      own_label = label_is ∙ ap (set_of (λ k. is_set signs (slice_index cell.points k))) here.corners
          ∙ same_bits (λ k. is_set signs (slice_index cell.points k))
          (λ k. is_set signs (point_number (length v.sizes) (corner_offset v.kind (length v.sizes) rank k))) (corner_count v.kind (length v.sizes))
          (λ k h. ap (is_set signs) (here.points k h))
          ∙ label_by_signs v cube signs told.fits told.own_signs rank below;
      own_sign = here.odd
          ∙ ap (is_odd_rank v.kind (length v.sizes)) (rank_in_cube v.kind v.sizes (length v.sizes) (cells_per_cube v.kind (length v.sizes)) cube rank refl refl below);
      counted = λ e few bipolar.
          own_is e (omega (arith, few, here.edges)) ∙ ap (slice_index numbers) (here.places e few) ∙ told.counted rank e below few;
    })

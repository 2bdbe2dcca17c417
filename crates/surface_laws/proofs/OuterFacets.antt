-- Where each cell is kept, a facet is free exactly where its points lie on the outer boundary.
use Rattle.std.proofs.Common.{◌≡◌, ℕ, zero, suc, ◌+◌, ◌*◌, ◌<◌, ◌≤◌, length, refl, sym, subst, arith, inl, inr, ℤ}
use Rattle.std.specs.Prelude.{◌⊎◌, ◌/◌, Contains, pos, negsuc, ◌+ℤ◌, slice_index}
use Rattle.std.proofs.lemmas.Bool.{cases_eq}
use Rattle.std.proofs.lemmas.Int.{ints}
use Rattle.lists.specs.Orders.{numbers}
use Rattle.iso_model.specs.Cells.{facet_count}
use Rattle.iso_model.specs.Splits.{cells_per_cube, cell_count, cube_of, rank_of}
use Rattle.iso_model.specs.Neighbours.{facet_points, IsNeighbour, OnOuterBoundary, shift_across}
use Rattle.iso_model.specs.Values.{Volume, IsRegularVolume, cells, is_kept}
use Rattle.iso_model.specs.Boundary.{IsFree, KeepsAll, FreeIsOuter}
use Rattle.iso_model.proofs.FaceLaws.{cells_below}
use Rattle.iso_model.specs.Dimensions.{IsDimension}
use Rattle.split_laws.specs.Standing.{shift_at, StandsAcross, LeavesGrid}
use Rattle.split_laws.proofs.Coordinates.{cube_below, cube_in}
use Rattle.split_laws.proofs.Across.{next_of}
use Rattle.split_laws.proofs.Passed.{fits}
use Rattle.split_laws.proofs.Placement.{below}
use Rattle.split_laws.proofs.SplitTheorems.{neighbour_is, boundary_is, found_across, one_across}
use Rattle.grid_split.specs.Steps.{IsStep, stepped, IsShiftedCube}
use Rattle.grid_split.proofs.PlaceSums.{number_before, number_of}
use Rattle.grid_split.proofs.NeighbourFound.{steps_across, some_neighbour}
use Rattle.volume_pieces.proofs.AcrossStands.{volume_dimension}
use Rattle.lists.proofs.MemberLaws.{Contains_from, In-numbers, In-filter}

-- where each cell is kept, each cell of the grid is a kept cell
pub all_cells : (v : Volume) → KeepsAll v → (c : ℕ) → c < cell_count v.kind v.sizes → Contains (cells v) c
unfolding cells
all_cells v all c h =
    Contains_from (cells v) c (In-filter (is_kept v) (numbers (cell_count v.kind v.sizes)) c (In-numbers (cell_count v.kind v.sizes) c h) (all c h))

module _ (v : Volume) (regular : IsRegularVolume v) where
  abbrev is : IsDimension (length v.sizes)
  is = volume_dimension v regular

  module _ (c f : ℕ) (hc : c < cell_count v.kind v.sizes) (hf : f < facet_count v.kind (length v.sizes)) where
    -- ---- on the outer boundary

    apart : LeavesGrid v.kind v.sizes c f → (other : ℕ) → StandsAcross v.kind v.sizes c f other → ⊥
    apart (i, h, inl low) other s = let place = s.cube i h in omega (arith, ints, place, low.0, low.1)
    apart (i, h, inr high) other s =
        let place = s.cube i h in
        let inside = cube_below v.sizes (other / cells_per_cube v.kind (length v.sizes)) (cube_in v.kind v.sizes other s.is_cell) i h in
        omega (arith, ints, place, high.0, high.1, inside)

    -- a facet on the outer boundary is free, whichever cells are kept
    pub outer_is_free : OnOuterBoundary v.sizes (facet_points v.kind v.sizes c f) → IsFree v c f
    outer_is_free on other g kept differ hg same =
        apart ((boundary_is v.kind v.sizes is regular.fits c f hc hf).0 on) other
        ((neighbour_is v.kind v.sizes is regular.fits c f other hc hf).0 (cells_below v other kept, differ, (g, hg, same)))

    -- ---- off the outer boundary

    abbrev x_at : ℕ → ℕ
    x_at i = slice_index (cube_of v.kind v.sizes c) i

    -- the place after the step
    abbrev place_at : ℕ → ℕ
    place_at i = stepped (x_at i) (shift_at v.kind v.sizes c f i)

    -- the shift leads to a cube of the grid in an axis
    abbrev Inside : ℕ → Type 0
    Inside i = (pos (place_at i) ≡ pos (x_at i) +ℤ shift_at v.kind v.sizes c f i) × (place_at i + 1 < slice_index v.sizes i)

    -- or it leads out of the grid
    abbrev Leaves : ℕ → Type 0
    Leaves i = ((shift_at v.kind v.sizes c f i ≡ negsuc 0) × (x_at i ≡ 0)) ⊎ ((shift_at v.kind v.sizes c f i ≡ pos 1) × (x_at i + 2 ≡ slice_index v.sizes i))

    step_case : (x n : ℕ) (s : ℤ) → x + 1 < n → IsStep s →
        ((pos (stepped x s) ≡ pos x +ℤ s) × (stepped x s + 1 < n)) ⊎ (((s ≡ negsuc 0) × (x ≡ 0)) ⊎ ((s ≡ pos 1) × (x + 2 ≡ n)))
    step_case x n s h (inl down) = elim (cases_eq x 0) [
      | inl none ↦ inr (inl (down, none))
      | inr some ↦ inl (subst (λ (t : ℤ). (pos (stepped x t) ≡ pos x +ℤ t) × (stepped x t + 1 < n)) (sym down) (omega (arith, ints, some), omega (arith, h)))
    ]
    step_case x n s h (inr (inl stay)) =
        inl (subst (λ (t : ℤ). (pos (stepped x t) ≡ pos x +ℤ t) × (stepped x t + 1 < n)) (sym stay) (omega (arith, ints), omega (arith, h)))
    step_case x n s h (inr (inr up)) = elim (cases_eq (x + 2) n) [
      | inl last ↦ inr (inr (up, last))
      | inr more ↦ inl (subst (λ (t : ℤ). (pos (stepped x t) ≡ pos x +ℤ t) × (stepped x t + 1 < n)) (sym up) (omega (arith, ints), omega (arith, h, more)))
    ]

    at_axis : (i : ℕ) → i < length v.sizes → Inside i ⊎ Leaves i
    at_axis i h =
        step_case (x_at i) (slice_index v.sizes i) (shift_at v.kind v.sizes c f i)
        (cube_below v.sizes (c / cells_per_cube v.kind (length v.sizes)) (cube_in v.kind v.sizes c hc) i h)
        (steps_across v.kind (length v.sizes) (rank_of v.kind v.sizes c) f i h)

    axes_below : (n : ℕ) → n ≤ length v.sizes → ((i : ℕ) → i < n → Inside i) ⊎ LeavesGrid v.kind v.sizes c f
    axes_below zero h = inl (λ i q. absurd (omega (arith, q)))
    axes_below (suc n) h = elim (axes_below n (omega (arith, h))) [
      | inr out ↦ inr out
      | inl before ↦ (elim (at_axis n (omega (arith, h))) [
        | inr out ↦ inr (n, omega (arith, h), out)
        | inl here ↦ inl (λ i q. elim (cases_eq i n) [
          | inl same ↦ subst Inside (sym same) here
          | inr other ↦ before i (omega (arith, q, other))
        ])
      ])
    ]

    abbrev rank : ℕ
    rank = rank_of v.kind v.sizes c

    hr : rank_of v.kind v.sizes c < cells_per_cube v.kind (length v.sizes)
    hr = below v.kind v.sizes (fits v.kind (length v.sizes) is regular.fits) c

    -- where no step leads out of the grid there is a neighbour
    neighbour_inside : ((i : ℕ) → i < length v.sizes → Inside i) → (other : ℕ) × IsNeighbour v.kind v.sizes c f other
    neighbour_inside inside =
        let number = number_before v.sizes place_at (length v.sizes) in
        let is_number = number_of v.sizes place_at (λ i h. (inside i h).1) in
        let at : IsShiftedCube (length v.sizes) v.sizes (cube_of v.kind v.sizes c) (shift_across v.kind (length v.sizes) (rank_of v.kind v.sizes c) f)
        number = record {
          below = is_number.below;
          places = λ i h. let place = is_number.at i h in let step = (inside i h).0 in omega (arith, ints, place, step);
        } in
        let next = next_of v.kind (length v.sizes) rank f in
        let across = found_across v.kind (length v.sizes) is regular.fits rank f hr hf in
        let found = number * cells_per_cube v.kind (length v.sizes) + next.0 in (
          found,
          (some_neighbour v.kind v.sizes (length v.sizes) c f rank next.0 next.1 (cube_of v.kind v.sizes c)
              (shift_across v.kind (length v.sizes) rank f) refl hc hf refl refl refl across
              (λ other. neighbour_is v.kind v.sizes is regular.fits c f other hc hf) (boundary_is v.kind v.sizes is regular.fits c f hc hf)
              (λ p h a. (one_across v.kind (length v.sizes) is regular.fits rank f next.0 next.1 p h hr hf across a).0) number at found).1 refl,
        )

    -- where each cell is kept, a free facet lies on the outer boundary
    pub free_is_outer_one : KeepsAll v → IsFree v c f → OnOuterBoundary v.sizes (facet_points v.kind v.sizes c f)
    free_is_outer_one all free = elim (axes_below (length v.sizes) (omega arith)) [
      | inr out ↦ (boundary_is v.kind v.sizes is regular.fits c f hc hf).1 out
      | inl inside ↦ absurd (let n = neighbour_inside inside in free n.0 n.1.2.0 (all_cells v all n.0 n.1.0) n.1.1 n.1.2.1 n.1.2.2)
    ]

  -- a facet is free exactly where its points lie on the outer boundary
  pub free_is_outer : FreeIsOuter v
  free_is_outer fits_kind all c f hc hf = (free_is_outer_one c f hc hf all, outer_is_free c f hc hf)

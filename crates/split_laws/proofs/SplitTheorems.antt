-- The laws of the splits: of each kind in its dimension, and of grids of any sizes.
use Rattle.std.proofs.Common.{◌≡◌, ℕ, ◌<◌, ◌≤◌, length, List, sym, ◌∙◌, subst}
use Rattle.std.specs.Prelude.{◌↔◌, slice_index}
use Rattle.iso_model.specs.declared.Kind.{Kind}
use Rattle.iso_model.specs.Cells.{HasDimension, corner_count, facet_count}
use Rattle.iso_model.specs.Splits.{cells_per_cube, cell_count, corner_offset}
use Rattle.iso_model.specs.Neighbours.{facet_points, IsAcross, IsNeighbour, OnOuterBoundary, HaveOwnMidpoints, ShareLaw}
use Rattle.iso_model.specs.SplitLaws.{AcrossLeadsBack, HasOwnCorners, HasFlatSides, AreJoined, KeepsTurns}
use Rattle.iso_model.specs.Dimensions.{IsDimension}
use Rattle.split_laws.specs.Standing.{StandsAcross, LeavesGrid}
use Rattle.split_laws.proofs.Sharing.{share_law}
use Rattle.split_laws.proofs.Across.{next_of, only_across, next_is_across}
use Rattle.split_laws.proofs.AcrossLaws.{leads_back, are_joined_by_seams}
use Rattle.split_laws.proofs.NeighbourLaws.{neighbour_stands, stands_neighbour, boundary_leaves, leaves_boundary}
use Rattle.split_laws.proofs.Midpoints.{have_own_midpoints}
use Rattle.split_laws.proofs.Turns.{keeps_turns}
use Rattle.split_laws.proofs.Passed.{shares_pass, across_pass, joined_pass, lead_back_pass, placed_pass, fits, have_corners, ends_are_corners, two_facets}

module _ (kind : Kind) (d : ℕ) (is : IsDimension d) (has : HasDimension kind d) where
  -- what stands across a facet leads back
  pub across_leads_back : (rank f other g : ℕ) → rank < cells_per_cube kind d → f < facet_count kind d → AcrossLeadsBack kind d rank f other g
  across_leads_back rank f other g hr hf =
      leads_back kind d (fits kind d is has) (have_corners kind d is has) (across_pass kind d is has) (lead_back_pass kind d is has) rank f hr hf
      other g

  pub own_corners : (rank : ℕ) → rank < cells_per_cube kind d → HasOwnCorners kind d rank
  own_corners rank hr = let fit = fits kind d is has in fit.own rank hr

  pub flat_sides : (rank : ℕ) → rank < cells_per_cube kind d → HasFlatSides kind d rank
  flat_sides rank hr = let fit = fits kind d is has in fit.flat rank hr

  -- two facets across from each other are joined by a seam
  pub joined : (rank f other g : ℕ) → rank < cells_per_cube kind d → f < facet_count kind d → AreJoined kind d rank f other g
  joined rank f other g hr hf =
      are_joined_by_seams kind d (fits kind d is has) (have_corners kind d is has) (across_pass kind d is has) (lead_back_pass kind d is has)
      (joined_pass kind d is has) rank f hr hf other g

  -- only one facet is across
  pub one_across : (rank f o g o' g' : ℕ) → rank < cells_per_cube kind d → f < facet_count kind d → IsAcross kind d rank f o g
      → IsAcross kind d rank f o' g' → (o ≡ o') × (g ≡ g')
  one_across rank f o g o' g' hr hf first second =
      let a = only_across kind d (fits kind d is has) (have_corners kind d is has) (across_pass kind d is has) rank f hr hf o g first in
      let b = only_across kind d (fits kind d is has) (have_corners kind d is has) (across_pass kind d is has) rank f hr hf o' g' second in
      (a.0 ∙ sym b.0, a.1 ∙ sym b.1)

  -- what the test found across a facet
  pub found_across : (rank f : ℕ) → rank < cells_per_cube kind d → f < facet_count kind d
      → IsAcross kind d rank f (next_of kind d rank f).0 (next_of kind d rank f).1
  found_across rank f hr hf = next_is_across kind d (fits kind d is has) (have_corners kind d is has) (across_pass kind d is has) rank f hr hf

  pub small_offsets : (rank k i : ℕ) → rank < cells_per_cube kind d → k < corner_count kind d → slice_index (corner_offset kind d rank k) i ≤ 2
  small_offsets rank k i hr hk = let fit = fits kind d is has in fit.small rank k i hr hk

  pub turns_kept : (rank : ℕ) (rows : List ((ℕ × ℕ) × (ℕ × ℕ))) → rank < cells_per_cube kind d → KeepsTurns kind d rank rows
  turns_kept rank rows hr = keeps_turns kind d rank (placed_pass kind d is has rank hr) rows

module _ (kind : Kind) (sizes : List ℕ) (is : IsDimension (length sizes)) (has : HasDimension kind (length sizes)) where
  pub own_midpoints : HaveOwnMidpoints kind sizes
  own_midpoints = have_own_midpoints kind sizes (fits kind (length sizes) is has) (ends_are_corners kind (length sizes) is has)

  -- the neighbour across a facet is the cell that stands in the shifted cube with the rank across
  pub neighbour_is : (cell f other : ℕ) → cell < cell_count kind sizes → f < facet_count kind (length sizes)
      → IsNeighbour kind sizes cell f other ↔ StandsAcross kind sizes cell f other
  neighbour_is cell f other hc hf = (
    neighbour_stands kind sizes (fits kind (length sizes) is has) (have_corners kind (length sizes) is has) (across_pass kind (length sizes) is has)
        cell f hc hf other,
    stands_neighbour kind sizes (fits kind (length sizes) is has) (have_corners kind (length sizes) is has) (across_pass kind (length sizes) is has)
        cell f hc hf other,
  )

  -- a facet lies on the outer boundary where the shift leads out of the grid
  pub boundary_is : (cell f : ℕ) → cell < cell_count kind sizes → f < facet_count kind (length sizes)
      → OnOuterBoundary sizes (facet_points kind sizes cell f) ↔ LeavesGrid kind sizes cell f
  boundary_is cell f hc hf = (
    boundary_leaves kind sizes (fits kind (length sizes) is has) (have_corners kind (length sizes) is has) (across_pass kind (length sizes) is has)
        cell f hc hf,
    leaves_boundary kind sizes (fits kind (length sizes) is has) (have_corners kind (length sizes) is has) (across_pass kind (length sizes) is has)
        cell f hc hf,
  )

  pub shares : (cell other : ℕ) (es : List ℕ) → ShareLaw kind sizes cell other es
  shares =
      share_law kind sizes (fits kind (length sizes) is has) (shares_pass kind (length sizes) is has) (ends_are_corners kind (length sizes) is has)
      (two_facets kind (length sizes) is has)

-- the same of a grid with as many axes as the kind has
module _ (kind : Kind) (d : ℕ) (is : IsDimension d) (has : HasDimension kind d) (sizes : List ℕ) (long : length sizes ≡ d) where
  grid_dimension : IsDimension (length sizes)
  grid_dimension = subst IsDimension (sym long) is

  kind_dimension : HasDimension kind (length sizes)
  kind_dimension = subst (HasDimension kind) (sym long) has

  pub grid_midpoints : HaveOwnMidpoints kind sizes
  grid_midpoints = own_midpoints kind sizes grid_dimension kind_dimension

  pub grid_neighbour : (cell f other : ℕ) → cell < cell_count kind sizes → f < facet_count kind d
      → IsNeighbour kind sizes cell f other ↔ StandsAcross kind sizes cell f other
  grid_neighbour cell f other hc hf =
      neighbour_is kind sizes grid_dimension kind_dimension cell f other hc (subst (λ (n : ℕ). f < facet_count kind n) (sym long) hf)

  pub grid_boundary : (cell f : ℕ) → cell < cell_count kind sizes → f < facet_count kind d
      → OnOuterBoundary sizes (facet_points kind sizes cell f) ↔ LeavesGrid kind sizes cell f
  grid_boundary cell f hc hf = boundary_is kind sizes grid_dimension kind_dimension cell f hc (subst (λ (n : ℕ). f < facet_count kind n) (sym long) hf)

  pub grid_shares : (cell other : ℕ) (es : List ℕ) → ShareLaw kind sizes cell other es
  grid_shares = shares kind sizes grid_dimension kind_dimension

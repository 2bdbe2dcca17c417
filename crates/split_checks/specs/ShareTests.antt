-- What two cells share, tested at each pair of corners that meet.
use Rattle.std.specs.Prelude.{ℕ, ◌==◌, Bool, true, false, not, ◌&&◌, ◌||◌, List, [], ◌∷◌, map, filter, slice_index_or}
use Rattle.std.specs.List.{list_all, list_any}
use Rattle.iso_model.specs.declared.Kind.{Kind}
use Rattle.lists.specs.Orders.{numbers}
use Rattle.iso_model.specs.Cells.{corner_count, facet_count}
use Rattle.iso_model.specs.Splits.{cells_per_cube}
use Rattle.iso_model.specs.SplitLaws.{facets_over}
use Rattle.split_checks.specs.CubeShifts.{meets, move_to, stays, offsets, facet_of, same_places}

-- corner k of the cell is a corner of the moved cell
abbrev pub is_common : List (List ℕ) → List ℕ → List (List ℕ) → ℕ → Bool
is_common cell move other k = list_any (λ q. meets (slice_index_or cell k []) move q) other

-- the corners that are corners of the moved cell too
abbrev pub common : Kind → ℕ → List (List ℕ) → List ℕ → List (List ℕ) → List ℕ
common kind d cell move other = filter (is_common cell move other) (numbers (corner_count kind d))

-- the common corners lie in a facet; where there is only one, a facet of the moved cell is at the same points
abbrev pub lie_well : Kind → ℕ → List (List ℕ) → List ℕ → List (List ℕ) → List ℕ → Bool
lie_well kind d cell move other [] = false
lie_well kind d cell move other (f ∷ []) = list_any (λ g. same_places move (facet_of kind d cell f) (facet_of kind d other g)) (numbers (facet_count kind d))
lie_well kind d cell move other (f ∷ g ∷ fs) = true

-- at this move: it is the same cell, or the common corners lie well
abbrev pub shares_at : Kind → ℕ → Bool → List (List ℕ) → List (List ℕ) → List ℕ → Bool
shares_at kind d same_rank cell other move = same_rank && stays move || lie_well kind d cell move other (facets_over kind d (common kind d cell move other))

-- at each pair of corners
abbrev pub shares_with : Kind → ℕ → Bool → List (List ℕ) → List (List ℕ) → Bool
shares_with kind d same_rank cell other =
    list_all (λ p. list_all (λ q. not (meets p (move_to p q) q) || shares_at kind d same_rank cell other (move_to p q)) other) cell

-- the cell of this rank and each other one
abbrev pub shares_of : Kind → ℕ → List (List (List ℕ)) → ℕ → Bool
shares_of kind d all rank =
    list_all (λ r. shares_with kind d (rank == r) (slice_index_or all rank []) (slice_index_or all r [])) (numbers (cells_per_cube kind d))

-- the offsets of all cells of a cube, by their ranks
abbrev pub all_offsets : Kind → ℕ → List (List (List ℕ))
all_offsets kind d = map (offsets kind d) (numbers (cells_per_cube kind d))

abbrev pub all_share : Kind → ℕ → List ℕ → Bool
all_share kind d ranks = list_all (shares_of kind d (all_offsets kind d)) ranks

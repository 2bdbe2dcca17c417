-- What is held of the canonical cell.
use Rattle.std.specs.Prelude.{◌≡◌, ℕ, ◌<◌, ℤ, pos, List, [], map, slice_index, slice_index_or}
use Rattle.iso_model.specs.declared.Kind.{Kind}
use Rattle.iso_model.specs.Cells.{HasDimension, corner_count, edge_count, facet_count, corner_point, edge_ends, edge_midpoint, edge_in_facet}
use Rattle.iso_model.specs.Turns.{difference}
use Rattle.iso_model.specs.Acceptance.{positive_end, negative_end}
use Rattle.lists.specs.Bits.{is_set}

-- the number of edges and of facets of the canonical cell, the ends and midpoints of its edges, its corners, and the sets of the edges of its facets,
-- each at the place of its number
pub record AreFigures (kind : Kind) (d edges facets : ℕ) (ends : List (ℕ × ℕ)) (midpoints corners : List (List ℤ)) (sets : List ℕ) : Type 0 where
  pub fits : HasDimension kind d
  pub edges_are : edges ≡ edge_count kind d
  pub facets_are : facets ≡ facet_count kind d
  pub ends_are : (e : ℕ) → e < edge_count kind d → slice_index_or ends e (0, 0) ≡ edge_ends kind d e
  pub midpoints_are : (e : ℕ) → e < edge_count kind d → slice_index_or midpoints e [] ≡ map pos (edge_midpoint kind d e)
  pub corners_are : (k : ℕ) → k < corner_count kind d → slice_index_or corners k [] ≡ map pos (corner_point kind d k)
  pub sets_are : (f e : ℕ) → f < facet_count kind d → e < edge_count kind d → is_set (slice_index sets f) e ≡ edge_in_facet kind d f e

-- the step along a bipolar edge, from its negative to its positive end
abbrev pub ascent : Kind → ℕ → ℕ → ℕ → List ℤ
ascent kind d label e = difference (corner_point kind d (positive_end kind d label e)) (corner_point kind d (negative_end kind d label e))

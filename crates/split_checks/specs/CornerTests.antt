-- Corners and edges of the cells of a cube, tested one by one.
use Rattle.std.specs.Prelude.{ℕ, ◌+◌, ◌*◌, ◌/◌, ◌==◌, nat_le, Bool, not, ◌&&◌, ◌||◌, List, length, slice_index}
use Rattle.std.specs.List.{list_all, list_any}
use Rattle.iso_model.specs.declared.Kind.{Kind}
use Rattle.lists.specs.Orders.{numbers, same_list}
use Rattle.iso_model.specs.Points.{axes, point}
use Rattle.iso_model.specs.Cells.{corner_count, edge_count, edge_ends, facet_count, facet_corners}
use Rattle.iso_model.specs.Splits.{corner_offset}
use Rattle.iso_model.specs.SplitLaws.{corners_at, facets_over}

-- an offset has D coordinates, none above 2
abbrev pub is_offset : Kind → ℕ → ℕ → ℕ → Bool
is_offset kind d rank k = (length (corner_offset kind d rank k) == d) && list_all (λ x. nat_le x 2) (corner_offset kind d rank k)

-- different corners of a cell are different points
abbrev pub has_own_corners : Kind → ℕ → ℕ → Bool
has_own_corners kind d rank =
    list_all (λ j. list_all (λ k. (j == k) || not (same_list (corner_offset kind d rank j) (corner_offset kind d rank k))) (numbers (corner_count kind d)))
    (numbers (corner_count kind d))

-- these corners are a facet or lie in at least two
abbrev pub are_facet_or_less : Kind → ℕ → List ℕ → Bool
are_facet_or_less kind d ks = list_any (λ f. same_list (facet_corners kind d f) ks) (numbers (facet_count kind d)) || nat_le 2 (length (facets_over kind d ks))

-- on each side of the cube
abbrev pub has_flat_sides : Kind → ℕ → ℕ → Bool
has_flat_sides kind d rank =
    list_all (λ i. are_facet_or_less kind d (corners_at kind d rank i 0) && are_facet_or_less kind d (corners_at kind d rank i 2)) (axes d)

-- half of an edge: each coordinate of the one end from the sum of both
abbrev pub even_part : ℕ → ℕ
even_part x = 2 * ((x + 1) / 4)

-- one end of an edge is told by the sum of both
abbrev pub is_even_end : ℕ → List ℕ → List ℕ → Bool
is_even_end d p q = same_list p (point d (λ i. even_part (slice_index p i + slice_index q i)))

abbrev pub has_even_end : Kind → ℕ → ℕ → ℕ → Bool
has_even_end kind d rank e =
    is_even_end d (corner_offset kind d rank (edge_ends kind d e).0) (corner_offset kind d rank (edge_ends kind d e).1)
    || is_even_end d (corner_offset kind d rank (edge_ends kind d e).1) (corner_offset kind d rank (edge_ends kind d e).0)

abbrev pub corners_fit : Kind → ℕ → ℕ → Bool
corners_fit kind d rank =
    list_all (is_offset kind d rank) (numbers (corner_count kind d)) && has_own_corners kind d rank && has_flat_sides kind d rank
    && list_all (has_even_end kind d rank) (numbers (edge_count kind d))

abbrev pub all_corners_fit : Kind → ℕ → List ℕ → Bool
all_corners_fit kind d ranks = list_all (corners_fit kind d) ranks

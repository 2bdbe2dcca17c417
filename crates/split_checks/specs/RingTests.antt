-- The ring round an edge of a cell, by ranks: a walk that goes on across the facet with the edge by which it did not come. Tested for each edge of
-- each cell of a cube.
use Rattle.std.specs.Prelude.{ℕ, zero, suc, ◌==◌, nat_lt, Bool, true, false, not, ◌&&◌, ◌||◌, List, [], ◌∷◌, filter, slice_index}
use Rattle.std.specs.List.{list_all, list_any, position_or_len}
use Rattle.iso_model.specs.declared.Kind.{Kind}
use Rattle.lists.specs.Orders.{numbers}
use Rattle.iso_model.specs.Cells.{edge_count, edge_ends, edge_in_facet, facet_count, facets_with}
use Rattle.iso_model.specs.Splits.{cells_per_cube, corner_offset}
use Rattle.iso_model.specs.Neighbours.{facet_offsets}
use Rattle.split_checks.specs.CubeShifts.{meets, move_to}
use Rattle.split_checks.specs.AcrossTests.{next_across, next_at, move_across}

-- a cell at the edge, by its rank and the number that the edge has in it; where its cube stands is told by both
pub record AtEdge : Type 0 where
  pub rank : ℕ
  pub edge : ℕ

abbrev pub at_edge : ℕ → ℕ → AtEdge
at_edge r n = record { rank = r; edge = n }

-- the offsets of the two ends
abbrev pub first_end : Kind → ℕ → AtEdge → List ℕ
first_end kind d s = corner_offset kind d s.rank (edge_ends kind d s.edge).0

abbrev pub second_end : Kind → ℕ → AtEdge → List ℕ
second_end kind d s = corner_offset kind d s.rank (edge_ends kind d s.edge).1

-- the ends of the one are those of the other in the moved cube, first to first
abbrev pub ends_meet : Kind → ℕ → AtEdge → List ℕ → AtEdge → Bool
ends_meet kind d s move t = meets (first_end kind d s) move (first_end kind d t) && meets (second_end kind d s) move (second_end kind d t)

-- first to second
abbrev pub ends_cross : Kind → ℕ → AtEdge → List ℕ → AtEdge → Bool
ends_cross kind d s move t = meets (first_end kind d s) move (second_end kind d t) && meets (second_end kind d s) move (first_end kind d t)

-- both may be at one edge of a grid
abbrev pub may_meet : Kind → ℕ → AtEdge → AtEdge → Bool
may_meet kind d s t =
    ends_meet kind d s (move_to (first_end kind d s) (first_end kind d t)) t || ends_cross kind d s (move_to (first_end kind d s) (second_end kind d t)) t

-- ---- the walk

-- the facet with the edge other than g
abbrev pub way_on : Kind → ℕ → AtEdge → ℕ → ℕ
way_on kind d s g = slice_index (filter (λ f. not (f == g)) (facets_with kind d (s.edge ∷ []))) 0

-- the move of the cube across a facet
abbrev pub move_over : Kind → ℕ → AtEdge → ℕ → List ℕ
move_over kind d s f = move_across d (facet_offsets kind d s.rank f)

-- the cell of this rank in the moved cube, with the number of the edge in it
abbrev pub found_there : Kind → ℕ → AtEdge → List ℕ → ℕ → AtEdge
found_there kind d s move r = at_edge r (position_or_len (λ n. ends_meet kind d s move (at_edge r n)) (numbers (edge_count kind d)))

-- the cell across a facet
abbrev pub step : Kind → ℕ → List (List (ℕ × ℕ)) → AtEdge → ℕ → AtEdge
step kind d next s f = found_there kind d s (move_over kind d s f) (next_at next s.rank f).0

-- the cells of n steps, from one that was entered by the facet g
abbrev pub walk : Kind → ℕ → List (List (ℕ × ℕ)) → ℕ → ℕ → AtEdge → List AtEdge
walk kind d next zero g s = s ∷ []
walk kind d next (suc n) g s = s ∷ walk kind d next n (next_at next s.rank (way_on kind d s g)).1 (step kind d next s (way_on kind d s g))

-- the facet has the edge, and the cell across has it too
abbrev pub goes_well : Kind → ℕ → AtEdge → ℕ → AtEdge → Bool
goes_well kind d s f t =
    nat_lt f (facet_count kind d) && edge_in_facet kind d f s.edge && nat_lt t.edge (edge_count kind d) && ends_meet kind d s (move_over kind d s f) t

abbrev pub walks_well : Kind → ℕ → List (List (ℕ × ℕ)) → ℕ → ℕ → AtEdge → Bool
walks_well kind d next zero g s = true
walks_well kind d next (suc n) g s =
    goes_well kind d s (way_on kind d s g) (step kind d next s (way_on kind d s g))
    && walks_well kind d next n (next_at next s.rank (way_on kind d s g)).1 (step kind d next s (way_on kind d s g))

-- ---- the tests

abbrev pub same_state : AtEdge → AtEdge → Bool
same_state s t = (s.rank == t.rank) && (s.edge == t.edge)

-- each cell that may be at the edge is met
abbrev pub meets_each : Kind → ℕ → AtEdge → List AtEdge → Bool
meets_each kind d s ring =
    list_all (λ r. list_all (λ n. not (may_meet kind d s (at_edge r n)) || list_any (same_state (at_edge r n)) ring) (numbers (edge_count kind d)))
    (numbers (cells_per_cube kind d))

-- the first three cells are different
abbrev pub three_apart : List AtEdge → Bool
three_apart [] = false
three_apart (a ∷ []) = false
three_apart (a ∷ b ∷ []) = false
three_apart (a ∷ b ∷ c ∷ rest) = not (same_state a b) && not (same_state a c) && not (same_state b c)

-- no ring has more than eight cells
abbrev pub ring : Kind → ℕ → List (List (ℕ × ℕ)) → AtEdge → List AtEdge
ring kind d next s = walk kind d next 7 (facet_count kind d) s

abbrev pub is_ring : Kind → ℕ → List (List (ℕ × ℕ)) → AtEdge → Bool
is_ring kind d next s = walks_well kind d next 7 (facet_count kind d) s && meets_each kind d s (ring kind d next s) && three_apart (ring kind d next s)

-- at each edge of the cell of this rank
abbrev pub rings_of : Kind → ℕ → List (List (ℕ × ℕ)) → ℕ → Bool
rings_of kind d next r = list_all (λ n. is_ring kind d next (at_edge r n)) (numbers (edge_count kind d))

abbrev pub all_rings : Kind → ℕ → List ℕ → Bool
all_rings kind d ranks = list_all (rings_of kind d (next_across kind d)) ranks

-- A way from a cell at an edge to another one there, by ranks: a walk whose cubes all stand between the two. Tested for each two cells that may meet
-- at an edge.
use Rattle.std.specs.Prelude.{ℕ, zero, suc, ◌+◌, ◌-◌, ◌==◌, Bool, true, false, not, ◌&&◌, ◌||◌, List, [], ◌∷◌}
use Rattle.std.specs.List.{list_all}
use Rattle.iso_model.specs.declared.Kind.{Kind}
use Rattle.lists.specs.Orders.{numbers}
use Rattle.iso_model.specs.Cells.{edge_count, facet_count}
use Rattle.iso_model.specs.Splits.{cells_per_cube}
use Rattle.split_checks.specs.CubeShifts.{move_to, stays}
use Rattle.split_checks.specs.AcrossTests.{next_across, next_at}
use Rattle.split_checks.specs.RingTests.{AtEdge, at_edge, first_end, second_end, ends_meet, ends_cross, way_on, move_over, step, goes_well}

-- a step is a part of a move: in each axis it stays, or does as the move does
abbrev pub is_part : List ℕ → List ℕ → Bool
is_part [] ms = true
is_part (s ∷ ss) [] = false
is_part (s ∷ ss) (m ∷ ms) = ((s == 1) || (s == m)) && is_part ss ms

-- the move that is left after a step
abbrev pub left_after : List ℕ → List ℕ → List ℕ
left_after [] ms = []
left_after (s ∷ ss) [] = []
left_after (s ∷ ss) (m ∷ ms) = (m + 1 - s) ∷ left_after ss ms

-- nothing is left of the move, and the rank is the wanted one
abbrev pub is_there : AtEdge → List ℕ → ℕ → Bool
is_there s move r = stays move && (s.rank == r)

-- a walk of at most n steps, from a cell that was entered by the facet g, comes to the cell of rank r in the moved cube; each step is a part of the
-- move that is left
abbrev pub comes_to : Kind → ℕ → List (List (ℕ × ℕ)) → ℕ → ℕ → AtEdge → List ℕ → ℕ → Bool
comes_to kind d next zero g s move r = is_there s move r
comes_to kind d next (suc n) g s move r =
    is_there s move r || ((goes_well kind d s (way_on kind d s g) (step kind d next s (way_on kind d s g)) && is_part
    (move_over kind d s (way_on kind d s g)) move)
    && comes_to kind d next n (next_at next s.rank (way_on kind d s g)).1 (step kind d next s (way_on kind d s g))
    (left_after (move_over kind d s (way_on kind d s g)) move) r)

-- a walk the one way round the edge comes there, or one the other way round
abbrev pub has_way : Kind → ℕ → List (List (ℕ × ℕ)) → AtEdge → List ℕ → ℕ → Bool
has_way kind d next s move r = comes_to kind d next 7 (facet_count kind d) s move r || comes_to kind d next 7 (way_on kind d s (facet_count kind d)) s move r

-- where two cells may meet at an edge, there is a way from the one to the other
abbrev pub finds_way : Kind → ℕ → List (List (ℕ × ℕ)) → AtEdge → AtEdge → Bool
finds_way kind d next s t =
    (not (ends_meet kind d s (move_to (first_end kind d s) (first_end kind d t)) t)
    || has_way kind d next s (move_to (first_end kind d s) (first_end kind d t)) t.rank)
    &&
    (not (ends_cross kind d s (move_to (first_end kind d s) (second_end kind d t)) t)
    || has_way kind d next s (move_to (first_end kind d s) (second_end kind d t)) t.rank)

-- at each edge of the cell of this rank
abbrev pub ways_of : Kind → ℕ → List (List (ℕ × ℕ)) → ℕ → Bool
ways_of kind d next r =
    list_all
    (λ n.
    list_all (λ q. list_all (λ m. finds_way kind d next (at_edge r n) (at_edge q m)) (numbers (edge_count kind d)))
    (numbers (cells_per_cube kind d)))
    (numbers (edge_count kind d))

abbrev pub all_ways : Kind → ℕ → List ℕ → Bool
all_ways kind d ranks = list_all (ways_of kind d (next_across kind d)) ranks

-- Which midpoints the cells of one cube have, as tests that compute.
use Rattle.std.specs.Prelude.{ℕ, zero, suc, Bool, not, List, [], ◌∷◌, ◌&&◌, ◌==◌, nat_le, length, map, flat_map, if◌then◌else◌}
use Rattle.std.specs.List.{list_all, list_any}
use Rattle.iso_model.specs.declared.Kind.{Kind}
use Rattle.lists.specs.Orders.{numbers, same_list}
use Rattle.iso_model.specs.Cells.{edge_count}
use Rattle.iso_model.specs.Splits.{cells_per_cube, midpoint}
use Rattle.iso_model.specs.Bipolar.{same_edge}
use Rattle.edge_middles.specs.Middles.{edge_at, edge_from, is_middle, cube_middles}

-- all points in quarter-units of one cube of d axes
abbrev pub cube_points : ℕ → List (List ℕ)
cube_points zero = [] ∷ []
cube_points (suc d) = flat_map (λ rest. map (λ c. c ∷ rest) (numbers 5)) (cube_points d)

-- the points of a cube that are midpoints of edges of its cells are those that a midpoint of the split can be
abbrev pub has_all_middles : Kind → ℕ → Bool
has_all_middles kind d =
    let middles = cube_middles kind d in
    list_all (λ p. if is_middle kind p then list_any (same_list p) middles else not (list_any (same_list p) middles)) (cube_points d)

-- the midpoints of the edges of the cells of a cube are points of the cube
abbrev pub lie_inside : Kind → ℕ → Bool
lie_inside kind d = list_all (λ m. (length m == d) && list_all (λ c. nat_le c 4) m) (cube_middles kind d)

-- each edge of the cells of a cube is the edge at its midpoint
abbrev pub edges_at_middles : Kind → ℕ → Bool
edges_at_middles kind d = list_all (λ rank. list_all (λ e. same_edge (edge_at (midpoint (edge_from kind d rank e))) (edge_from kind d rank e))
    (numbers (edge_count kind d))) (numbers (cells_per_cube kind d))

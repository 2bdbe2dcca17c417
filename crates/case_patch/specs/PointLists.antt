-- The points of edges and of corners, in quarter-units.
use Rattle.std.specs.Prelude.{◌*◌, ◌++◌, ℕ, ℤ, pos, List, map}
use Rattle.iso_model.specs.declared.Kind.{Kind}
use Rattle.iso_model.specs.Cells.{corner_point, edge_midpoint}

-- the midpoints of these edges, and then twice the points of these corners
abbrev pub points_of : Kind → ℕ → List ℕ → List ℕ → List (List ℤ)
points_of kind d es ks = map (λ e. map pos (edge_midpoint kind d e)) es ++ map (λ k. map (λ x. pos (2 * x)) (corner_point kind d k)) ks

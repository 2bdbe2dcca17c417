-- Points and edges that are moved by whole cubes.
use Rattle.std.specs.Prelude.{ℕ, ◌<◌, ◌+◌, ◌*◌, ◌≡◌, List, [], ◌∷◌, length}
use Rattle.iso_model.specs.declared.Kind.{Kind}
use Rattle.iso_model.specs.Cells.{edge_count}
use Rattle.iso_model.specs.Dimensions.{IsDimension}
use Rattle.iso_model.specs.Splits.{Edge, cell_count, cube_of, edge, midpoint, rank_of}
use Rattle.edge_middles.specs.Middles.{edge_at, edge_from}

-- a point that is moved by the place of a cube, where a cube is k long along each axis
abbrev pub moved : ℕ → List ℕ → List ℕ → List ℕ
moved k [] p = []
moved k (c ∷ x) [] = []
moved k (c ∷ x) (m ∷ p) = (k * c + m) ∷ moved k x p

-- an edge that is moved by the place of a cube, in half-units
abbrev pub moved_edge : List ℕ → Edge → Edge
moved_edge x e = record { low = moved 2 x e.low; high = moved 2 x e.high }

-- the edge of a midpoint that is moved, in quarter-units, is the edge of the midpoint, moved
abbrev pub MovesEdges : List ℕ → List ℕ → Type 0
MovesEdges x middle = length x ≡ length middle → edge_at (moved 4 x middle) ≡ moved_edge x (edge_at middle)

-- the edges of the cells of a grid are those of the cells of one cube, moved by the places of cubes
abbrev pub AreMovedEdges : Kind → List ℕ → Type 0
AreMovedEdges kind sizes =
    (cell e : ℕ) → edge kind sizes cell e ≡ moved_edge (cube_of kind sizes cell) (edge_from kind (length sizes) (rank_of kind sizes cell) e)

-- each edge of the cells of a grid of two to four axes is the edge at its midpoint
abbrev pub HasGridEdgesAtMiddles : Kind → List ℕ → Type 0
HasGridEdgesAtMiddles kind sizes = IsDimension (length sizes) → (cell e : ℕ) → cell < cell_count kind sizes → e < edge_count kind (length sizes)
    → edge_at (midpoint (edge kind sizes cell e)) ≡ edge kind sizes cell e

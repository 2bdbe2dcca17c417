-- Which midpoints the edges of a split can have: in a grid, and among the points of one cube.
use Rattle.std.specs.Prelude.{◌+◌, ◌/◌, ◌*◌, ◌<◌, if◌then◌else◌, ℕ, ◌%◌, ◌≤◌, ◌≡◌, ◌==◌, Bool, true, ◌&&◌, ◌||◌, nat_lt, List}
use Rattle.std.specs.Prelude.{All, ◌↔◌, map, flat_map, count_by, length}
use Rattle.std.specs.List.{list_all}
use Rattle.iso_model.specs.declared.Kind.{Kind}
use Rattle.iso_model.specs.declared.Kind.TheVariants.{Cube, Simplex, Pyramid}
use Rattle.lists.specs.Orders.{numbers}
use Rattle.lists.specs.Members.{In}
use Rattle.iso_model.specs.Points.{plus}
use Rattle.iso_model.specs.Cells.{edge_count, edge_ends}
use Rattle.iso_model.specs.Splits.{Edge, cells_per_cube, corner_offset, edge_of_ends, midpoint}

-- ---- which midpoints there can be. A midpoint is in quarter-units: along an axis it is 4x at the sample x, 4x + 2 between it and the next,
-- and 4x + 1 or 4x + 3 where one of its ends is the centre of a cube at x

-- along how many axes the edge with this midpoint goes, where it joins samples
abbrev pub axes_along : List ℕ → ℕ
axes_along middle = count_by (λ c. c % 4 == 2) middle

-- both ends are samples
abbrev pub joins_samples : List ℕ → Bool
joins_samples middle = list_all (λ c. c % 2 == 0) middle

-- one end is the centre of a cube, and the other one of its corners
abbrev pub joins_centre : List ℕ → Bool
joins_centre middle = list_all (λ c. c % 2 == 1) middle

-- edges of cubes go along one axis, those of simplices along one or more, those of pyramids along one or to the centre
abbrev pub is_middle : Kind → List ℕ → Bool
is_middle Cube middle = joins_samples middle && axes_along middle == 1
is_middle Simplex middle = joins_samples middle && nat_lt 0 (axes_along middle)
is_middle Pyramid middle = (joins_samples middle && axes_along middle == 1) || joins_centre middle

-- ---- the edge of a midpoint

-- the end at or below a midpoint along each axis, and that at or above it, in half-units: of an edge that joins samples
abbrev pub sample_edge : List ℕ → Edge
sample_edge middle = record { low = map (λ c. 2 * (c / 4)) middle; high = map (λ c. 2 * ((c + 2) / 4)) middle }

-- the corner and the centre of the cube in which the midpoint of an edge to the centre lies
abbrev pub centre_edge : List ℕ → Edge
centre_edge middle = edge_of_ends (map (λ c. 2 * ((c + 1) / 4)) middle) (map (λ c. 2 * (c / 4) + 1) middle)

-- the edge with this midpoint
abbrev pub edge_at : List ℕ → Edge
edge_at middle = if joins_samples middle then sample_edge middle else centre_edge middle

-- ---- of one cube

-- the midpoints of the edges of the cells of one cube, from its first corner
abbrev pub cube_middles : Kind → ℕ → List (List ℕ)
cube_middles kind d =
    flat_map (λ rank. map (λ e. plus (corner_offset kind d rank (edge_ends kind d e).0) (corner_offset kind d rank (edge_ends kind d e).1))
    (numbers (edge_count kind d))) (numbers (cells_per_cube kind d))

-- a point of a cube of d axes, from its first corner, that can be a midpoint
abbrev pub IsCubeMiddle : Kind → ℕ → List ℕ → Type 0
IsCubeMiddle kind d middle = (length middle ≡ d) × All (λ c. c ≤ 4) middle × (is_middle kind middle ≡ true)

-- the midpoints of the edges of the cells of one cube are the points of the cube that can be midpoints
abbrev pub HasAllMiddles : Kind → ℕ → Type 0
HasAllMiddles kind d = (middle : List ℕ) → In middle (cube_middles kind d) ↔ IsCubeMiddle kind d middle

-- edge e of the cell of this rank, from the first corner of its cube
abbrev pub edge_from : Kind → ℕ → ℕ → ℕ → Edge
edge_from kind d rank e =
    let ends = edge_ends kind d e in
    edge_of_ends (corner_offset kind d rank ends.0) (corner_offset kind d rank ends.1)

-- each edge of the cells of one cube is the edge at its midpoint
abbrev pub HasEdgesAtMiddles : Kind → ℕ → Type 0
HasEdgesAtMiddles kind d = (rank e : ℕ) → rank < cells_per_cube kind d → e < edge_count kind d
    → edge_at (midpoint (edge_from kind d rank e)) ≡ edge_from kind d rank e

-- Which midpoints the cells of a cube of a grid have.
use Rattle.std.specs.Prelude.{ℕ, ◌+◌, ◌*◌, ◌<◌, ◌≡◌, Bool, true, false, ◌&&◌, nat_le, List, [], ◌∷◌, ◌↔◌, length, map, flat_map}
use Rattle.iso_model.specs.declared.Kind.{Kind}
use Rattle.iso_model.specs.Cells.{edge_count, edge_ends}
use Rattle.iso_model.specs.Dimensions.{IsDimension}
use Rattle.iso_model.specs.Points.{plus}
use Rattle.iso_model.specs.Splits.{cells_per_cube, corner_offset, cube_at, edge, midpoint}
use Rattle.lists.specs.Members.{In}
use Rattle.lists.specs.Orders.{numbers}
use Rattle.edge_middles.specs.Middles.{is_middle}
use Rattle.edge_middles.specs.MovedEdges.{moved}

-- the cube at x holds the midpoint: along each axis it lies from 4x to 4x + 4
abbrev pub holds : List ℕ → List ℕ → Bool
holds [] middle = true
holds (c ∷ x) [] = false
holds (c ∷ x) (m ∷ middle) = nat_le (4 * c) m && nat_le m (4 * c + 4) && holds x middle

-- the midpoint of edge e of the cell of this rank, from the first corner of its cube
abbrev pub middle_from : Kind → ℕ → ℕ → ℕ → List ℕ
middle_from kind d rank e = plus (corner_offset kind d rank (edge_ends kind d e).0) (corner_offset kind d rank (edge_ends kind d e).1)

-- the midpoints of the edges of a grid's cells are those of the cells of one cube, moved by the place of their cube
abbrev pub AreMovedMiddles : Kind → List ℕ → Type 0
AreMovedMiddles kind sizes = (cube rank e : ℕ) → rank < cells_per_cube kind (length sizes)
    → midpoint (edge kind sizes (cube * cells_per_cube kind (length sizes) + rank) e)
    ≡ moved 4 (cube_at sizes cube) (middle_from kind (length sizes) rank e)

-- the cells of the cube of this number
abbrev pub cells_in : Kind → List ℕ → ℕ → List ℕ
cells_in kind sizes cube =
    let per = cells_per_cube kind (length sizes) in
    map (λ rank. cube * per + rank) (numbers per)

-- the midpoints of the edges of a cell
abbrev pub cell_middles : Kind → List ℕ → ℕ → List (List ℕ)
cell_middles kind sizes cell = map (λ e. midpoint (edge kind sizes cell e)) (numbers (edge_count kind (length sizes)))

-- a point of the grid that the cube of this number holds, and that can be a midpoint
abbrev pub IsHeldMiddle : Kind → List ℕ → ℕ → List ℕ → Type 0
IsHeldMiddle kind sizes cube middle =
    (length middle ≡ length sizes) × (holds (cube_at sizes cube) middle ≡ true) × (is_middle kind middle ≡ true)

-- the midpoints of the edges of the cells of a cube are the points that it holds and that can be midpoints
abbrev pub HasHeldMiddles : Kind → List ℕ → Type 0
HasHeldMiddles kind sizes = IsDimension (length sizes) → (cube : ℕ) (middle : List ℕ)
    → In middle (flat_map (cell_middles kind sizes) (cells_in kind sizes cube)) ↔ IsHeldMiddle kind sizes cube middle

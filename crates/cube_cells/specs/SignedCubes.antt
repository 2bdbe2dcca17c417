-- Cubes of a grid that were read: where they stand, and which of their points are positive.
use Rattle.std.specs.Prelude.{◌≡◌, ℕ, ◌+◌, ◌-◌, ◌*◌, ◌^◌, ◌<◌, Bool, None, List, length, slice_index, ℤ}
use Rattle.std.specs.Int.{bit_at}
use Rattle.iso_model.specs.declared.Kind.{Kind}
use Rattle.iso_model.specs.Points.{point}
use Rattle.iso_model.specs.Splits.{cube_at, Edge, edge}
use Rattle.iso_model.specs.Values.{Grid, is_positive, value_at, volume, label_of}
use Rattle.mixed_cubes.specs.CubeFaces.{corner_number}
use Rattle.cube_cells.specs.declared.cubes.SignedCube.{SignedCube}
use Rattle.cube_cells.specs.declared.steps.CubeSteps.{CubeSteps}
use Rattle.lists.specs.Bits.{is_set}

-- a point of a grid is positive at an isovalue
abbrev pub is_positive_at : Grid → ℤ → List ℕ → Bool
is_positive_at g iso p = is_positive iso (value_at g.sizes g.samples p)

-- how a grid of these sizes is gone through: how many cubes it has along each axis, and how far the sample at each corner of a cube is from the one
-- at its first
pub record AreSteps {D : ℕ} (sizes : List ℕ) (steps : CubeSteps D) : Type 0 where
  pub spans : (i : ℕ) → i < length sizes → slice_index steps.spans i ≡ slice_index sizes i - 1
  pub corners : (k : ℕ) → k < 2 ^ length sizes → slice_index steps.corners k ≡ corner_number sizes k

-- the cube of this number in a grid at an isovalue: it stands where that cube does; bit k of its signs is set where its corner k is positive, and in
-- three dimensions bit 8 where its centre is
pub record IsSignedCube {D : ℕ} (g : Grid) (iso : ℤ) (number : ℕ) (cube : SignedCube D) : Type 0 where
  pub stands : cube.place ≡ cube_at g.sizes number
  pub corners : (k : ℕ) → k < 2 ^ length g.sizes
      → is_set cube.signs k ≡ is_positive_at g iso (point (length g.sizes) (λ i. 2 * slice_index cube.place i + 2 * bit_at k i))
  pub centre : length g.sizes ≡ 3 → is_set cube.signs 8 ≡ is_positive_at g iso (point 3 (λ i. 2 * slice_index cube.place i + 1))

-- what holds of each grid of D axes, isovalue and number of a cube by which a cube was read
abbrev pub WhereRead : {D : ℕ} → SignedCube D → (Grid → ℤ → ℕ → Type 0) → Type 0
WhereRead {D = D} cube P = (g : Grid) (iso : ℤ) (number : ℕ) → length g.sizes ≡ D → IsSignedCube g iso number cube → P g iso number

-- the label of the cell of this rank in a cube of a grid, each cube with this many cells
abbrev pub label_there : Kind → ℕ → ℕ → Grid → ℤ → ℕ → ℕ
label_there kind per rank g iso number = label_of (volume kind g iso None) (number * per + rank)

-- an edge of the cell of this rank in a cube of a grid, each cube with this many cells
abbrev pub edge_there : Kind → ℕ → ℕ → ℕ → Grid → ℕ → Edge
edge_there kind per rank e g number = edge kind g.sizes (number * per + rank) e

-- The cells of a cube: their corners and edges among those of the cube, and what is told of a cube to put their simplices.
use Rattle.std.specs.Prelude.{ℕ, ◌+◌, ◌*◌, ◌<◌, ◌≤◌, ◌^◌, ◌≡◌, Contains, List, length, slice_index, slice_index_or}
use Rattle.std.specs.Int.{bit_at}
use Rattle.lists.specs.Bits.{is_set}
use Rattle.iso_model.specs.declared.Kind.{Kind}
use Rattle.iso_model.specs.declared.Kind.TheVariants.{Pyramid}
use Rattle.iso_model.specs.Cells.{HasDimension, corner_count, edge_count}
use Rattle.iso_model.specs.Points.{point}
use Rattle.iso_model.specs.Splits.{cells_per_cube, corner_offset, cube_at, is_odd_rank}
use Rattle.iso_model.specs.Tables.{Table}
use Rattle.iso_model.specs.Values.{Volume, cells}
use Rattle.cube_cells.specs.CubePoints.{point_number}
use Rattle.edge_middles.specs.HeldMiddles.{middle_from}
use Rattle.edge_middles.specs.MeshMiddles.{HasBipolarEntry, kept_numbers}
use Rattle.edge_middles.specs.WhatIsThere.{is_above_at, is_centre_above}
use Rattle.layer_scan.specs.CubeNumbers.{CountsCubeEdges, place_of}
use Rattle.layer_mesh.specs.declared.cells.CubeCell.{CubeCell}
use Rattle.layer_mesh.specs.declared.cells.CubeCells.{CubeCells}

-- the cell of this rank: which points of the cube its corners are, which places among the edges of the cube its edges have, and whether it is odd
pub record IsCubeCell (kind : Kind) (d rank : ℕ) (cell : CubeCell) : Type 0 where
  pub corners : cell.corners ≡ corner_count kind d
  pub edges : cell.edges ≡ edge_count kind d
  pub points : (k : ℕ) → k < corner_count kind d → slice_index cell.points k ≡ point_number d (corner_offset kind d rank k)
  pub places : (e : ℕ) → e < edge_count kind d → slice_index cell.places e ≡ place_of (middle_from kind d rank e)
  pub odd : cell.odd ≡ is_odd_rank kind d rank

-- the cells of a cube, by their ranks
pub record AreCubeCells (kind : Kind) (d : ℕ) (cells : CubeCells) : Type 0 where
  pub count : cells.count ≡ cells_per_cube kind d
  pub each : (rank : ℕ) → rank < cells_per_cube kind d → (none : CubeCell) → IsCubeCell kind d rank (slice_index_or cells.cells rank none)

-- the signs of the points of the cube at x: bit k is set where the sample at corner k is at least the isovalue, and in three dimensions bit 8 where
-- the centre is positive, in a split that has centres
pub record AreSignsAt (v : Volume) (x : List ℕ) (signs : ℕ) : Type 0 where
  pub corners : (k : ℕ) → k < 2 ^ length v.sizes
      → is_set signs k ≡ is_above_at v (point (length v.sizes) (λ i. slice_index x i + bit_at k i))
  pub centre : v.kind ≡ Pyramid → is_set signs 8 ≡ is_centre_above v x

-- the cube is a kept one of a grid of d axes, the table is one of its kind, and the entries of the labels of kept cells have bipolar edges alone; the
-- signs are those of the points of the cube, and the edges of its cells have the numbers of the midpoints before their own
pub record TellsCube (v : Volume) (cube d : ℕ) (t : Table) (signs : ℕ) (numbers : List ℕ) : Type 0 where
  pub fits : HasDimension v.kind (length v.sizes)
  pub axes : length v.sizes ≡ d
  pub kind : t.kind ≡ v.kind
  pub kept : Contains (kept_numbers v) cube
  pub entries : (cell : ℕ) → Contains (cells v) cell → HasBipolarEntry v t cell
  pub own_signs : AreSignsAt v (cube_at v.sizes cube) signs
  pub counted : CountsCubeEdges v cube numbers

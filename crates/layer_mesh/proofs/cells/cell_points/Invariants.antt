use Rattle.std.proofs.Common.{◌≡◌, ℕ, ◌<◌, length, slice_index}
use Rattle.std.specs.Prelude.{All}
use Rattle.iso_model.specs.Splits.{corner_offset}
use Rattle.cube_cells.specs.CubePoints.{point_number}
use Rattle.layer_mesh.proofs.cells.cell_points.Given as goal

abbrev pub invariant-loop-corner : goal.invariant-loop-corner
invariant-loop-corner g l =
    (length l.points ≡ 16) × All (λ k. k < 16) l.points
    × ((k : ℕ) → k < l.corner → slice_index l.points k ≡ point_number g.row.D (corner_offset g.C.Cell.KIND g.row.D l.rank k))

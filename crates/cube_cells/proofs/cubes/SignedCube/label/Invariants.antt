use Rattle.std.proofs.Common.{◌≡◌}
use Rattle.iso_model.specs.Splits.{corner_offset}
use Rattle.cube_cells.specs.CubePoints.{set_of, point_number}
use Rattle.lists.specs.Bits.{is_set}
use Rattle.cube_cells.proofs.cubes.SignedCube.label.Given as goal

abbrev pub invariant-loop-corner : goal.invariant-loop-corner
invariant-loop-corner g l = l.label ≡ set_of (λ k. is_set l.self.signs (point_number g.row.D (corner_offset g.C.Cell.KIND g.row.D l.rank k))) l.corner

use Rattle.std.proofs.Common.{◌≡◌, slice_index_or}
use Rattle.std.specs.Prelude.{◌==◌}
use Rattle.cube_cells.specs.CubePoints.{set_of}
use Rattle.cube_cells.proofs.points.point_number.Given as goal

abbrev pub invariant-loop-axis : goal.invariant-loop-axis
invariant-loop-axis g l = l.number ≡ set_of (λ i. slice_index_or l.offset i 0 == 2) l.axis

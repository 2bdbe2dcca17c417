use Rattle.std.proofs.Common.{◌≡◌, int_le}
use Rattle.cube_cells.specs.CubePoints.{set_of, corner_sample}
use Rattle.cube_cells.proofs.points.corner_signs.Given as goal

abbrev pub invariant-loop-corner : goal.invariant-loop-corner
invariant-loop-corner l = l.signs ≡ set_of (λ k. int_le l.iso (corner_sample l.samples l.steps l.first k)) l.corner

use Rattle.std.proofs.Common.{◌≡◌, slice_index}
use Rattle.lists.specs.Bits.{is_set}
use Rattle.cube_cells.specs.CubePoints.{set_of}
use Rattle.layer_mesh.proofs.cells.CubeCell.label.Given as goal

abbrev pub invariant-loop-corner : goal.invariant-loop-corner
invariant-loop-corner l = l.label ≡ set_of (λ k. is_set l.signs (slice_index l.self.points k)) l.corner

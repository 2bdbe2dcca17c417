use Rattle.std.proofs.Common.{◌≡◌, slice_index}
use Rattle.lists.specs.Bits.{is_set}
use Rattle.cube_cells.specs.CubePoints.{set_of}
use Rattle.layer_mesh.proofs.signs.SignWords.at.Given as goal

abbrev pub invariant-loop-point : goal.invariant-loop-point
invariant-loop-point l = l.signs ≡ set_of (λ k. is_set (slice_index l.self.words k) l.place) l.point

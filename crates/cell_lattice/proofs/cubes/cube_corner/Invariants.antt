use Rattle.std.proofs.Common.{◌≡◌, ℕ, ◌*◌, ◌<◌, length, pos, slice_index_or}
use Rattle.std.specs.Int.{bit_at}
use Rattle.cell_lattice.proofs.cubes.cube_corner.Given as goal

abbrev pub invariant-loop-axis : goal.invariant-loop-axis
invariant-loop-axis g l = (length l.point ≡ g.row.D) × ((i : ℕ) → i < l.axis → slice_index_or l.point i (pos 0) ≡ pos (2 * bit_at l.corner i))

use Rattle.std.proofs.Common.{◌≡◌, ℕ, ◌*◌, ◌<◌, length, slice_index_or}
use Rattle.std.specs.Int.{bit_at}
use Rattle.grid_split.proofs.cubes.cube_offset.Given as goal

abbrev pub invariant-loop-axis : goal.invariant-loop-axis
invariant-loop-axis g l =
    (length l.offset ≡ g.row.D) × ((i : ℕ) → i < l.axis → slice_index_or l.offset i 0 ≡ 2 * bit_at l.corner i)

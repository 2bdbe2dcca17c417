use Rattle.std.proofs.Common.{◌≡◌, ℕ, ◌+◌, ◌*◌, ◌<◌, length, slice_index_or}
use Rattle.grid_split.proofs.complex.placed.Given as goal

abbrev pub invariant-loop-axis : goal.invariant-loop-axis
invariant-loop-axis g l =
    (length l.point ≡ g.row.D) × ((i : ℕ) → i < l.axis → slice_index_or l.point i 0 ≡ 2 * slice_index_or l.cube i 0 + slice_index_or l.offset i 0)

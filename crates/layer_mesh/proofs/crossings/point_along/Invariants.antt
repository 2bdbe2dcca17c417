use Rattle.std.proofs.Common.{◌≡◌, ℕ, ◌+◌, ◌*◌, ◌/◌, ◌%◌, ◌==◌, ◌<◌, if◌then◌else◌, length, pos, slice_index, slice_index_or}
use Rattle.layer_mesh.proofs.crossings.point_along.Given as goal

abbrev pub invariant-loop-axis : goal.invariant-loop-axis
invariant-loop-axis g l =
    (length l.point ≡ length l.middle)
    × ((i : ℕ) → i < l.axis → slice_index_or l.point i (pos 0)
    ≡ pos (1000000 * (slice_index l.middle i / 4) + (if slice_index l.middle i % 4 == 2 then l.share else 0)))

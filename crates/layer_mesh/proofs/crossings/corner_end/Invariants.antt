use Rattle.std.proofs.Common.{◌≡◌, ℕ, ◌+◌, ◌*◌, ◌/◌, ◌<◌, length, slice_index}
use Rattle.layer_mesh.proofs.crossings.corner_end.Given as goal

abbrev pub invariant-loop-axis : goal.invariant-loop-axis
invariant-loop-axis g l =
    (length l.end ≡ length l.middle) × ((i : ℕ) → i < l.axis → slice_index l.end i ≡ 2 * ((slice_index l.middle i + 1) / 4))

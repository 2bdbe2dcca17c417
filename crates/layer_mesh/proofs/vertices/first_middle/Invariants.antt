use Rattle.std.proofs.Common.{◌≡◌, ℕ, ◌+◌, ◌<◌, ◌==◌, if◌then◌else◌, length, slice_index}
use Rattle.layer_mesh.proofs.vertices.first_middle.Given as goal

abbrev pub invariant-loop-axis : goal.invariant-loop-axis
invariant-loop-axis g l =
    (length l.middle ≡ g.row.D)
    × ((k : ℕ) → k < l.axis → slice_index l.middle k ≡ (if k + 1 == g.row.D then l.height else slice_index l.places k))

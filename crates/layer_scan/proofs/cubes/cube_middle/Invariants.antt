use Rattle.std.proofs.Common.{◌≡◌, ℕ, ◌+◌, ◌<◌, length, slice_index}
use Rattle.layer_scan.proofs.cubes.cube_middle.Given as goal

abbrev pub invariant-loop-axis : goal.invariant-loop-axis
invariant-loop-axis g l = (length l.middle ≡ g.row.D) × ((i : ℕ) → i < l.axis → slice_index l.middle i ≡ slice_index l.from i + slice_index l.to i)

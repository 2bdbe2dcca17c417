use Rattle.std.proofs.Common.{◌≡◌, ℕ, ◌<◌, length, pos, slice_index_or}
use Rattle.grid_split.specs.Shifts.{shift_along_axis}
use Rattle.grid_split.proofs.cubes.cube_across.Given as goal

abbrev pub invariant-loop-axis : goal.invariant-loop-axis
invariant-loop-axis g l =
    (length l.shift ≡ g.row.D) × ((i : ℕ) → i < l.axis → slice_index_or l.shift i (pos 0) ≡ shift_along_axis i l.facet)

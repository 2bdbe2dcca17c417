use Rattle.std.proofs.Common.{◌≡◌, ℕ, ◌<◌, length, pos, slice_index_or, nat_lt, if◌then◌else◌}
use Rattle.cell_lattice.proofs.simplices.simplex_corner.Given as goal

abbrev pub invariant-loop-axis : goal.invariant-loop-axis
invariant-loop-axis g l = (length l.point ≡ g.row.D) × ((i : ℕ) → i < l.axis → slice_index_or l.point i (pos 0) ≡ pos (if nat_lt i l.corner then 2 else 0))

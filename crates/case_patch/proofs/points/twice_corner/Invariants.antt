use Rattle.std.proofs.Common.{◌≡◌, ℕ, ◌<◌, length, pos, ◌+ℤ◌, slice_index_or}
use Rattle.case_patch.proofs.points.twice_corner.Given as goal

-- the coordinates so far
abbrev pub invariant-loop-axis : goal.invariant-loop-axis
invariant-loop-axis g l =
    (length l.twice ≡ g.row.D)
    × ((i : ℕ) → i < l.axis → slice_index_or l.twice i (pos 0) ≡ slice_index_or l.point i (pos 0) +ℤ slice_index_or l.point i (pos 0))

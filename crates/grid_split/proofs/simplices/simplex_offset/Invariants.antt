use Rattle.std.proofs.Common.{◌≡◌, ℕ, ◌<◌, length, slice_index_or, nat_lt, if◌then◌else◌}
use Rattle.grid_split.proofs.simplices.simplex_offset.Given as goal

abbrev pub invariant-loop-axis : goal.invariant-loop-axis
invariant-loop-axis g l =
    (length l.offset ≡ g.row.D) × ((i : ℕ) → i < l.axis → slice_index_or l.offset i 0 ≡ (if nat_lt (slice_index_or l.places i 0) l.corner then 2 else 0))

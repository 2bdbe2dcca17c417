use Rattle.std.proofs.Common.{◌≡◌, ℕ, ◌<◌, [], length, slice_index_or}
use Rattle.halfspace.proofs.choices.know_lengths.Given as goal

-- the lengths so far
abbrev pub invariant-loop-point : goal.invariant-loop-point
invariant-loop-point g l = (k : ℕ) → k < l.point-index → length (slice_index_or l.points k []) ≡ g.row.D

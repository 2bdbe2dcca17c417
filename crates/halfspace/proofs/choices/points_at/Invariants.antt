use Rattle.std.proofs.Common.{◌≡◌, ℕ, ◌<◌, [], length, slice_index_or}
use Rattle.halfspace.proofs.choices.points_at.Given as goal

-- the points so far
abbrev pub invariant-loop-i : goal.invariant-loop-i
invariant-loop-i g l = record {
  all : length l.chosen ≡ l.i-end;
  same : (k : ℕ) → k < l.i → slice_index_or l.chosen k [] ≡ slice_index_or l.points (slice_index_or l.choice k 0) [];
}

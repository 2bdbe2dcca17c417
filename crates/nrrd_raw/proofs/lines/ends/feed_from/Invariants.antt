use Rattle.std.proofs.Common.{◌≡◌, ℕ, ◌<◌, ◌≤◌, nat_eq, false, slice_index}
use Rattle.nrrd_raw.proofs.lines.ends.feed_from.Given as goal

abbrev pub invariant-loop-at : goal.invariant-loop-at
invariant-loop-at l = (k : ℕ) → l.from ≤ k → k < l.at → nat_eq 10 (slice_index l.bytes k) ≡ false

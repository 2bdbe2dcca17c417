use Rattle.std.proofs.Common.{◌≡◌, ℕ, ◌<◌, nat_eq, false, slice_index}
use Rattle.nrrd_raw.proofs.lines.content.colon_in.Given as goal

abbrev pub invariant-loop-at : goal.invariant-loop-at
invariant-loop-at l = (k : ℕ) → k < l.at → nat_eq 58 (slice_index l.text k) ≡ false

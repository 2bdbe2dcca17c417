use Rattle.std.proofs.Common.{◌≡◌, ℕ, ◌<◌, length, slice_index}
use Rattle.case_patch.proofs.patches.named.Given as goal

-- the edges so far
abbrev pub invariant-loop-place : goal.invariant-loop-place
invariant-loop-place g l = record {
  all : length l.tuple ≡ l.place-end;
  inside : (k : ℕ) → k < l.place → slice_index l.simplex k < length l.edges;
  same : (k : ℕ) → k < l.place → slice_index l.tuple k ≡ slice_index l.edges (slice_index l.simplex k);
}

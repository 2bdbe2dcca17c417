use Rattle.std.proofs.Common.{◌≡◌, ℕ, ◌+◌, ◌<◌, pos, ◌+ℤ◌, slice_index_or}
use Rattle.grid_split.specs.Steps.{stepped}
use Rattle.grid_split.proofs.PlaceSums.{number_before}
use Rattle.grid_split.proofs.complex.Complex.shifted_number.Given as goal

abbrev pub invariant-loop-axis : goal.invariant-loop-axis
invariant-loop-axis g l = record {
  number : l.number ≡ number_before l.self (λ i. stepped (slice_index_or l.cube i 0) (slice_index_or l.shift i (pos 0))) l.axis;
  inside : (i : ℕ) → i < l.axis → stepped (slice_index_or l.cube i 0) (slice_index_or l.shift i (pos 0)) + 1 < slice_index_or l.self i 0;
  places : (i : ℕ) → i < l.axis
      → pos (stepped (slice_index_or l.cube i 0) (slice_index_or l.shift i (pos 0)))
      ≡ pos (slice_index_or l.cube i 0) +ℤ slice_index_or l.shift i (pos 0);
}

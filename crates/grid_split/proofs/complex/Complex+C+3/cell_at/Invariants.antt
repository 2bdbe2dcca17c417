use Rattle.std.proofs.Common.{◌≡◌, ℕ, ◌+◌, ◌-◌, ◌<◌, ◌≤◌, slice_index_or}
use Rattle.grid_split.proofs.PlaceSums.{number_before}
use Rattle.grid_split.proofs.complex.Complex+C+3.cell_at.Given as goal

abbrev pub invariant-loop-axis : goal.invariant-loop-axis
invariant-loop-axis g l = record {
  number : l.number ≡ number_before l.self (λ i. slice_index_or l.cube i 0 - slice_index_or l.place.back i 0) l.axis;
  inside : (i : ℕ) → i < l.axis → slice_index_or l.cube i 0 - slice_index_or l.place.back i 0 + 1 < slice_index_or l.self i 0;
  places : (i : ℕ) → i < l.axis → slice_index_or l.place.back i 0 ≤ slice_index_or l.cube i 0;
}

use Rattle.std.proofs.Common.{◌≡◌, ℕ, ◌/◌, ◌+◌, ◌<◌, length, slice_index_or}
use Rattle.std.specs.Prelude.{◌%◌}
use Rattle.grid_split.proofs.rings.middle.Given as goal

abbrev pub invariant-loop-axis : goal.invariant-loop-axis
invariant-loop-axis l = record {
  cubes : length l.cube ≡ 3;
  ways : length l.way ≡ 3;
  cube_at : (i : ℕ) → i < l.axis → slice_index_or l.cube i 0 ≡ (slice_index_or l.edge.low i 0 + slice_index_or l.edge.high i 0) / 4;
  way_at : (i : ℕ) → i < l.axis → slice_index_or l.way i 0 ≡ (slice_index_or l.edge.low i 0 + slice_index_or l.edge.high i 0) % 4;
}

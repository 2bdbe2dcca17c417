use Rattle.std.proofs.Common.{◌≡◌, ℕ, ◌-◌, ◌<◌, length, slice_index_or}
use Rattle.std.specs.Prelude.{take}
use Rattle.iso_model.specs.Splits.{cube_count}
use Rattle.grid_split.proofs.complex.Complex.new.Given as goal

abbrev pub invariant-loop-axis : goal.invariant-loop-axis
invariant-loop-axis g l = record {
  spans_long : length l.spans ≡ g.row.D;
  strides_long : length l.strides ≡ g.row.D;
  spans : (i : ℕ) → i < l.axis → slice_index_or l.spans i 0 ≡ slice_index_or l.sizes i 0 - 1;
  strides : (i : ℕ) → i < l.axis → slice_index_or l.strides i 0 ≡ cube_count (take i l.sizes);
  cubes : l.cubes ≡ cube_count (take l.axis l.sizes);
}

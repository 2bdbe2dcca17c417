use Rattle.std.proofs.Common.{◌≡◌, ℕ, ◌<◌, length, slice_index_or}
use Rattle.std.specs.Prelude.{drop}
use Rattle.iso_model.specs.Splits.{cube_count, cube_at}
use Rattle.cube_cells.specs.CubePoints.{sizes_of}
use Rattle.cube_cells.proofs.points.place_at.Given as goal

abbrev pub invariant-loop-axis : goal.invariant-loop-axis
invariant-loop-axis g l = record {
  long : length l.place ≡ g.row.D;
  left : l.rest < cube_count (drop l.axis (sizes_of l.spans));
  others : cube_at (drop l.axis (sizes_of l.spans)) l.rest ≡ drop l.axis (cube_at (sizes_of l.spans) l.number);
  places : (i : ℕ) → i < l.axis → slice_index_or l.place i 0 ≡ slice_index_or (cube_at (sizes_of l.spans) l.number) i 0;
}

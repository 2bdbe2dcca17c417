use Rattle.std.proofs.Common.{◌≡◌, ℕ, ◌/◌, ◌<◌, length, slice_index_or}
use Rattle.std.specs.Prelude.{drop}
use Rattle.iso_model.specs.Splits.{cells_per_cube, cube_count, cube_at}
use Rattle.grid_split.proofs.complex.Complex.cube_of.Given as goal

abbrev pub invariant-loop-axis : goal.invariant-loop-axis
invariant-loop-axis g l = record {
  long : length l.cube ≡ g.row.D;
  left : l.rest < cube_count (drop l.axis l.self);
  others : cube_at (drop l.axis l.self) l.rest ≡ drop l.axis (cube_at l.self (l.cell / cells_per_cube g.C.Cell.KIND g.row.D));
  places : (i : ℕ) → i < l.axis → slice_index_or l.cube i 0 ≡ slice_index_or (cube_at l.self (l.cell / cells_per_cube g.C.Cell.KIND g.row.D)) i 0;
}

use Rattle.std.specs.Prelude.{◌||◌}
use Rattle.bit_rows.specs.Rows.{row_bit}
use Rattle.grid_rows.specs.Planes.{bit_row}
use Rattle.grid_rows.specs.RowNumbers.{bordered_rows}
use Rattle.layer_scan.proofs.PlaneRowSteps.{IsFilled}
use Rattle.layer_scan.proofs.kept.write_either.Given as goal

abbrev pub invariant-loop-number : goal.invariant-loop-number
invariant-loop-number l =
    IsFilled (bordered_rows l.rows) l.rows.words (λ n x. row_bit (bit_row l.below n) x || row_bit (bit_row l.above n) x) l.number l.around

use Rattle.std.specs.Prelude.{ℕ, ◌<◌, ◌&&◌, slice_index}
use Rattle.bit_rows.specs.Rows.{IsWordOf, row_bit}
use Rattle.layer_scan.specs.Centres.{is_above_in}
use Rattle.layer_scan.proofs.centres.write_centre_row.Given as goal

abbrev pub invariant-loop-w : goal.invariant-loop-w
invariant-loop-w l = (j : ℕ) → j < l.w → IsWordOf (λ x. row_bit l.kept x && is_above_in l.row x) j (slice_index l.centres j)

use Rattle.std.specs.Prelude.{ℕ, ◌<◌, ◌||◌, slice_index}
use Rattle.bit_rows.specs.Rows.{IsWordOf, row_bit}
use Rattle.layer_scan.proofs.kept.write_either_row.Given as goal

abbrev pub invariant-loop-w : goal.invariant-loop-w
invariant-loop-w l = (j : ℕ) → j < l.w → IsWordOf (λ x. row_bit l.below x || row_bit l.above x) j (slice_index l.around j)

use Rattle.std.specs.Prelude.{ℕ, ◌<◌, slice_index}
use Rattle.bit_rows.specs.Rows.{IsWordOf}
use Rattle.layer_scan.specs.FlaggedCubes.{is_flagged}
use Rattle.layer_scan.proofs.flags.write_flag_row.Given as goal

abbrev pub invariant-loop-w : goal.invariant-loop-w
invariant-loop-w l = (j : ℕ) → j < l.w → IsWordOf (is_flagged l.flags) j (slice_index l.row j)

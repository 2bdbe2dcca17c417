use Rattle.std.specs.Prelude.{ℕ, ◌<◌, slice_index}
use Rattle.bit_rows.specs.Rows.{IsWordOf}
use Rattle.bit_rows.specs.SampleRows.{is_above}
use Rattle.bit_rows.proofs.samples.set_signs.Given as goal

abbrev pub invariant-loop-w : goal.invariant-loop-w
invariant-loop-w l = (j : ℕ) → j < l.w → IsWordOf (is_above l.iso l.samples) j (slice_index l.row j)

use Rattle.std.specs.Prelude.{Some, ◌*◌}
use Rattle.bit_rows.specs.SampleRows.{is_clear}
use Rattle.bit_rows.proofs.WordSets.{IsWordBelow}
use Rattle.bit_rows.proofs.samples.other_word.Given as goal

abbrev pub invariant-loop-place : goal.invariant-loop-place
invariant-loop-place l = IsWordBelow (is_clear (Some l.value)) l.samples (64 * l.w) l.place l.word

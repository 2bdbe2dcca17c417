use Rattle.std.specs.Prelude.{int_le, ◌*◌}
use Rattle.bit_rows.proofs.WordSets.{IsWordBelow}
use Rattle.bit_rows.proofs.samples.sign_word.Given as goal

abbrev pub invariant-loop-place : goal.invariant-loop-place
invariant-loop-place l = IsWordBelow (int_le l.iso) l.samples (64 * l.w) l.place l.word

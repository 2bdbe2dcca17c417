use Rattle.std.specs.Prelude.{◌+◌}
use Rattle.layer_scan.specs.FlaggedCubes.{is_flagged}
use Rattle.bit_rows.proofs.SetBelow.{AreSetBelow}
use Rattle.layer_scan.proofs.flags.flag_word.Given as goal

abbrev pub invariant-loop-place : goal.invariant-loop-place
invariant-loop-place l = AreSetBelow (λ k. is_flagged l.flags (l.first + k)) l.place l.word

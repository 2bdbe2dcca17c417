use Rattle.std.specs.Prelude.{◌&&◌, ◌+◌, ◌*◌}
use Rattle.lists.specs.Bits.{is_set}
use Rattle.layer_scan.specs.Centres.{is_above_in}
use Rattle.bit_rows.proofs.SetBelow.{AreSetBelow}
use Rattle.layer_scan.proofs.centres.CentreRow.word.Given as goal

abbrev pub invariant-loop-place : goal.invariant-loop-place
invariant-loop-place l = AreSetBelow (λ k. is_set l.kept k && is_above_in l.self (64 * l.w + k)) l.place l.word

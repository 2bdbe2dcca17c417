use Rattle.layer_scan.specs.FlaggedCubes.{flag_at}
use Rattle.layer_scan.proofs.PlaneRowSteps.{IsWritten}
use Rattle.layer_scan.proofs.flags.write_flags.Given as goal

abbrev pub invariant-loop-number : goal.invariant-loop-number
invariant-loop-number l = IsWritten l.rows (flag_at l.rows l.flags) l.number l.fn.kept l.kept

use Rattle.layer_scan.specs.CubePlanes.{every_at}
use Rattle.layer_scan.proofs.PlaneRowSteps.{IsWritten}
use Rattle.layer_scan.proofs.kept.write_kept.Given as goal

abbrev pub invariant-loop-number : goal.invariant-loop-number
invariant-loop-number l = IsWritten l.rows (every_at l.lower l.upper l.rows) l.number l.fn.kept l.kept

use Rattle.layer_scan.specs.Centres.{centre_at}
use Rattle.layer_scan.proofs.PlaneRowSteps.{IsWritten}
use Rattle.layer_scan.proofs.centres.write_centres.Given as goal

abbrev pub invariant-loop-number : goal.invariant-loop-number
invariant-loop-number l = IsWritten l.rows (centre_at l.rows l.kept l.iso l.lower l.upper) l.number l.fn.centres l.centres

use Rattle.layer_scan.proofs.GridKept.{kept_upright}
use Rattle.layer_scan.proofs.GridSlices.{signs_of_slice}
use Rattle.layer_scan.proofs.KeptAtSlices.{kept_at_last, kept_at_slice}
use Rattle.layer_scan.proofs.OneSign.{plain_unless_mixed}
use Rattle.layer_scan.proofs.law.scan_law.Goals as goal

pub returns : goal.returns
returns c = record { signs = signs_of_slice; upright = kept_upright; slices = kept_at_slice; last = kept_at_last; plain = plain_unless_mixed }

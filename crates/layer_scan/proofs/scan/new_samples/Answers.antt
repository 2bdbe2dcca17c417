use Rattle.std.proofs.Common.{arith}
use Rattle.layer_scan.proofs.ScanRoom.{sample_words}
use Rattle.layer_scan.proofs.scan.new_samples.Goals as goal

pub new-requires : goal.new-requires
new-requires c = grind (arith, sample_words c.args.rows.now c.requires)

use Rattle.std.proofs.Common.{arith}
use Rattle.layer_scan.proofs.ScanRoom.{border_words}
use Rattle.layer_scan.proofs.scan.new_cubes.Goals as goal

pub new-requires : goal.new-requires
new-requires c = grind (arith, border_words c.args.rows.now c.requires)

use Rattle.std.proofs.Common.{arith}
use Rattle.layer_scan.proofs.ScanRoom.{cube_words}
use Rattle.layer_scan.proofs.edges.new_edges_to_centres.Goals as goal

pub new-requires : goal.new-requires
new-requires c = grind (arith, cube_words c.args.rows.now c.requires)

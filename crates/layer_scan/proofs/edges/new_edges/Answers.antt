use Rattle.std.proofs.Common.{arith}
use Rattle.layer_scan.proofs.ScanRoom.{edge_words}
use Rattle.layer_scan.proofs.edges.new_edges.Goals as goal

pub new-requires : goal.new-requires
new-requires c = grind (arith, edge_words c.args.rows.now c.requires)

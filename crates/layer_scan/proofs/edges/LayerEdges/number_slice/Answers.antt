use Rattle.std.proofs.Common.{false}
use Rattle.layer_scan.specs.declared.scan.LayerPlanes.{LayerPlanes}
use Rattle.layer_scan.proofs.EdgeWordSteps.{below_most}
use Rattle.layer_scan.proofs.NumberRoom.{edge_room, edges_counted}
use Rattle.layer_scan.proofs.edges.LayerEdges.number_slice.Goals as goal

pub number_plane-self-requires-clause-few : goal.number_plane-self-requires-clause-few
number_plane-self-requires-clause-few c =
    let planes : LayerPlanes = c.args.planes.now in
    below_most _ _ _
    (edges_counted planes.rows c.args.self.now.kind false planes.lower_signs planes.lower_signs c.args.kept.now c.args.self.now.count c.requires.within)
    (edge_room planes.rows c.args.self.now.count c.requires.planes.samples c.requires.few)

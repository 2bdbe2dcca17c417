use Rattle.std.proofs.Common.{◌≡◌, ◌<◌, arith}
use Rattle.iso_model.specs.Cells.{edge_ends}
use Rattle.iso_model.proofs.DimensionLaws.{is_small_cell}
use Rattle.mesh_placing.proofs.FilledLists.{set_next}
use Rattle.mesh_placing.proofs.tests.all_ends.Goals as goal

pub loop-edge-preserved : goal.loop-edge-preserved
loop-edge-preserved g c =
    let small = is_small_cell g.C.Cell.KIND g.row.D g.met.C.Cell.has_dimension in
    let inside : c.loop-edge.edge < 32 = omega (arith, c.loop-edge-test.true, c.EDGES-edge-end.ensures, g.met.C.Cell.edges, small.edges) in
    set_next (λ e x. x ≡ edge_ends g.C.Cell.KIND g.row.D e) (0, 0) c.loop-edge.ends c.loop-edge.edge 32 c.edge_ends.result c.loop-edge.invariant.0
    inside c.loop-edge.invariant.1 c.edge_ends.ensures.ends

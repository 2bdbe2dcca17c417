use Rattle.std.proofs.Common.{arith, refl, ◌≡◌, ◌<◌, ◌+◌, ℕ, length}
use Rattle.std.proofs.lemmas.List.Elements.{All-replicate, All-set}
use Rattle.iso_model.proofs.DimensionLaws.{is_small_cell}
use Rattle.edge_middles.specs.HeldMiddles.{middle_from}
use Rattle.layer_scan.specs.CubeNumbers.{place_of}
use Rattle.mesh_placing.proofs.FilledLists.{set_next}
use Rattle.layer_mesh.proofs.cells.cell_places.Goals as goal

pub loop-edge-init : goal.loop-edge-init
loop-edge-init g c = (refl, All-replicate (λ k. k < 81) 32 0 (omega arith), λ e less. absurd (omega (arith, less)))

pub bounds-places-edge : goal.bounds-places-edge
bounds-places-edge g c =
    let small = is_small_cell g.C.Cell.KIND g.row.D g.met.C.Cell.has_dimension in
    omega (arith, c.loop-edge-test.true, c.EDGES-edge-end.ensures, g.met.C.Cell.edges, small.edges)

pub loop-edge-preserved : goal.loop-edge-preserved
loop-edge-preserved g c =
    let small = is_small_cell g.C.Cell.KIND g.row.D g.met.C.Cell.has_dimension in
    let inside : c.loop-edge.edge < 32 =
    omega (arith, c.loop-edge-test.true, c.EDGES-edge-end.ensures, g.met.C.Cell.edges, small.edges) in
    let next =
    set_next (λ e x. x ≡ place_of (middle_from g.C.Cell.KIND g.row.D c.args.rank e)) 0 c.loop-edge.places c.loop-edge.edge 32
    c.edge_place.result c.loop-edge.invariant.0 inside c.loop-edge.invariant.2 c.edge_place.ensures.place in
    (next.0, All-set (λ k. k < 81) c.loop-edge.places c.loop-edge.edge c.edge_place.result c.edge_place.ensures.within c.loop-edge.invariant.1, next.1)

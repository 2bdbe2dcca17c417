use Rattle.std.proofs.Common.{ap, arith, ◌∙◌, ◌≡◌, ◌<◌, ◌+◌, ℕ, length}
use Rattle.std.proofs.lemmas.List.Elements.{All-set}
use Rattle.iso_model.specs.Splits.{corner_offset}
use Rattle.iso_model.proofs.DimensionLaws.{is_small_cell}
use Rattle.cube_cells.specs.CubePoints.{point_number}
use Rattle.mesh_placing.proofs.FilledLists.{set_next}
use Rattle.layer_mesh.proofs.cells.cell_points.Goals as goal

pub bounds-points-corner : goal.bounds-points-corner
bounds-points-corner g c =
    let small = is_small_cell g.C.Cell.KIND g.row.D g.met.C.Cell.has_dimension in
    omega (arith, c.loop-corner-test.true, c.CORNERS-corner-end.ensures, g.met.C.Cell.corners, small.corners)

pub loop-corner-preserved : goal.loop-corner-preserved
loop-corner-preserved g c =
    let small = is_small_cell g.C.Cell.KIND g.row.D g.met.C.Cell.has_dimension in
    let inside : c.loop-corner.corner < 16 =
    omega (arith, c.loop-corner-test.true, c.CORNERS-corner-end.ensures, g.met.C.Cell.corners, small.corners) in
    let next =
    set_next (λ k x. x ≡ point_number g.row.D (corner_offset g.C.Cell.KIND g.row.D c.args.rank k)) 0 c.loop-corner.points c.loop-corner.corner 16
    c.point_number.result c.loop-corner.invariant.0 inside c.loop-corner.invariant.2
    (c.point_number.ensures.number ∙ ap (point_number g.row.D) c.offset.ensures.offset) in
    (next.0, All-set (λ k. k < 16) c.loop-corner.points c.loop-corner.corner c.point_number.result c.point_number.ensures.few c.loop-corner.invariant.1, next.1)

use Rattle.std.proofs.Common.{◌≡◌, ◌<◌, ◌∙◌, sym, arith}
use Rattle.iso_model.proofs.DimensionLaws.{is_small_cell}
use Rattle.halfspace.proofs.TightNumbers.{number_with, number_without}
use Rattle.case_patch.specs.BoundarySets.{is_in_facet}
use Rattle.case_patch.proofs.FacetMembers.{member_as}
use Rattle.case_patch.proofs.boundary.facet_points.Goals as goal
use Rattle.case_patch.proofs.boundary.facet_points.Goals.{then-is_point_of, else-is_point_of}

pub is_point_of-requires-clause-edges : goal.is_point_of-requires-clause-edges
is_point_of-requires-clause-edges g c =
    λ k d h. let small =
    is_small_cell g.C.Cell.KIND g.row.D g.met.C.Cell.has_dimension in let below = c.requires.edges k d h in omega
    (arith, small.edges, below, g.met.C.Cell.edges)

pub is_point_of-requires-clause-corners : goal.is_point_of-requires-clause-corners
is_point_of-requires-clause-corners g c =
    λ k d h. let small =
    is_small_cell g.C.Cell.KIND g.row.D g.met.C.Cell.has_dimension in let below = c.requires.corners k d h in omega
    (arith, small.corners, below, g.met.C.Cell.corners)

pub loop-point-preserved : goal.loop-point-preserved
loop-point-preserved g c =
    let few : c.loop-point.point < 64 = omega (arith, c.loop-point-test.true, c.requires.few) in
    let here : c.is_point_of.result ≡ is_in_facet g.C.Cell.KIND g.row.D c.args.edges.now c.args.corners.now c.args.facet c.loop-point.point =
    c.is_point_of.ensures
    ∙ member_as g.C.Cell.KIND g.row.D c.args.facet c.facet_edges-facet_edges.result c.facet_mask-facet_corners.result g.C.Cell.EDGES
    g.C.Cell.CORNERS c.args.edges.now c.args.corners.now c.loop-point.point
    c.facet_edges-facet_edges.ensures.members c.facet_mask-facet_corners.ensures.members c.requires.edges c.requires.corners c.loop-point-test.true in
    elim c.if-is_point_of.branch [
      | then-is_point_of w ↦
          w.set-is
          ∙ number_with (is_in_facet g.C.Cell.KIND g.row.D c.args.edges.now c.args.corners.now c.args.facet) c.loop-point.point c.loop-point.set
          few c.loop-point.invariant (sym here ∙ w.if-is_point_of.true)
      | else-is_point_of w ↦
          w.set-is
          ∙ number_without (is_in_facet g.C.Cell.KIND g.row.D c.args.edges.now c.args.corners.now c.args.facet) c.loop-point.point
          c.loop-point.set c.loop-point.invariant (sym here ∙ w.if-is_point_of.false)
    ]

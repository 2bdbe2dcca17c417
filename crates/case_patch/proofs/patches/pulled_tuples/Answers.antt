use Rattle.std.proofs.Common.{◌≡◌, ◌↔◌, ◌<◌, ◌∙◌, [], ap, sym, subst, List, ℕ, map, length, All, Contains, arith}
use Rattle.iso_model.specs.Cells.{corner_count, edge_count}
use Rattle.iso_model.specs.Entries.{label_edges, label_corners, IsPulledTuple}
use Rattle.pulling_tri.specs.PointSets.{point_set}
use Rattle.case_patch.specs.Tuples.{Adds, IsTupleOfSome}
use Rattle.case_patch.proofs.LabelPoints.{edges_below, corners_below, few_points}
use Rattle.case_patch.proofs.OffSets.{boundary_is}
use Rattle.case_patch.proofs.FoundTuples.{found_tuples}
use Rattle.std.proofs.lemmas.Result.{IfOk-weaker}
use Rattle.case_patch.proofs.patches.pulled_tuples.Goals as goal

pub boundary_sets-requires-clause-edges : goal.boundary_sets-requires-clause-edges
boundary_sets-requires-clause-edges g c =
    let edges : c.deref.result.now ≡ label_edges g.C.Cell.KIND g.row.D c.args.label = c.deref.ensures.value ∙ c.in_ok-edges.ensures in
    subst (λ (n : ℕ). All (λ e. e < n) c.deref.result.now) (sym g.met.C.Cell.edges)
    (subst (All (λ e. e < edge_count g.C.Cell.KIND g.row.D)) (sym edges) (edges_below g.C.Cell.KIND g.row.D c.args.label))

pub boundary_sets-requires-clause-corners : goal.boundary_sets-requires-clause-corners
boundary_sets-requires-clause-corners g c =
    let corners : c.deref-2.result.now ≡ label_corners g.C.Cell.KIND g.row.D c.args.label = c.deref-2.ensures.value ∙ c.in_ok-corners.ensures in
    subst (λ (n : ℕ). All (λ k. k < n) c.deref-2.result.now) (sym g.met.C.Cell.corners)
    (subst (All (λ k. k < corner_count g.C.Cell.KIND g.row.D)) (sym corners) (corners_below g.C.Cell.KIND g.row.D c.args.label))

pub boundary_sets-requires-clause-few : goal.boundary_sets-requires-clause-few
boundary_sets-requires-clause-few g c =
    let edges : c.deref.result.now ≡ label_edges g.C.Cell.KIND g.row.D c.args.label = c.deref.ensures.value ∙ c.in_ok-edges.ensures in
    let corners : c.deref-2.result.now ≡ label_corners g.C.Cell.KIND g.row.D c.args.label = c.deref-2.ensures.value ∙ c.in_ok-corners.ensures in
    omega (arith, ap length edges, ap length corners, few_points g.C.Cell.KIND g.row.D c.args.label g.met.C.Cell.has_dimension)

pub returns : goal.returns
returns g c =
    let edges : c.deref.result.now ≡ label_edges g.C.Cell.KIND g.row.D c.args.label = c.deref.ensures.value ∙ c.in_ok-edges.ensures in
    let corners : c.deref-2.result.now ≡ label_corners g.C.Cell.KIND g.row.D c.args.label = c.deref-2.ensures.value ∙ c.in_ok-corners.ensures in
    let boundary =
    c.deref-3.ensures.value
    ∙ boundary_is g.C.Cell.KIND g.row.D c.args.label g.C.Cell.FACETS c.deref.result.now c.deref-2.result.now c.in_ok-boundary.boundary.items
    edges corners g.met.C.Cell.facets c.in_ok-boundary.ensures in
    let named : c.deref-4.result.now ≡ label_edges g.C.Cell.KIND g.row.D c.args.label = c.deref-4.ensures.value ∙ c.in_ok-edges.ensures in
    IfOk-weaker c.off_tuples.result
    (λ tuples.
    Adds (IsTupleOfSome c.args.facets.now (Contains (map point_set c.args.facets.now)) c.deref-3.result.now g.row.D c.deref-4.result.now) []
    tuples.items)
    (λ tuples. (tuple : List ℕ) → Contains tuples.items tuple ↔ IsPulledTuple g.C.Cell.KIND g.row.D c.args.label tuple)
    (λ tuples adds.
    found_tuples g.C.Cell.KIND g.row.D c.args.label c.args.facets.now c.deref-3.result.now c.deref-4.result.now tuples.items
    g.met.C.Cell.has_dimension c.requires.facets boundary named adds)
    c.off_tuples.ensures

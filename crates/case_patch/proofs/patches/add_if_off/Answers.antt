use Rattle.std.proofs.Common.{◌≡◌, true, map, sym, ◌∙◌, Contains}
use Rattle.pulling_tri.specs.PointSets.{point_set}
use Rattle.case_patch.specs.BoundarySets.{is_off}
use Rattle.case_patch.specs.Tuples.{Adds, IsTupleOf, IsOffTuple}
use Rattle.case_patch.proofs.AddedTuples.{adds_same}
use Rattle.lists.proofs.Results.{OnOk-weaker}
use Rattle.case_patch.proofs.patches.add_if_off.Goals as goal

pub returns-then-lies_off : goal.returns-then-lies_off
returns-then-lies_off g c =
    let off : is_off c.args.facet c.args.boundary.now ≡ true = sym c.lies_off.ensures ∙ c.if-lies_off.true in
    OnOk-weaker c.add_facet.result
    (Adds (IsTupleOf (Contains (map point_set c.args.facets.now)) g.row.D c.args.edges.now (point_set c.args.facet)) c.args.tuples.now.items
    c.add_facet.new.tuples.items)
    (Adds (IsOffTuple (Contains (map point_set c.args.facets.now)) c.args.boundary.now g.row.D c.args.edges.now c.args.facet) c.args.tuples.now.items
    c.add_facet.new.tuples.items)
    (adds_same (IsTupleOf (Contains (map point_set c.args.facets.now)) g.row.D c.args.edges.now (point_set c.args.facet))
    (IsOffTuple (Contains (map point_set c.args.facets.now)) c.args.boundary.now g.row.D c.args.edges.now c.args.facet) c.args.tuples.now.items
    c.add_facet.new.tuples.items (λ t. (λ p. (off, p), λ q. q.1)))
    c.add_facet.ensures

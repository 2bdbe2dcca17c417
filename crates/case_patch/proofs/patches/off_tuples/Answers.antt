use Rattle.std.proofs.Common.{[], sym, subst, List, ℕ, map, take, get_or, Contains, arith}
use Rattle.std.proofs.lemmas.List.{take_all, take_more}
use Rattle.pulling_tri.specs.PointSets.{point_set}
use Rattle.case_patch.specs.Tuples.{Adds, IsOffTuple}
use Rattle.case_patch.proofs.AddedTuples.{OfSome, of_more}
use Rattle.case_patch.proofs.patches.off_tuples.Goals as goal

pub loop-facet-preserved : goal.loop-facet-preserved
loop-facet-preserved g c =
    subst
    (λ (xs : List ℕ).
    Adds (OfSome (IsOffTuple (Contains (map point_set c.args.facets.now)) c.args.boundary.now g.row.D c.args.edges.now) xs) []
    c.add_if_off.new.tuples.items)
    (sym (take_more c.args.facets.now c.loop-facet.facet-index 0 c.loop-facet-test.true))
    (of_more (IsOffTuple (Contains (map point_set c.args.facets.now)) c.args.boundary.now g.row.D c.args.edges.now)
    (take c.loop-facet.facet-index c.args.facets.now) (get_or c.args.facets.now c.loop-facet.facet-index 0)
    [] c.loop-facet.tuples.items c.add_if_off.new.tuples.items c.loop-facet.invariant c.in_ok-add_if_off.ensures)

pub returns : goal.returns
returns g c =
    subst
    (λ (xs : List ℕ).
    Adds (OfSome (IsOffTuple (Contains (map point_set c.args.facets.now)) c.args.boundary.now g.row.D c.args.edges.now) xs) []
    c.loop-facet.tuples.items)
    (take_all c.loop-facet.facet-index c.args.facets.now (omega arith)) c.loop-facet.invariant

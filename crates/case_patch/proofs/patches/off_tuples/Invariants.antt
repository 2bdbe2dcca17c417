use Rattle.std.proofs.Common.{[], map, take, Contains}
use Rattle.pulling_tri.specs.PointSets.{point_set}
use Rattle.case_patch.specs.Tuples.{Adds, IsOffTuple}
use Rattle.case_patch.proofs.AddedTuples.{OfSome}
use Rattle.case_patch.proofs.patches.off_tuples.Given as goal

-- the tuples of the facets so far are added
abbrev pub invariant-loop-facet : goal.invariant-loop-facet
invariant-loop-facet g l =
    Adds (OfSome (IsOffTuple (Contains (map point_set l.facets)) l.boundary g.row.D l.edges) (take l.facet-index l.facets)) [] l.tuples.items

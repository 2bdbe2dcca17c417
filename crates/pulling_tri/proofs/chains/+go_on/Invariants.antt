use Rattle.std.proofs.Common.{◌+◌, ◌-◌, map, take, Contains}
use Rattle.pulling_tri.specs.PointSets.{point_set}
use Rattle.pulling_tri.specs.Pulling.{AddsBelow}
use Rattle.pulling_tri.proofs.chains.+go_on.Given as goal

-- the places that are still to be filled
abbrev pub decreases-go_on : goal.decreases-go_on
decreases-go_on g l = g.row.D - l.filled

-- the simplices of the chains through the faces so far are added
abbrev pub invariant-loop-face : goal.invariant-loop-face
invariant-loop-face g l =
    AddsBelow (Contains (map point_set l.facets)) g.row.D (take (l.filled + 1) l.longer) (map point_set (take l.face-index l.face-items))
    l.initial.simplices.items l.simplices.items

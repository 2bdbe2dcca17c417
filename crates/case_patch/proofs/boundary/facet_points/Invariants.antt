use Rattle.std.proofs.Common.{◌≡◌, filter}
use Rattle.lists.specs.Orders.{numbers}
use Rattle.case_patch.specs.BoundarySets.{is_in_facet}
use Rattle.lists.specs.Bits.{set_number}
use Rattle.case_patch.proofs.boundary.facet_points.Given as goal

-- the number of the points so far that lie in the facet
abbrev pub invariant-loop-point : goal.invariant-loop-point
invariant-loop-point g l = l.set ≡ set_number (filter (is_in_facet g.C.Cell.KIND g.row.D l.edges l.corners l.facet) (numbers l.point))

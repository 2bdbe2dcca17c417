use Rattle.std.proofs.Common.{◌≡◌, map}
use Rattle.case_patch.specs.MovedPoints.{carried_among}
use Rattle.lists.specs.Orders.{numbers}
use Rattle.case_patch.proofs.moved.numbers_among.Given as goal

-- the numbers of the points so far
abbrev pub invariant-loop-point : goal.invariant-loop-point
invariant-loop-point g l =
    l.list.items ≡ map (carried_among g.row.D (record { axes = l.by.axes; flips = l.by.flips }) l.edges l.corners l.to_edges l.to_corners) (numbers l.point)

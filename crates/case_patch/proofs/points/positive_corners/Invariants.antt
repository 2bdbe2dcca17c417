use Rattle.std.proofs.Common.{◌≡◌, filter}
use Rattle.lists.specs.Orders.{numbers}
use Rattle.lists.specs.Bits.{is_set}
use Rattle.case_patch.proofs.points.positive_corners.Given as goal

-- the positive corners so far
abbrev pub invariant-loop-corner : goal.invariant-loop-corner
invariant-loop-corner g l = l.corners.items ≡ filter (is_set l.label) (numbers l.corner)

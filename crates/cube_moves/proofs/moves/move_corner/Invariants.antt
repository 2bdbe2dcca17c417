use Rattle.std.proofs.Common.{◌≡◌}
use Rattle.cube_moves.proofs.MovedBits.{digits, moved_digit}
use Rattle.cube_moves.proofs.moves.move_corner.Given as goal

-- the bits that are written so far
abbrev pub invariant-loop-axis : goal.invariant-loop-axis
invariant-loop-axis g l = l.moved ≡ digits (moved_digit (record { axes = l.by.axes; flips = l.by.flips }) l.corner) l.axis

use Rattle.std.proofs.Common.{ℕ, ◌<◌, ◌≤ℤ◌, [], pos, slice_index_or}
use Rattle.iso_model.specs.Turns.{slack}
use Rattle.halfspace.proofs.choices.some_inside.Given as goal

-- the points so far are not inside
abbrev pub invariant-loop-point : goal.invariant-loop-point
invariant-loop-point g l = (k : ℕ) → k < l.point-index → slack (record { normal = l.half.normal; bound = l.half.bound }) (slice_index_or l.points k []) ≤ℤ pos 0

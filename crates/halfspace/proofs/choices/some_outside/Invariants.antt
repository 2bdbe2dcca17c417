use Rattle.std.proofs.Common.{ℕ, ◌<◌, [], slice_index_or}
use Rattle.iso_model.specs.Turns.{Holds}
use Rattle.halfspace.proofs.choices.some_outside.Given as goal

-- the points so far are held
abbrev pub invariant-loop-point : goal.invariant-loop-point
invariant-loop-point g l = (k : ℕ) → k < l.point-index → Holds (record { normal = l.half.normal; bound = l.half.bound }) (slice_index_or l.points k [])

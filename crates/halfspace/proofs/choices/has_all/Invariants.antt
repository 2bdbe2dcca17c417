use Rattle.std.proofs.Common.{◌≡◌, ℕ, ◌<◌, slice_index_or}
use Rattle.std.specs.Int.{bit_at}
use Rattle.halfspace.proofs.choices.has_all.Given as goal

-- the bits so far are set
abbrev pub invariant-loop-i : goal.invariant-loop-i
invariant-loop-i g l = (k : ℕ) → k < l.i-index → bit_at l.set (slice_index_or l.choice k 0) ≡ 1

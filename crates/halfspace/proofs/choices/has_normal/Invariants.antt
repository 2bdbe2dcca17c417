use Rattle.std.proofs.Common.{◌≡◌, ℕ, ◌<◌, pos, slice_index_or}
use Rattle.halfspace.proofs.choices.has_normal.Given as goal

-- the coefficients so far are 0
abbrev pub invariant-loop-coefficient : goal.invariant-loop-coefficient
invariant-loop-coefficient g l = (k : ℕ) → k < l.coefficient-index → slice_index_or l.normal k (pos 0) ≡ pos 0

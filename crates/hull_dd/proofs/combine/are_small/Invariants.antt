use Rattle.std.proofs.Common.{ℕ, ◌<◌, ◌^◌, pos, slice_index_or}
use Rattle.polynomials.specs.Small.{IsSmall}
use Rattle.hull_dd.proofs.combine.are_small.Given as goal

-- the numbers so far
abbrev pub invariant-loop-number : goal.invariant-loop-number
invariant-loop-number g l = (k : ℕ) → k < l.number-index → IsSmall (2 ^ 24) (slice_index_or l.numbers k (pos 0))

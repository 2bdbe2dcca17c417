use Rattle.std.proofs.Common.{◌≡◌, ℕ, ◌<◌, ◌*ℤ◌, get_or, pos, length}
use Rattle.halfspace.proofs.lowest_terms.reduce.Given as goal

abbrev pub invariant-loop-i : goal.invariant-loop-i
invariant-loop-i g l = (length l.normal ≡ l.i-end) × ((k : ℕ) → k < l.i → get_or l.half.normal k (pos 0) ≡ pos l.divisor *ℤ get_or l.normal k (pos 0))

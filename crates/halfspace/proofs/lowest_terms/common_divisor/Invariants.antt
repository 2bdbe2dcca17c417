use Rattle.std.proofs.Common.{ℕ, max, ◌≤◌}
use Rattle.std.specs.Int.{IsGcd}
use Rattle.halfspace.proofs.lowest_terms.common_divisor.Given as goal

-- the greatest common divisor of the two is that of the arguments
abbrev pub invariant-loop-less : goal.invariant-loop-less
invariant-loop-less l = ((g : ℕ) → IsGcd l.greater l.less g → IsGcd l.fn.a l.fn.b g) × ((l.greater ≤ max l.fn.a l.fn.b) × (l.less ≤ max l.fn.a l.fn.b))

abbrev pub decreases-loop-less : goal.decreases-loop-less
decreases-loop-less l = l.less

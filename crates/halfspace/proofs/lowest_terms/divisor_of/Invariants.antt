use Rattle.std.proofs.Common.{◌∷◌, ◌^◌, ◌≤◌, take}
use Rattle.halfspace.specs.Divisors.{IsGreatestDivisor}
use Rattle.halfspace.proofs.lowest_terms.divisor_of.Given as goal

-- the greatest common divisor of the bound and the coefficients so far
abbrev pub invariant-loop-coefficient : goal.invariant-loop-coefficient
invariant-loop-coefficient g l = IsGreatestDivisor (l.bound ∷ take l.coefficient-index l.normal) l.divisor × (l.divisor ≤ 2 ^ 62)

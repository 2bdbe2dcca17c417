-- One step of Euclid's algorithm, and its end.
use Rattle.std.proofs.Common.{arith}
use Rattle.std.proofs.lemmas.Nat.Gcd.{IsGcd-from_mod, IsGcd-from_zero}
use Rattle.halfspace.proofs.lowest_terms.common_divisor.Goals as goal

pub loop-less-preserved : goal.loop-less-preserved
loop-less-preserved c = (λ g h. c.loop-less.invariant.0 g (IsGcd-from_mod c.loop-less.greater c.loop-less.less g h), (omega arith, omega arith))

pub returns-clause-greatest : goal.returns-clause-greatest
returns-clause-greatest c = c.loop-less.invariant.0 c.loop-less.greater (IsGcd-from_zero c.loop-less.greater c.loop-less.less c.loop-less-test.false)

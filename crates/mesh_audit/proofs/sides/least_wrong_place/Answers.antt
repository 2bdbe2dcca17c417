use Rattle.std.proofs.Common.{arith, below_more, sym, ◌∙◌}
use Rattle.mesh_audit.proofs.sides.least_wrong_place.Goals as goal

pub returns-then-is_wrong_without-clause-some : goal.returns-then-is_wrong_without-clause-some
returns-then-is_wrong_without-clause-some g c = λ ws i a.
    record {
      below = omega (arith, c.told-simplex, c.loop-place-test.true);
      passes = sym (c.is_wrong_without.ensures ws i a) ∙ c.if-is_wrong_without.true;
      least = c.loop-place.invariant ws i a;
    }

pub loop-place-preserved : goal.loop-place-preserved
loop-place-preserved g c = λ ws i a. below_more _ _ (c.loop-place.invariant ws i a) (sym (c.is_wrong_without.ensures ws i a) ∙ c.if-is_wrong_without.false)

pub returns-clause-none : goal.returns-clause-none
returns-clause-none g c = λ ws i a k h. c.loop-place.invariant ws i a k (omega (arith, h, c.told-simplex, c.loop-place-test.false))

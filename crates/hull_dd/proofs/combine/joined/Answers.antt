-- The combination in lowest terms is tight where both are, and at the point.
use Rattle.std.proofs.Common.{refl, ◌^◌, ◌*◌, ◌%◌, ℤ, List, subst, lit<}
use Rattle.std.specs.Prelude.{bit_and, bit_or}
use Rattle.polynomials.proofs.SmallLaws.{small-back}
use Rattle.halfspace.specs.Divisors.{IsReduced}
use Rattle.hull_dd.specs.declared.generators.Generator.{Generator}
use Rattle.hull_dd.specs.Generators.{combined, half_of}
use Rattle.hull_dd.specs.Steps.{IsJoined}
use Rattle.hull_dd.proofs.Products.{back}
use Rattle.hull_dd.proofs.Joining.{joined_is, bound_small}
use Rattle.hull_dd.proofs.combine.joined.Goals as goal

pub returns : goal.returns
returns g c =
    let whole = combined (back c.args.above) (half_of c.args.outside.now) (back c.args.below) (half_of c.args.inside.now) in
    let reduced : IsReduced whole.normal whole.bound c.reduce-half.result.normal c.reduce-half.result.bound =
    subst (λ (n : List ℤ). IsReduced n whole.bound c.reduce-half.result.normal c.reduce-half.result.bound) c.combination.ensures.normal
    (subst (λ (b : ℤ). IsReduced c.combination.result.normal b c.reduce-half.result.normal c.reduce-half.result.bound) c.combination.ensures.bound
    c.reduce-half.ensures) in
    let new : Generator g.row.D = record {
      half = record { normal = c.reduce-half.result.normal; bound = c.reduce-half.result.bound };
      tight = bit_or (bit_and c.args.inside.now.tight c.args.outside.now.tight) (1 * 2 ^ c.args.i % 2 ^ 64);
    } in
    subst (λ (a : ℤ). IsJoined g.row.D c.args.i c.args.inside.now a c.args.outside.now c.args.below new)
    (small-back (2 ^ 32) c.args.above (lit< tt) c.requires.above_small)
    (subst (λ (b : ℤ). IsJoined g.row.D c.args.i c.args.inside.now (back c.args.above) c.args.outside.now b new)
    (small-back (2 ^ 32) c.args.below (lit< tt) c.requires.below_small)
    (joined_is g.row.D c.args.i c.args.inside.now (back c.args.above) c.args.outside.now (back c.args.below) new c.requires.number reduced
    (record {
      coefficients = c.if-not-are_small.ensures refl;
      constant = bound_small c.combination.result.normal c.combination.result.bound c.reduce-half.result.normal c.reduce-half.result.bound c.unsigned_abs.result
          c.reduce-half.ensures c.combination.ensures.constant c.unsigned_abs.ensures.value c.if-unsigned_abs-gt-BOUND.false;
    })
    refl))

-- The first number, one more, and all.
use Rattle.std.proofs.Common.{[], ◌∷◌, ◌∙◌, ◌≡◌, ◌<◌, ◌^◌, ℕ, ℤ, List, nat_abs, pos, get_or, take, ap, sym, subst, arith, length, lit<, to_z, of_z, w64}
use Rattle.std.proofs.lemmas.List.{take_more, take_all}
use Rattle.std.specs.Int.{IsGcd}
use Rattle.polynomials.specs.Small.{IsSmall}
use Rattle.polynomials.proofs.SmallLaws.{small-back, AreSmall-back, AreSmall-get_or}
use Rattle.halfspace.specs.Divisors.{IsGreatestDivisor}
use Rattle.halfspace.proofs.DivisorLaws.{greatest_of_one, greatest_more}
use Rattle.halfspace.proofs.lowest_terms.divisor_of.Goals as goal

pub loop-coefficient-init : goal.loop-coefficient-init
loop-coefficient-init g c =
    let back = small-back (2 ^ 62) c.args.bound (lit< tt) c.requires.constant in
    let v : c.unsigned_abs-divisor.result ≡ nat_abs c.args.bound =
    c.unsigned_abs-divisor.ensures.value ∙ ap nat_abs (small-back (2 ^ 62) c.args.bound (lit< tt) c.requires.constant) in
    let s : IsSmall (2 ^ 62) c.args.bound = c.requires.constant in (
      subst (λ (b : ℤ). IsGreatestDivisor (b ∷ []) c.unsigned_abs-divisor.result) (sym back)
          (subst (λ (r : ℕ). IsGreatestDivisor (c.args.bound ∷ []) r) (sym v) (greatest_of_one c.args.bound)),
      omega arith,
    )

pub loop-coefficient-preserved : goal.loop-coefficient-preserved
loop-coefficient-preserved g c =
    let x = get_or c.args.normal.now c.loop-coefficient.coefficient-index (pos 0) in
    let wide : c.loop-coefficient.coefficient-index < length c.args.normal.now = omega arith in
    let v : c.unsigned_abs.result ≡ nat_abs x =
    c.unsigned_abs.ensures.value
    ∙ ap nat_abs (AreSmall-back (2 ^ 62) c.args.normal.now (lit< tt) c.requires.coefficients c.loop-coefficient.coefficient-index) in
    let s : IsSmall (2 ^ 62) x = AreSmall-get_or (2 ^ 62) c.args.normal.now c.loop-coefficient.coefficient-index c.requires.coefficients in (
      subst (λ (xs : List ℤ). IsGreatestDivisor (to_z w64 (of_z w64 c.args.bound) ∷ xs) c.common_divisor-divisor.result)
          (sym (take_more c.args.normal.now c.loop-coefficient.coefficient-index (pos 0) wide))
          (greatest_more (to_z w64 (of_z w64 c.args.bound) ∷ take c.loop-coefficient.coefficient-index c.args.normal.now) x c.loop-coefficient.divisor
          c.common_divisor-divisor.result
          c.loop-coefficient.invariant.0 (subst (λ (m : ℕ). IsGcd c.loop-coefficient.divisor m c.common_divisor-divisor.result) v
          c.common_divisor-divisor.ensures.greatest)),
      omega (arith, c.common_divisor-divisor.ensures.size),
    )

pub returns-clause-greatest : goal.returns-clause-greatest
returns-clause-greatest g c =
    subst (λ (b : ℤ). IsGreatestDivisor (b ∷ c.args.normal.now) c.loop-coefficient.divisor) (small-back (2 ^ 62) c.args.bound (lit< tt) c.requires.constant)
    (subst (λ (xs : List ℤ). IsGreatestDivisor (to_z w64 (of_z w64 c.args.bound) ∷ xs) c.loop-coefficient.divisor)
    (take_all c.loop-coefficient.coefficient-index c.args.normal.now (omega arith)) c.loop-coefficient.invariant.0)

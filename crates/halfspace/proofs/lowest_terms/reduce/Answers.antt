-- Zeros stay; else each number is divided by the greatest common divisor.
use Rattle.std.proofs.Common.{◌∷◌, ◌∙◌, ◌≡◌, ◌^◌, ◌*ℤ◌, ℕ, ℤ, List, nat_abs, pos, ap, sym, subst, arith, length-set, get_or-set_other}
use Rattle.std.proofs.Common.{get_or-set_same, below_more, ◌≢◌, lit<, to_z, of_z, w64}
use Rattle.std.proofs.lemmas.Int.{to_z-of_z}
use Rattle.std.specs.Int.{◌∣◌}
use Rattle.std.proofs.lemmas.List.Elements.{All-head}
use Rattle.polynomials.specs.Small.{IsSmall}
use Rattle.polynomials.proofs.SmallLaws.{small-back, AreSmall-back}
use Rattle.halfspace.proofs.DivisorLaws.{zero_reduced, quotients_same, divides_at}
use Rattle.halfspace.specs.Divisors.{IsGreatestDivisor}
use Rattle.halfspace.proofs.lowest_terms.reduce.Goals as goal

abbrev Greatest : ℤ → List ℤ → ℕ → Type 0
Greatest b n g = IsGreatestDivisor (b ∷ n) g

-- the bound is passed on as it is
same_bound : (b : ℤ) (n : List ℤ) (g : ℕ) → IsSmall (2 ^ 62) b → Greatest (to_z w64 (of_z w64 b)) n g → Greatest b n g
same_bound b n g s h = subst (λ (x : ℤ). Greatest x n g) (small-back (2 ^ 62) b (lit< tt) s) h

pub returns-then-divisor-eq0 : goal.returns-then-divisor-eq0
returns-then-divisor-eq0 g c = zero_reduced c.args.half.normal c.args.half.bound c.divisor_of-divisor.result c.if-divisor-eq0.true
    (same_bound c.args.half.bound c.args.half.normal c.divisor_of-divisor.result c.requires.constant c.divisor_of-divisor.ensures.greatest)

pub quotient-requires-clause-divides : goal.quotient-requires-clause-divides
quotient-requires-clause-divides g c =
    subst (λ (x : ℤ). c.divisor_of-divisor.result ∣ nat_abs x) (sym (AreSmall-back (2 ^ 62) c.args.half.normal (lit< tt) c.requires.coefficients c.loop-i.i))
    (divides_at c.args.half.normal c.args.half.bound c.divisor_of-divisor.result c.loop-i.i (omega arith)
    (same_bound c.args.half.bound c.args.half.normal c.divisor_of-divisor.result c.requires.constant c.divisor_of-divisor.ensures.greatest))

pub quotient-requires-2-clause-divides : goal.quotient-requires-2-clause-divides
quotient-requires-2-clause-divides g c =
    subst (λ (x : ℤ). c.divisor_of-divisor.result ∣ nat_abs x) (sym (small-back (2 ^ 62) c.args.half.bound (lit< tt) c.requires.constant))
    (All-head (λ x. c.divisor_of-divisor.result ∣ nat_abs x) c.args.half.bound c.args.half.normal
    (same_bound c.args.half.bound c.args.half.normal c.divisor_of-divisor.result c.requires.constant c.divisor_of-divisor.ensures.greatest).divides)

pub loop-i-preserved : goal.loop-i-preserved
loop-i-preserved g c =
    let back : to_z w64 (of_z w64 c.quotient.result) ≡ c.quotient.result = to_z-of_z w64 c.quotient.result (record { sfits = c.quotient.type_inv }) in (
      length-set _ _ _ ∙ c.loop-i.invariant.0,
      below_more _ _
          (λ k q. let ne : k ≢ c.loop-i.i = omega arith in rw get_or-set_other (c.loop-i.invariant.1 k q))
          (sym (AreSmall-back (2 ^ 62) c.args.half.normal (lit< tt) c.requires.coefficients c.loop-i.i) ∙ c.quotient.ensures
          ∙ ap (λ (z : ℤ). pos c.divisor_of-divisor.result *ℤ z)
          (sym (get_or-set_same c.loop-i.normal c.loop-i.i (to_z w64 (of_z w64 c.quotient.result)) (pos 0) (omega arith) ∙ back))),
    )

pub returns : goal.returns
returns g c = record {
  divisor = c.divisor_of-divisor.result;
  greatest = same_bound c.args.half.bound c.args.half.normal c.divisor_of-divisor.result c.requires.constant c.divisor_of-divisor.ensures.greatest;
  coefficients = quotients_same c.args.half.normal c.loop-i.normal c.divisor_of-divisor.result (omega arith) (λ k p. c.loop-i.invariant.1 k (omega arith));
  constant = sym (small-back (2 ^ 62) c.args.half.bound (lit< tt) c.requires.constant) ∙ c.quotient-2.ensures
      ∙ ap (λ (z : ℤ). pos c.divisor_of-divisor.result *ℤ z) (sym (to_z-of_z w64 c.quotient-2.result (record { sfits = c.quotient-2.type_inv })));
  stays = λ z. absurd (c.if-divisor-eq0.false z);
}

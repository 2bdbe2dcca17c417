-- What joins two generators on opposite sides of a point is a generator of the set with that point.
use Rattle.std.specs.Prelude.{◌≡◌, ℕ, zero, suc, ◌*◌, ◌%◌, ◌^◌, ◌<◌, ◌≤◌, ℤ, pos, negsuc, nat_abs, ◌-ℤ◌, ◌*ℤ◌, ◌≤ℤ◌, ◌<ℤ◌, bit_and, bit_or, List, []}
use Rattle.std.specs.Prelude.{◌∷◌, map, length}
use Rattle.std.specs.Int.{bit_at}
use Rattle.std.proofs.Common.{refl, sym, ap, ◌∙◌, subst, arith, inl, inr, lit<, to_z, of_z, w64}
use Rattle.std.proofs.lemmas.Int.{ints, unsigned_abs-mul}
use Rattle.std.proofs.lemmas.List.{length-map}
use Rattle.polynomials.proofs.Ring.{ring, var, con, ◌⊖◌, ◌⊗◌}
use Rattle.polynomials.specs.Small.{IsSmall}
use Rattle.polynomials.proofs.SmallLaws.{small-back}
use Rattle.iso_model.specs.Turns.{slack, dot, IsTight}
use Rattle.small_turn.proofs.Planes.{dot-scaled}
use Rattle.halfspace.specs.Divisors.{IsReduced}
use Rattle.hull_dd.specs.declared.generators.Generator.{Generator}
use Rattle.hull_dd.specs.Generators.{point_at, OfSet, combined, half_of, with_point, HasSmallNumbers, IsGenerator}
use Rattle.hull_dd.specs.Steps.{IsJoined}
use Rattle.hull_dd.proofs.GeneratorBits.{point_added, member_stays, member_split, in_both, in_first, in_second}
use Rattle.hull_dd.proofs.Combinations.{combined-slack, combined-wide}
use Rattle.lists.proofs.Bits.{shifted_one}
use Rattle.std.proofs.lemmas.Bool.{cases_eq}

-- ---- signs of the slack

sum_holds : (a b s t : ℤ) → pos 0 <ℤ a → b <ℤ pos 0 → pos 0 ≤ℤ s → pos 0 ≤ℤ t → pos 0 ≤ℤ (a *ℤ t -ℤ b *ℤ s)
sum_holds (pos (suc a)) (negsuc b) (pos m) (pos n) p q h k = omega (arith, ints)
sum_holds (pos zero) b s t p q h k = absurd (omega (arith, ints))
sum_holds (negsuc a) b s t p q h k = absurd (omega (arith, ints))
sum_holds a (pos b) s t p q h k = absurd (omega (arith, ints))
sum_holds a b (negsuc m) t p q h k = absurd (omega (arith, ints))
sum_holds a b s (negsuc n) p q h k = absurd (omega (arith, ints))

first_zero : (a b s t : ℤ) → pos 0 <ℤ a → b <ℤ pos 0 → pos 0 ≤ℤ s → pos 0 ≤ℤ t → a *ℤ t -ℤ b *ℤ s ≡ pos 0 → s ≡ pos 0
first_zero (pos (suc a)) (negsuc b) (pos zero) (pos n) p q h k e = refl
first_zero (pos (suc a)) (negsuc b) (pos (suc m)) (pos n) p q h k e = absurd (omega (arith, ints))
first_zero (pos zero) b s t p q h k e = absurd (omega (arith, ints))
first_zero (negsuc a) b s t p q h k e = absurd (omega (arith, ints))
first_zero a (pos b) s t p q h k e = absurd (omega (arith, ints))
first_zero a b (negsuc m) t p q h k e = absurd (omega (arith, ints))
first_zero a b s (negsuc n) p q h k e = absurd (omega (arith, ints))

second_zero : (a b s t : ℤ) → pos 0 <ℤ a → b <ℤ pos 0 → pos 0 ≤ℤ s → pos 0 ≤ℤ t → a *ℤ t -ℤ b *ℤ s ≡ pos 0 → t ≡ pos 0
second_zero (pos (suc a)) (negsuc b) (pos m) (pos zero) p q h k e = refl
second_zero (pos (suc a)) (negsuc b) (pos m) (pos (suc n)) p q h k e = absurd (omega (arith, ints))
second_zero (pos zero) b s t p q h k e = absurd (omega (arith, ints))
second_zero (negsuc a) b s t p q h k e = absurd (omega (arith, ints))
second_zero a (pos b) s t p q h k e = absurd (omega (arith, ints))
second_zero a b (negsuc m) t p q h k e = absurd (omega (arith, ints))
second_zero a b s (negsuc n) p q h k e = absurd (omega (arith, ints))

zero_sum : (a b s t : ℤ) → s ≡ pos 0 → t ≡ pos 0 → a *ℤ t -ℤ b *ℤ s ≡ pos 0
zero_sum a b s t p q =
    ap (λ (z : ℤ). a *ℤ z -ℤ b *ℤ s) q ∙ ap (λ (z : ℤ). a *ℤ pos 0 -ℤ b *ℤ z) p
    ∙ ring (a ∷ b ∷ []) (var 0 ⊗ con (pos 0) ⊖ var 1 ⊗ con (pos 0)) (con (pos 0)) refl

crossed : (a b : ℤ) → a *ℤ b -ℤ b *ℤ a ≡ pos 0
crossed a b = ring (a ∷ b ∷ []) (var 0 ⊗ var 1 ⊖ var 1 ⊗ var 0) (con (pos 0)) refl

divided_holds : (g : ℕ) (s r : ℤ) → pos (suc g) *ℤ s ≡ r → pos 0 ≤ℤ r → pos 0 ≤ℤ s
divided_holds g (pos n) r e h = omega (arith, ints)
divided_holds g (negsuc n) r e h = absurd (omega (arith, ints))

divided_zero : (g : ℕ) (s r : ℤ) → pos (suc g) *ℤ s ≡ r → r ≡ pos 0 → s ≡ pos 0
divided_zero g (pos zero) r e z = refl
divided_zero g (pos (suc n)) r e z = absurd (omega (arith, ints))
divided_zero g (negsuc n) r e z = absurd (omega (arith, ints))

times_zero : (c s r : ℤ) → c *ℤ s ≡ r → s ≡ pos 0 → r ≡ pos 0
times_zero c s r e z = sym e ∙ ap (λ (v : ℤ). c *ℤ v) z ∙ ring (c ∷ []) (var 0 ⊗ con (pos 0)) (con (pos 0)) refl

-- ---- the slack in lowest terms

scaled_slack : (c b m : ℤ) → c *ℤ b -ℤ c *ℤ m ≡ c *ℤ (b -ℤ m)
scaled_slack c b m = ring (c ∷ b ∷ m ∷ []) (var 0 ⊗ var 1 ⊖ var 0 ⊗ var 2) (var 0 ⊗ (var 1 ⊖ var 2)) refl

pub reduced-slack : (n : List ℤ) (b : ℤ) (m : List ℤ) (c : ℤ) (r : IsReduced n b m c) (x : List ℤ)
    → pos r.divisor *ℤ slack (record { normal = m; bound = c }) x ≡ slack (record { normal = n; bound = b }) x
reduced-slack n b m c r x =
    sym (scaled_slack (pos r.divisor) c (dot m x))
    ∙ ap (λ (v : ℤ). pos r.divisor *ℤ c -ℤ v) (sym (dot-scaled (pos r.divisor) m x))
    ∙ ap (λ (v : ℤ). v -ℤ dot (map (λ x. pos r.divisor *ℤ x) m) x) (sym r.constant)
    ∙ ap (λ (xs : List ℤ). b -ℤ dot xs x) (sym r.coefficients)

-- ---- the generator

pub joined_is : (d i : ℕ) (inside : Generator d) (above : ℤ) (outside : Generator d) (below : ℤ) (new : Generator d) → i < 48
    → IsReduced (combined above (half_of outside) below (half_of inside)).normal (combined above (half_of outside) below (half_of inside)).bound
    new.half.normal new.half.bound
    → HasSmallNumbers new → new.tight ≡ bit_or (bit_and inside.tight outside.tight) (1 * 2 ^ i % 2 ^ 64) → IsJoined d i inside above outside below new
joined_is d i inside above outside below new few reduced small set_is points set one other l e a f b = by_divisor reduced.divisor refl
  where
    si : ℕ → ℤ
    si j = slack (half_of inside) (point_at points j)

    so : ℕ → ℤ
    so j = slack (half_of outside) (point_at points j)

    sn : ℕ → ℤ
    sn j = slack (half_of new) (point_at points j)

    alike : length (half_of outside).normal ≡ length (half_of inside).normal
    alike = other.wide ∙ sym one.wide

    slack_is : (j : ℕ) → pos reduced.divisor *ℤ sn j ≡ above *ℤ so j -ℤ below *ℤ si j
    slack_is j =
        reduced-slack (combined above (half_of outside) below (half_of inside)).normal (combined above (half_of outside) below (half_of inside)).bound
        new.half.normal new.half.bound reduced (point_at points j)
        ∙ combined-slack above (half_of outside) below (half_of inside) alike (point_at points j)

    tight_is : new.tight ≡ with_point (bit_and inside.tight outside.tight) i
    tight_is = set_is ∙ ap (bit_or (bit_and inside.tight outside.tight)) (shifted_one i (omega arith))

    wide : length new.half.normal ≡ d
    wide = sym (ap length reduced.coefficients ∙ length-map new.half.normal (λ x. pos reduced.divisor *ℤ x)) ∙ combined-wide above (half_of outside) below
        (half_of inside) d other.wide one.wide

    -- where the new one is tight at each of the points, so is the one that has the point inside
    both_tight : OfSet points set (IsTight (half_of new)) → OfSet points set (IsTight (half_of inside))
    both_tight t j k m = first_zero above below (si j) (so j) a b (one.holds j k m) (other.holds j k m)
        (times_zero (pos reduced.divisor) (sn j) (above *ℤ so j -ℤ below *ℤ si j) (slack_is j) (t j k m))

    by_divisor : (g : ℕ) → reduced.divisor ≡ g → IsGenerator d points (with_point set i) new
    by_divisor zero z = absurd (one.apart (λ j k m. first_zero above below (si j) (so j) a b (one.holds j k m) (other.holds j k m)
        (sym (slack_is j) ∙ ap (λ (n : ℕ). pos n *ℤ sn j) z ∙ ring (sn j ∷ []) (con (pos 0) ⊗ var 0) (con (pos 0)) refl)))
    by_divisor (suc g) z = record {
      wide = wide;
      small = small;
      holds = λ j k m. elim (member_split set i j m) [
        | inl s ↦ subst (λ (v : ℤ). pos 0 ≤ℤ v) (sym (at_point j s)) (omega (arith, ints))
        | inr n ↦ divided_holds g (sn j) (above *ℤ so j -ℤ below *ℤ si j) (value j) (sum_holds above below (si j) (so j) a b (one.holds j k n)
            (other.holds j k n))
      ];
      within = λ j t. elim (member_split (bit_and inside.tight outside.tight) i j (subst (λ (w : ℕ). bit_at w j ≡ 1) tight_is t)) [
        | inl s ↦ subst (λ (w : ℕ). bit_at (with_point set i) w ≡ 1) (sym s) (point_added set i)
        | inr q ↦ member_stays set i j (one.within j (in_first inside.tight outside.tight j q))
      ];
      touches = λ j k m. (forth j k m, back j k m);
      apart = λ t. one.apart (both_tight (λ j k m. t j k (member_stays set i j m)));
    }
      where
        value : (j : ℕ) → pos (suc g) *ℤ sn j ≡ above *ℤ so j -ℤ below *ℤ si j
        value j = ap (λ (n : ℕ). pos n *ℤ sn j) (sym z) ∙ slack_is j

        at_point : (j : ℕ) → j ≡ i → sn j ≡ pos 0
        at_point j s = divided_zero g (sn j) (above *ℤ so j -ℤ below *ℤ si j) (value j)
            (ap (λ (k : ℕ). above *ℤ so k -ℤ below *ℤ si k) s ∙ ap (λ (v : ℤ). above *ℤ v -ℤ below *ℤ si i) (sym f) ∙ ap
            (λ (v : ℤ). above *ℤ below -ℤ below *ℤ v) (sym e) ∙ crossed above below)

        forth : (j : ℕ) → j < length points → bit_at (with_point set i) j ≡ 1 → bit_at new.tight j ≡ 1 → IsTight (half_of new) (point_at points j)
        forth j k m t = elim (member_split set i j m) [
          | inl s ↦ at_point j s
          | inr n ↦ elim (member_split (bit_and inside.tight outside.tight) i j (subst (λ (w : ℕ). bit_at w j ≡ 1) tight_is t)) [
            | inl s ↦ at_point j s
            | inr q ↦ divided_zero g (sn j) (above *ℤ so j -ℤ below *ℤ si j) (value j)
                (zero_sum above below (si j) (so j) ((one.touches j k n).0 (in_first inside.tight outside.tight j q))
                ((other.touches j k n).0 (in_second inside.tight outside.tight j q)))
          ]
        ]

        back : (j : ℕ) → j < length points → bit_at (with_point set i) j ≡ 1 → IsTight (half_of new) (point_at points j) → bit_at new.tight j ≡ 1
        back j k m t = subst (λ (w : ℕ). bit_at w j ≡ 1) (sym tight_is) (elim (member_split set i j m) [
          | inl s ↦ subst (λ (w : ℕ). bit_at (with_point (bit_and inside.tight outside.tight) i) w ≡ 1) (sym s)
              (point_added (bit_and inside.tight outside.tight) i)
          | inr n ↦ (
              let r = times_zero (pos (suc g)) (sn j) (above *ℤ so j -ℤ below *ℤ si j) (value j) t in
              member_stays (bit_and inside.tight outside.tight) i j (in_both inside.tight outside.tight j
              ((one.touches j k n).1 (first_zero above below (si j) (so j) a b (one.holds j k n) (other.holds j k n) r))
              ((other.touches j k n).1 (second_zero above below (si j) (so j) a b (one.holds j k n) (other.holds j k n) r)))
              )
        ])

-- ---- a bound in lowest terms is read back from its 64 bits

product_grows : (d n m : ℕ) → d * n ≤ m → ¬ (d ≡ 0) → n ≤ m
product_grows zero n m h z = absurd (z refl)
product_grows (suc d) n m h z = omega arith

pub reduced_small : (n : List ℤ) (b : ℤ) (m : List ℤ) (c : ℤ) → IsReduced n b m c → IsSmall (2 ^ 62) b → IsSmall (2 ^ 62) c
reduced_small n b m c r s = elim (cases_eq r.divisor 0) [
  | inl z ↦ subst (λ (v : ℤ). IsSmall (2 ^ 62) v) (sym (r.stays z).1) s
  | inr z ↦ product_grows r.divisor (nat_abs c) (2 ^ 62) (let e = ap nat_abs r.constant ∙ unsigned_abs-mul (pos r.divisor) c in omega arith) z
]

pub bound_small : (n : List ℤ) (b : ℤ) (m : List ℤ) (c : ℤ) (size : ℕ) → IsReduced n b m c → IsSmall (2 ^ 62) b → size ≡ nat_abs (to_z w64 (of_z w64 c))
    → size ≤ 2 ^ 28 → IsSmall (2 ^ 28) c
bound_small n b m c size r s e l =
    let back = small-back (2 ^ 62) c (lit< tt) (reduced_small n b m c r s) in
    let same : size ≡ nat_abs c = e ∙ ap nat_abs back in
    omega arith

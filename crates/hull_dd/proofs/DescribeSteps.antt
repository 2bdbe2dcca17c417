-- The next generators are those of the set with one point more.
use Rattle.std.specs.Prelude.{◌≡◌, ◌≢◌, ◌⊎◌, ℕ, zero, suc, ◌<◌, ℤ, pos, negsuc, ◌-ℤ◌, ◌*ℤ◌, ◌≤ℤ◌, ◌<ℤ◌, bit_and, List, length, All, Any, Contains}
use Rattle.std.specs.Int.{bit_at}
use Rattle.std.proofs.Common.{sym, subst, ap, ◌∙◌, arith, inl, inr}
use Rattle.std.proofs.lemmas.Int.{ints}
use Rattle.iso_model.specs.Turns.{HalfSpace, slack, Holds, IsTight}
use Rattle.hull_dd.specs.declared.generators.Generator.{Generator}
use Rattle.hull_dd.specs.Generators.{point_at, OfSet, combined, half_of, with_point, IsGenerator, IsCoveredBy, Generate}
use Rattle.hull_dd.specs.Steps.{AreWithin, HasInside, IsWithinSome}
use Rattle.hull_dd.proofs.GeneratorBits.{point_added, member_stays, member_split, in_both, within_bit}
use Rattle.hull_dd.proofs.Towards.{TakenOff, taken_off, Toward, toward}
use Rattle.hull_dd.proofs.Signs.{above_or_not}
use Rattle.small_turn.proofs.SpanLaws.{is_zero}

-- ---- signs

one_above : (x : ℤ) → pos 0 <ℤ x → pos 0 <ℤ (pos 1 *ℤ x)
one_above x h = omega (arith, ints)

above_one : (x : ℤ) → pos 0 <ℤ (pos 1 *ℤ x) → pos 0 <ℤ x
above_one x h = omega (arith, ints)

minus_above : (x : ℤ) → pos 0 <ℤ (negsuc 0 *ℤ x) → x <ℤ pos 0
minus_above x h = omega (arith, ints)

held_above : (x : ℤ) → pos 0 ≤ℤ x → x ≢ pos 0 → pos 0 <ℤ x
held_above x h n = elim (above_or_not x) [ inl a ↦ a | inr b ↦ absurd (n (omega (arith, ints))) ]

not_above : (x : ℤ) → x ≢ pos 0 → x ≤ℤ pos 0 → x <ℤ pos 0
not_above x n h = elim (above_or_not (negsuc 0 *ℤ x)) [ inl a ↦ minus_above x a | inr b ↦ absurd (n (omega (arith, ints))) ]

positive_product : (m : ℕ) (t : ℤ) → 0 < m → pos 0 <ℤ t → pos 0 <ℤ (pos m *ℤ t)
positive_product (suc m) (pos (suc a)) p h = omega (arith, ints)
positive_product (suc m) (pos zero) p h = absurd (omega (arith, ints))
positive_product (suc m) (negsuc a) p h = absurd (omega (arith, ints))
positive_product zero t p h = absurd (omega arith)

negative_product : (m : ℕ) (t : ℤ) → 0 < m → t <ℤ pos 0 → (pos m *ℤ t) <ℤ pos 0
negative_product (suc m) (negsuc a) p h = omega (arith, ints)
negative_product (suc m) (pos a) p h = absurd (omega (arith, ints))
negative_product zero t p h = absurd (omega arith)

-- what is tight at a point, less a generator that has it inside, has it outside; less one that has it outside, it has it inside
less_outside : (k m : ℕ) (s t v : ℤ) → 0 < m → v ≡ pos k *ℤ s -ℤ pos m *ℤ t → s ≡ pos 0 → pos 0 <ℤ t → pos 0 <ℤ (negsuc 0 *ℤ v)
less_outside k m s t v p e z h =
    let r = positive_product m t p h in
    let q : v ≡ pos k *ℤ pos 0 -ℤ pos m *ℤ t = e ∙ ap (λ (w : ℤ). pos k *ℤ w -ℤ pos m *ℤ t) z in
    omega (arith, ints)

less_inside : (k m : ℕ) (s t v : ℤ) → 0 < m → v ≡ pos k *ℤ s -ℤ pos m *ℤ t → s ≡ pos 0 → t <ℤ pos 0 → pos 0 <ℤ (pos 1 *ℤ v)
less_inside k m s t v p e z h =
    let r = negative_product m t p h in
    let q : v ≡ pos k *ℤ pos 0 -ℤ pos m *ℤ t = e ∙ ap (λ (w : ℤ). pos k *ℤ w -ℤ pos m *ℤ t) z in
    omega (arith, ints)

-- ---- the step

pub next_generate : (d : ℕ) (points : List (List ℤ)) (set : ℕ) (gs next : List (Generator d)) (i : ℕ) → i < length points → Generate d points set gs
    → All (IsGenerator d points (with_point set i)) next → AreWithin (point_at points i) i gs next → HasInside (point_at points i) gs next
    → Generate d points (with_point set i) next
next_generate d points set gs next i inside gen ones within stay = record {
  each = ones;
  flat = λ h wide t. gen.flat h wide (λ k b m. t k b (member_stays set i k m));
  full = λ h wide t j l. gen.full h wide (λ k b m. t k b (member_stays set i k m)) j l;
  enough = covered;
}
  where
    x : List ℤ
    x = point_at points i

    covered : (h : HalfSpace) → length h.normal ≡ d → OfSet points (with_point set i) (Holds h) → ¬ (OfSet points (with_point set i) (IsTight h))
        → Any (IsCoveredBy points (with_point set i) h) next
    covered h wide all loose = by_slack (is_zero (slack h x))
      where
        holds : OfSet points set (Holds h)
        holds j l b = all j l (member_stays set i j b)

        -- a generator that has the point inside covers the half-space
        by_inside : slack h x ≢ pos 0 → Toward points set gs i (pos 1) h → Any (IsCoveredBy points (with_point set i) h) next
        by_inside n t =
            let c = stay t.generator t.there (above_one (slack (half_of t.generator) x) t.side) in (
              c.0,
              t.generator,
              c.1,
              c.2,
              λ j l b e. elim (member_split set i j b) [
                | inl s ↦ absurd (n (subst (λ (k : ℕ). IsTight h (point_at points k)) s e))
                | inr m ↦ t.covers j l m e
              ],
            )

        -- a set that has the points of the set at which the half-space is tight
        by_set : (tight : ℕ) → ((j : ℕ) → j < length points → bit_at set j ≡ 1 → IsTight h (point_at points j) → bit_at tight j ≡ 1)
            → IsWithinSome (with_point tight i) next
            → Any (IsCoveredBy points (with_point set i) h) next
        by_set tight has w = (
          w.0,
          w.1,
          w.2,
          w.3,
          λ j l b e. within_bit (with_point tight i) w.1.tight j w.4 (elim (member_split set i j b) [
            | inl s ↦ subst (λ (k : ℕ). bit_at (with_point tight i) k ≡ 1) (sym s) (point_added tight i)
            | inr m ↦ member_stays tight i j (has j l m e)
          ]),
        )

        not_all : slack h x ≡ pos 0 → ¬ (OfSet points set (IsTight h))
        not_all z t = loose (λ j l b. elim (member_split set i j b) [
          | inl s ↦ subst (λ (k : ℕ). IsTight h (point_at points k)) (sym s) z
          | inr m ↦ t j l m
        ])

        at_zero : slack h x ≡ pos 0 → Any (IsCoveredBy points set h) gs → Any (IsCoveredBy points (with_point set i) h) next
        at_zero z a = by_side (is_zero (slack (half_of g) x)) (above_or_not (slack (half_of g) x))
          where
            g : Generator d
            g = a.1

            there : Contains gs g
            there = (a.0, a.2, a.3)

            off : TakenOff points set h g
            off = taken_off d points set h g wide holds (subst (IsGenerator d points set) a.3 (gen.each a.0 a.1 a.2)) a.4

            less : HalfSpace
            less = combined (pos off.times) h (pos off.off) (half_of g)

            by_side : (slack (half_of g) x ≡ pos 0) ⊎ (slack (half_of g) x ≢ pos 0) → (pos 0 <ℤ slack (half_of g) x) ⊎ (slack (half_of g) x ≤ℤ pos 0)
                → Any (IsCoveredBy points (with_point set i) h) next
            by_side (inl s) _ = by_set g.tight a.4 (within.on g there s)
            by_side (inr n) (inl s) =
                let t = toward d points set gs gen i inside (negsuc 0) less off.wide off.holds
                (less_outside off.times off.off (slack h x) (slack (half_of g) x) (slack less x) off.off_above (off.slacks x) z s) in
                by_set (bit_and g.tight t.generator.tight)
                (λ j l b e. in_both g.tight t.generator.tight j (a.4 j l b e) (t.covers j l b (off.keeps j l b e)))
                (within.meets g there s t.generator t.there (minus_above (slack (half_of t.generator) x) t.side))
            by_side (inr n) (inr s) =
                let t = toward d points set gs gen i inside (pos 1) less off.wide off.holds
                (less_inside off.times off.off (slack h x) (slack (half_of g) x) (slack less x) off.off_above (off.slacks x) z
                (not_above (slack (half_of g) x) n s)) in
                by_set (bit_and t.generator.tight g.tight)
                (λ j l b e. in_both t.generator.tight g.tight j (t.covers j l b (off.keeps j l b e)) (a.4 j l b e))
                (within.meets t.generator t.there (above_one (slack (half_of t.generator) x) t.side) g there (not_above (slack (half_of g) x) n s))

        by_slack : (slack h x ≡ pos 0) ⊎ (slack h x ≢ pos 0) → Any (IsCoveredBy points (with_point set i) h) next
        by_slack (inl z) = at_zero z (gen.enough h wide holds (not_all z))
        by_slack (inr n) = by_inside n (toward d points set gs gen i inside (pos 1) h wide holds
            (one_above (slack h x) (held_above (slack h x) (all i inside (point_added set i)) n)))

-- A generator that is tight at a further point, or has it inside, is a generator of the set with that point; and what a loop over the
-- generators keeps.
use Rattle.std.specs.Prelude.{◌≡◌, ℕ, zero, suc, ◌+◌, ◌*◌, ◌%◌, ◌^◌, ◌<◌, ◌≤◌, ℤ, pos, ◌≤ℤ◌, ◌<ℤ◌, ◌-ℤ◌, bit_or, List, [], ◌∷◌, ◌++◌, map, length}
use Rattle.std.specs.Prelude.{take, slice_index_or, All, Contains}
use Rattle.std.specs.Int.{bit_at}
use Rattle.std.specs.Int.Signed.{lt_z, lt_z_yes, lt_z_no}
use Rattle.std.specs.Prelude.{Bool, true, false, not}
use lib.Dec.{T}
use Rattle.std.proofs.Common.{refl, sym, ap, ◌∙◌, subst, arith, inl, inr, lit<, to_z, of_z, w64}
use Rattle.std.proofs.lemmas.Int.{ints}
use Rattle.std.proofs.lemmas.List.{take_more, map-append}
use Rattle.std.proofs.lemmas.List.Elements.{All-push, Contains-push, Contains-append_left}
use Rattle.polynomials.specs.Small.{IsSmall, AreSmall}
use Rattle.polynomials.proofs.SmallLaws.{small-back, small-sub, small-weaken}
use Rattle.iso_model.specs.Turns.{slack, dot, IsTight, Holds}
use Rattle.hull_dd.specs.declared.generators.Generator.{Generator}
use Rattle.hull_dd.specs.Generators.{point_at, half_of, with_point, kept_with, IsGenerator}
use Rattle.hull_dd.specs.Steps.{slacks_at, AreMeasured, IsJoined, HasInside, KeepsOnes, KeepsOnesWith}
use Rattle.hull_dd.proofs.GeneratorBits.{point_added, member_stays, member_split}
use Rattle.hull_dd.proofs.Signs.{zero_holds, above_holds, above_not_zero}
use Rattle.hull_dd.proofs.Kept.{All-kept}
use Rattle.small_turn.proofs.MatrixRows.{small-dot}
use Rattle.lists.proofs.Contained.{any_default}
use Rattle.lists.proofs.Bits.{shifted_one}
use Rattle.std.proofs.lemmas.Bool.{cases_eq}

-- the generator with one point more in its tight set, as the code sets its bit
abbrev pub touched : {d : ℕ} → ℕ → Generator d → Generator d
touched {d} i g = record { half = g.half; tight = bit_or g.tight (1 * 2 ^ i % 2 ^ 64) }

pub touched_is : (d : ℕ) (points : List (List ℤ)) (set i : ℕ) (g : Generator d) → i < 48 → IsGenerator d points set g
    → slack (half_of g) (point_at points i) ≡ pos 0 → IsGenerator d points (with_point set i) (touched i g)
touched_is d points set i g few one z = record {
  wide = one.wide;
  small = record { coefficients = one.small.coefficients; constant = one.small.constant };
  holds = λ j l m. elim (member_split set i j m) [
    | inl s ↦ subst (λ (k : ℕ). Holds (half_of g) (point_at points k)) (sym s) (zero_holds (slack (half_of g) (point_at points i)) z)
    | inr n ↦ one.holds j l n
  ];
  within = λ j t. elim (member_split g.tight i j (forth j t)) [
    | inl s ↦ subst (λ (k : ℕ). bit_at (with_point set i) k ≡ 1) (sym s) (point_added set i)
    | inr n ↦ member_stays set i j (one.within j n)
  ];
  touches = λ j l m. (
    λ t. elim (member_split g.tight i j (forth j t)) [
      | inl s ↦ subst (λ (k : ℕ). IsTight (half_of g) (point_at points k)) (sym s) z
      | inr n ↦ (one.touches j l (one.within j n)).0 n
    ],
    λ t. back j (elim (member_split set i j m) [
      | inl s ↦ subst (λ (k : ℕ). bit_at (with_point g.tight i) k ≡ 1) (sym s) (point_added g.tight i)
      | inr n ↦ member_stays g.tight i j ((one.touches j l n).1 t)
    ]),
  );
  apart = λ t. one.apart (λ j l m. t j l (member_stays set i j m));
}
  where
    tight_is : (touched i g).tight ≡ with_point g.tight i
    tight_is = ap (bit_or g.tight) (shifted_one i (omega arith))

    forth : (j : ℕ) → bit_at (touched i g).tight j ≡ 1 → bit_at (with_point g.tight i) j ≡ 1
    forth j t = subst (λ (w : ℕ). bit_at w j ≡ 1) tight_is t

    back : (j : ℕ) → bit_at (with_point g.tight i) j ≡ 1 → bit_at (touched i g).tight j ≡ 1
    back j t = subst (λ (w : ℕ). bit_at w j ≡ 1) (sym tight_is) t

pub stays_is : (d : ℕ) (points : List (List ℤ)) (set i : ℕ) (g : Generator d) → IsGenerator d points set g → pos 0 <ℤ slack (half_of g) (point_at points i)
    → IsGenerator d points (with_point set i) g
stays_is d points set i g one h = record {
  wide = one.wide;
  small = one.small;
  holds = λ j l m. elim (member_split set i j m) [
    | inl s ↦ subst (λ (k : ℕ). Holds (half_of g) (point_at points k)) (sym s) (above_holds (slack (half_of g) (point_at points i)) h)
    | inr n ↦ one.holds j l n
  ];
  within = λ j t. member_stays set i j (one.within j t);
  touches = λ j l m. (
    λ t. (one.touches j l (one.within j t)).0 t,
    λ t. elim (member_split set i j m) [
      | inl s ↦ absurd (above_not_zero (slack (half_of g) (point_at points i)) h (subst (λ (k : ℕ). IsTight (half_of g) (point_at points k)) s t))
      | inr n ↦ (one.touches j l n).1 t
    ],
  );
  apart = λ t. one.apart (λ j l m. t j l (member_stays set i j m));
}

-- ---- slacks by their places

pub slack_at_place : (d : ℕ) (x : List ℤ) (gs : List (Generator d)) (k : ℕ) (e : Generator d) → k < length gs
    → slice_index_or (slacks_at x gs) k (pos 0) ≡ slack (half_of (slice_index_or gs k e)) x
slack_at_place d x [] k e h = absurd (omega arith)
slack_at_place d x (g ∷ gs) zero e h = refl
slack_at_place d x (g ∷ gs) (suc k) e h = slack_at_place d x gs k e (omega arith)

pub slack_here : (d : ℕ) (x : List ℤ) (gs : List (Generator d)) (slacks : List ℤ) → slacks ≡ slacks_at x gs → (k : ℕ) (g : Generator d) → k < length gs
    → g ≡ slice_index_or gs k g
    → slice_index_or slacks k (pos 0) ≡ slack (half_of g) x
slack_here d x gs slacks e k g l s =
    ap (λ (xs : List ℤ). slice_index_or xs k (pos 0)) e ∙ slack_at_place d x gs k g l ∙ ap (λ (h : Generator d). slack (half_of h) x) (sym s)

-- the generator at a place is one of the set
pub one_here : (d : ℕ) (points : List (List ℤ)) (set i : ℕ) (gs : List (Generator d)) (slacks : List ℤ) → AreMeasured d points set i gs slacks
    → (k : ℕ) (g : Generator d) → k < length gs → g ≡ slice_index_or gs k g → IsGenerator d points set g
one_here d points set i gs slacks m k g l s = subst (IsGenerator d points set) (sym s) (m.ones k g l)

-- ---- tests of slacks as the code makes them

pub slack_back : (slacks : List ℤ) (k : ℕ) → AreSmall (2 ^ 32) slacks → k < length slacks
    → to_z w64 (of_z w64 (slice_index_or slacks k (pos 0))) ≡ slice_index_or slacks k (pos 0)
slack_back slacks k h l = small-back (2 ^ 32) (slice_index_or slacks k (pos 0)) (lit< tt) (h k (pos 0) l)

pub tested_zero : (slacks : List ℤ) (k : ℕ) → AreSmall (2 ^ 32) slacks → k < length slacks → of_z w64 (slice_index_or slacks k (pos 0)) ≡ 0
    → slice_index_or slacks k (pos 0) ≡ pos 0
tested_zero slacks k h l e = sym (slack_back slacks k h l) ∙ ap (to_z w64) e

pub not_less : (a b : ℤ) → lt_z a b ≡ false → ¬ (a <ℤ b)
not_less a b e h = let k : b ≤ℤ a = lt_z_no (subst (λ (t : Bool). T (not t)) (sym e) tt) in absurd (omega (arith, ints))

pub tested_above : (slacks : List ℤ) (k : ℕ) → AreSmall (2 ^ 32) slacks → k < length slacks
    → lt_z (pos 0) (to_z w64 (of_z w64 (slice_index_or slacks k (pos 0)))) ≡ true → pos 0 <ℤ slice_index_or slacks k (pos 0)
tested_above slacks k h l p = subst (λ (z : ℤ). pos 0 <ℤ z) (slack_back slacks k h l) (lt_z_yes (subst T (sym p) tt))

pub tested_below : (slacks : List ℤ) (k : ℕ) → AreSmall (2 ^ 32) slacks → k < length slacks
    → lt_z (to_z w64 (of_z w64 (slice_index_or slacks k (pos 0)))) (pos 0) ≡ true → slice_index_or slacks k (pos 0) <ℤ pos 0
tested_below slacks k h l p = subst (λ (z : ℤ). z <ℤ pos 0) (slack_back slacks k h l) (lt_z_yes (subst T (sym p) tt))

pub not_above : (slacks : List ℤ) (k : ℕ) → AreSmall (2 ^ 32) slacks → k < length slacks
    → lt_z (pos 0) (to_z w64 (of_z w64 (slice_index_or slacks k (pos 0)))) ≡ false → ¬ (pos 0 <ℤ slice_index_or slacks k (pos 0))
not_above slacks k h l p q = not_less (pos 0) (to_z w64 (of_z w64 (slice_index_or slacks k (pos 0)))) p
    (subst (λ (z : ℤ). pos 0 <ℤ z) (sym (slack_back slacks k h l)) q)

pub not_below : (slacks : List ℤ) (k : ℕ) → AreSmall (2 ^ 32) slacks → k < length slacks
    → lt_z (to_z w64 (of_z w64 (slice_index_or slacks k (pos 0)))) (pos 0) ≡ false → ¬ (slice_index_or slacks k (pos 0) <ℤ pos 0)
not_below slacks k h l p q = not_less (to_z w64 (of_z w64 (slice_index_or slacks k (pos 0)))) (pos 0) p
    (subst (λ (z : ℤ). z <ℤ pos 0) (sym (slack_back slacks k h l)) q)

pub not_zero_test : (slacks : List ℤ) (k : ℕ) → ¬ (of_z w64 (slice_index_or slacks k (pos 0)) ≡ 0) → ¬ (slice_index_or slacks k (pos 0) ≡ pos 0)
not_zero_test slacks k n e = n (ap (of_z w64) e)

-- ---- what a turn of a loop keeps

pub touch_more : (d i : ℕ) (gs : List (Generator d)) (slacks : List ℤ) (old before after : List (Generator d)) (k : ℕ) (g : Generator d) → i < 48
    → KeepsOnes d i gs slacks old before
    → k < length gs → g ≡ slice_index_or gs k g → slice_index_or slacks k (pos 0) ≡ pos 0 → after ≡ kept_with (touched i g) before
    → KeepsOnes d i gs slacks old after
touch_more d i gs slacks old before after k g few keeps l s z e points set m ones =
    subst (All (IsGenerator d points (with_point set i))) (sym e)
    (All-kept d (IsGenerator d points (with_point set i)) (touched i g) before
    (touched_is d points set i g few (one_here d points set i gs slacks m k g l s) (sym (slack_here d (point_at points i) gs slacks m.measured k g l s) ∙ z))
    (keeps points set m ones))

pub join_more : (d i : ℕ) (inside : Generator d) (above : ℤ) (gs : List (Generator d)) (slacks : List ℤ) (old before after : List (Generator d)) (k : ℕ)
    (g new : Generator d) → KeepsOnesWith d i inside above gs slacks old before
    → k < length gs → g ≡ slice_index_or gs k g → slice_index_or slacks k (pos 0) <ℤ pos 0
    → IsJoined d i inside above g (slice_index_or slacks k (pos 0)) new → after ≡ kept_with new before
    → KeepsOnesWith d i inside above gs slacks old after
join_more d i inside above gs slacks old before after k g new keeps l s z joined e points set m one a p ones =
    subst (All (IsGenerator d points (with_point set i))) (sym e)
    (All-kept d (IsGenerator d points (with_point set i)) new before
    (joined points set one (one_here d points set i gs slacks m k g l s) m.inside a p (slack_here d (point_at points i) gs slacks m.measured k g l s) z)
    (keeps points set m one a p ones))

pub join_all_more : (d i : ℕ) (gs : List (Generator d)) (slacks : List ℤ) (old before after : List (Generator d)) (k : ℕ) (g : Generator d)
    → KeepsOnes d i gs slacks old before
    → k < length gs → g ≡ slice_index_or gs k g → pos 0 <ℤ slice_index_or slacks k (pos 0)
    → KeepsOnesWith d i g (slice_index_or slacks k (pos 0)) gs slacks before after → KeepsOnes d i gs slacks old after
join_all_more d i gs slacks old before after k g keeps l s z more points set m ones =
    more points set m (one_here d points set i gs slacks m k g l s) (slack_here d (point_at points i) gs slacks m.measured k g l s) z (keeps points set m ones)

pub stay_more : (d i : ℕ) (gs : List (Generator d)) (slacks : List ℤ) (old before after : List (Generator d)) (k : ℕ) (g : Generator d)
    → KeepsOnes d i gs slacks old before
    → k < length gs → g ≡ slice_index_or gs k g → pos 0 <ℤ slice_index_or slacks k (pos 0) → after ≡ before ++ g ∷ [] → KeepsOnes d i gs slacks old after
stay_more d i gs slacks old before after k g keeps l s z e points set m ones =
    subst (All (IsGenerator d points (with_point set i))) (sym e)
    (All-push (IsGenerator d points (with_point set i)) before g (keeps points set m ones)
    (stays_is d points set i g (one_here d points set i gs slacks m k g l s) (subst (λ (v : ℤ). pos 0 <ℤ v)
    (slack_here d (point_at points i) gs slacks m.measured k g l s) z)))

-- ---- the slacks, one by one

pub slacks_more : (d : ℕ) (x : List ℤ) (gs : List (Generator d)) (slacks after : List ℤ) (k : ℕ) (g : Generator d) (s : ℤ) → k < length gs
    → g ≡ slice_index_or gs k g
    → slacks ≡ slacks_at x (take k gs) → s ≡ slack (half_of g) x → after ≡ slacks ++ s ∷ [] → after ≡ slacks_at x (take (k + 1) gs)
slacks_more d x gs slacks after k g s l e h f z =
    z ∙ ap (λ (xs : List ℤ). xs ++ s ∷ []) h ∙ ap (λ (v : ℤ). slacks_at x (take k gs) ++ v ∷ []) f
    ∙ sym (map-append (λ (h : Generator d). slack (half_of h) x) (take k gs) (g ∷ []))
    ∙ ap (λ (h : Generator d). map (λ (h : Generator d). slack (half_of h) x) (take k gs ++ h ∷ [])) e
    ∙ ap (map (λ (h : Generator d). slack (half_of h) x)) (sym (take_more gs k g l))

-- the slack of a point in a generator is small
pub slack_small : (n p : List ℤ) (b : ℤ) → length p ≤ 4 → AreSmall (2 ^ 24) n → AreSmall 32 p → IsSmall (2 ^ 28) b → IsSmall (2 ^ 32) (b -ℤ dot n p)
slack_small n p b few h k q =
    small-weaken (2 ^ 28 + length p * (2 ^ 24 * 32)) (2 ^ 32) (b -ℤ dot n p) (small-sub (2 ^ 28) (length p * (2 ^ 24 * 32)) b (dot n p) q
    (small-dot (2 ^ 24) 32 n p h k)) (omega arith)

-- ---- the generators that have the point inside

pub contained_more : {X : Type 0} (xs ys : List X) (y : X) → All (Contains ys) xs → All (Contains (ys ++ y ∷ [])) xs
contained_more xs ys y h k d l = Contains-append_left ys (y ∷ []) (slice_index_or xs k d) (h k d l)

-- those of the first places are there
abbrev pub InsideBelow : {d : ℕ} → List (Generator d) → List ℤ → List (Generator d) → ℕ → Type 0
InsideBelow {d} gs slacks next n = (k : ℕ) (e : Generator d) → k < n → pos 0 <ℤ slice_index_or slacks k (pos 0) → Contains next (slice_index_or gs k e)

pub inside_more : (d : ℕ) (gs : List (Generator d)) (slacks : List ℤ) (next : List (Generator d)) (n : ℕ) (g : Generator d) → n < length gs
    → g ≡ slice_index_or gs n g
    → InsideBelow gs slacks next n → InsideBelow gs slacks (next ++ g ∷ []) (n + 1)
inside_more d gs slacks next n g l s h k e b p = elim (cases_eq k n) [
  | inl z ↦ subst (λ (j : ℕ). Contains (next ++ g ∷ []) (slice_index_or gs j e)) (sym z)
      (subst (Contains (next ++ g ∷ [])) (s ∙ any_default gs n g e l) (Contains-push next g))
  | inr z ↦ Contains-append_left next (g ∷ []) (slice_index_or gs k e) (h k e (omega arith) p)
]

pub inside_same : (d : ℕ) (gs : List (Generator d)) (slacks : List ℤ) (next : List (Generator d)) (n : ℕ) → ¬ (pos 0 <ℤ slice_index_or slacks n (pos 0))
    → InsideBelow gs slacks next n → InsideBelow gs slacks next (n + 1)
inside_same d gs slacks next n not h k e b p = elim (cases_eq k n) [
  | inl z ↦ absurd (not (subst (λ (j : ℕ). pos 0 <ℤ slice_index_or slacks j (pos 0)) z p))
  | inr z ↦ h k e (omega arith) p
]

pub has_inside : (d : ℕ) (x : List ℤ) (gs : List (Generator d)) (slacks : List ℤ) (next : List (Generator d)) → slacks ≡ slacks_at x gs
    → InsideBelow gs slacks next (length gs) → HasInside x gs next
has_inside d x gs slacks next e h g there p =
    subst (Contains next) there.2
    (h there.0 g there.1 (subst (λ (v : ℤ). pos 0 <ℤ v) (sym (slack_here d x gs slacks e there.0 g there.1 (sym there.2))) p))

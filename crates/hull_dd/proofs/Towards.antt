-- A half-space that holds the points so far, and that has a further point on one side off its boundary, is covered by a generator that has
-- that point on the same side.
use Rattle.std.specs.Prelude.{◌≡◌, ◌⊎◌, ℕ, zero, suc, ◌*◌, ◌<◌, ◌≤◌, ◌==◌, Bool, true, false, ◌&&◌, not, ℤ, pos, negsuc, nat_abs, ◌-ℤ◌, ◌*ℤ◌, ◌≤ℤ◌}
use Rattle.std.specs.Prelude.{◌<ℤ◌, List, [], ◌∷◌, length, Any, Contains}
use Rattle.std.specs.Int.{bit_at}
use Rattle.std.proofs.Common.{refl, sym, ap, ◌∙◌, subst, arith, inl, inr}
use Rattle.std.proofs.lemmas.Bool.{false≢true}
use Rattle.std.proofs.lemmas.Bool.Decides.{nat_tests}
use Rattle.std.proofs.lemmas.Int.{ints}
use Rattle.polynomials.proofs.Ring.{ring, var, con, ◌⊖◌, ◌⊗◌}
use Rattle.iso_model.specs.Turns.{HalfSpace, slack, Holds, IsTight, same_int}
use Rattle.hull_dd.specs.declared.generators.Generator.{Generator}
use Rattle.hull_dd.specs.Generators.{point_at, OfSet, combined, half_of, IsGenerator, IsCoveredBy, Generate}
use Rattle.hull_dd.proofs.Signs.{above_or_not}
use Rattle.hull_dd.proofs.GeneratorCounts.{count, count-less}
use Rattle.hull_dd.proofs.Ratios.{Least, AreNone, least}
use Rattle.hull_dd.proofs.Combinations.{combined-slack, combined-wide}
use Rattle.iso_model.proofs.PointLaws.{is-same_int}
use Rattle.halfspace.proofs.TightNumbers.{same_int-false}
use Rattle.polynomials.proofs.IntLaws.{nat_abs-zero}

-- ---- signs

held_value : (x : ℤ) → pos 0 ≤ℤ x → x ≡ pos (nat_abs x)
held_value (pos n) h = refl
held_value (negsuc n) h = absurd (omega (arith, ints))

taken_holds : (k a m b : ℕ) → m * b ≤ k * a → pos 0 ≤ℤ (pos k *ℤ pos a -ℤ pos m *ℤ pos b)
taken_holds k a m b h = omega (arith, ints)

taken_zero : (k m : ℕ) → pos k *ℤ pos m -ℤ pos m *ℤ pos k ≡ pos 0
taken_zero k m = ring (pos k ∷ pos m ∷ []) (var 0 ⊗ var 1 ⊖ var 1 ⊗ var 0) (con (pos 0)) refl

both_zero : (k m : ℕ) → pos k *ℤ pos 0 -ℤ pos m *ℤ pos 0 ≡ pos 0
both_zero k m = ring (pos k ∷ pos m ∷ []) (var 0 ⊗ con (pos 0) ⊖ var 1 ⊗ con (pos 0)) (con (pos 0)) refl

side_parts : (σ k m a b : ℤ) → σ *ℤ (k *ℤ a -ℤ m *ℤ b) ≡ k *ℤ (σ *ℤ a) -ℤ m *ℤ (σ *ℤ b)
side_parts σ k m a b = ring (σ ∷ k ∷ m ∷ a ∷ b ∷ []) (var 0 ⊗ (var 1 ⊗ var 3 ⊖ var 2 ⊗ var 4)) (var 1 ⊗ (var 0 ⊗ var 3) ⊖ var 2 ⊗ (var 0 ⊗ var 4)) refl

positive : (k m : ℕ) (x y : ℤ) → 0 < k → pos 0 <ℤ x → y ≤ℤ pos 0 → pos 0 <ℤ (pos k *ℤ x -ℤ pos m *ℤ y)
positive (suc k) m (pos (suc a)) (pos zero) p q r = omega (arith, ints)
positive (suc k) m (pos (suc a)) (negsuc b) p q r = omega (arith, ints)
positive (suc k) m (pos (suc a)) (pos (suc b)) p q r = absurd (omega (arith, ints))
positive zero m x y p q r = absurd (omega arith)
positive (suc k) m (pos zero) y p q r = absurd (omega (arith, ints))
positive (suc k) m (negsuc a) y p q r = absurd (omega (arith, ints))

-- ---- points of a set at which a half-space is not tight

abbrev pub loose : List (List ℤ) → ℕ → HalfSpace → ℕ → Bool
loose points set h j = (bit_at set j == 1) && not (same_int (slack h (point_at points j)) (pos 0))

both_true : (a b : Bool) → a ≡ true → b ≡ false → (a && not b) ≡ true
both_true true false p q = refl
both_true true true p q = absurd (false≢true (sym q))
both_true false b p q = absurd (false≢true p)

first_true : (a b : Bool) → (a && not b) ≡ true → a ≡ true
first_true true b e = refl
first_true false b e = absurd (false≢true e)

second_false : (a b : Bool) → (a && not b) ≡ true → b ≡ false
second_false true true e = absurd (false≢true e)
second_false true false e = refl
second_false false b e = absurd (false≢true e)

none_true : (a b : Bool) → b ≡ true → (a && not b) ≡ false
none_true true true e = refl
none_true true false e = absurd (false≢true e)
none_true false b e = refl

pub loose_there : (points : List (List ℤ)) (set : ℕ) (h : HalfSpace) (j : ℕ) → bit_at set j ≡ 1 → ¬ (IsTight h (point_at points j))
    → loose points set h j ≡ true
loose_there points set h j m n =
    let e : (bit_at set j == 1) ≡ true = grind (arith, nat_tests) in
    both_true (bit_at set j == 1) (same_int (slack h (point_at points j)) (pos 0)) e (same_int-false (slack h (point_at points j)) (pos 0) n)

loose_member : (points : List (List ℤ)) (set : ℕ) (h : HalfSpace) (j : ℕ) → loose points set h j ≡ true → bit_at set j ≡ 1
loose_member points set h j e =
    let t : (bit_at set j == 1) ≡ true = first_true (bit_at set j == 1) (same_int (slack h (point_at points j)) (pos 0)) e in
    grind (arith, nat_tests)

loose_not_tight : (points : List (List ℤ)) (set : ℕ) (h : HalfSpace) (j : ℕ) → loose points set h j ≡ true → ¬ (IsTight h (point_at points j))
loose_not_tight points set h j e t =
    false≢true (sym (second_false (bit_at set j == 1) (same_int (slack h (point_at points j)) (pos 0)) e) ∙ is-same_int (slack h (point_at points j))
    (pos 0) t)

tight_not_loose : (points : List (List ℤ)) (set : ℕ) (h : HalfSpace) (j : ℕ) → IsTight h (point_at points j) → loose points set h j ≡ false
tight_not_loose points set h j t = none_true (bit_at set j == 1) (same_int (slack h (point_at points j)) (pos 0))
    (is-same_int (slack h (point_at points j)) (pos 0) t)

-- ---- a generator is taken off as often as the half-space still holds the points

-- a multiple of the half-space less a multiple of the generator holds the points, and is tight at one more
pub record TakenOff {d : ℕ} (points : List (List ℤ)) (set : ℕ) (h : HalfSpace) (g : Generator d) : Type 0 where
  pub times : ℕ
  pub off : ℕ
  pub times_above : 0 < times
  pub off_above : 0 < off
  pub wide : length (combined (pos times) h (pos off) (half_of g)).normal ≡ d
  pub slacks : (x : List ℤ) → slack (combined (pos times) h (pos off) (half_of g)) x ≡ pos times *ℤ slack h x -ℤ pos off *ℤ slack (half_of g) x
  pub holds : OfSet points set (Holds (combined (pos times) h (pos off) (half_of g)))
  pub place : ℕ
  pub below : place < length points
  pub member : bit_at set place ≡ 1
  pub was_loose : ¬ (IsTight h (point_at points place))
  pub tight : IsTight (combined (pos times) h (pos off) (half_of g)) (point_at points place)
  pub keeps : (j : ℕ) → j < length points → bit_at set j ≡ 1 → IsTight h (point_at points j)
      → IsTight (combined (pos times) h (pos off) (half_of g)) (point_at points j)

pub taken_off : (d : ℕ) (points : List (List ℤ)) (set : ℕ) (h : HalfSpace) (g : Generator d) → length h.normal ≡ d → OfSet points set (Holds h)
    → IsGenerator d points set g → IsCoveredBy points set h g → TakenOff points set h g
taken_off d points set h g wide holds gen covered = by_least (least set H G (length points))
  where
    H : ℕ → ℕ
    H j = nat_abs (slack h (point_at points j))

    G : ℕ → ℕ
    G j = nat_abs (slack (half_of g) (point_at points j))

    same_length : length h.normal ≡ length (half_of g).normal
    same_length = wide ∙ sym gen.wide

    value : (k m : ℕ) (j : ℕ) → j < length points → bit_at set j ≡ 1
        → slack (combined (pos k) h (pos m) (half_of g)) (point_at points j) ≡ pos k *ℤ pos (H j) -ℤ pos m *ℤ pos (G j)
    value k m j l b =
        combined-slack (pos k) h (pos m) (half_of g) same_length (point_at points j)
        ∙ ap (λ (v : ℤ). pos k *ℤ v -ℤ pos m *ℤ slack (half_of g) (point_at points j)) (held_value (slack h (point_at points j)) (holds j l b))
        ∙ ap (λ (v : ℤ). pos k *ℤ pos (H j) -ℤ pos m *ℤ v) (held_value (slack (half_of g) (point_at points j)) (gen.holds j l b))

    by_least : AreNone set G (length points) ⊎ Least set H G (length points) → TakenOff points set h g
    by_least (inl none) = absurd (gen.apart (λ j l b. nat_abs-zero (slack (half_of g) (point_at points j)) (none j l b)))
    by_least (inr k) =
        let not_tight : ¬ (IsTight h (point_at points k.place)) = λ t.
        let z : G k.place ≡ 0 = ap nat_abs ((gen.touches k.place k.below k.member).0 (covered k.place k.below k.member t)) in
        let p = k.above in absurd (omega arith) in
        record {
          times = G k.place;
          off = H k.place;
          times_above = k.above;
          wide = combined-wide (pos (G k.place)) h (pos (H k.place)) (half_of g) d wide gen.wide;
          slacks = combined-slack (pos (G k.place)) h (pos (H k.place)) (half_of g) same_length;
          off_above = (let n : ¬ (H k.place ≡ 0) = λ z. not_tight (nat_abs-zero (slack h (point_at points k.place)) z) in omega arith);
          holds = λ j l b. subst (λ (v : ℤ). pos 0 ≤ℤ v) (sym (value (G k.place) (H k.place) j l b))
              (taken_holds (G k.place) (H j) (H k.place) (G j) (k.least j l b));
          place = k.place;
          below = k.below;
          member = k.member;
          was_loose = not_tight;
          tight = value (G k.place) (H k.place) k.place k.below k.member ∙ taken_zero (G k.place) (H k.place);
          keeps = λ j l b t. combined-slack (pos (G k.place)) h (pos (H k.place)) (half_of g) same_length (point_at points j)
              ∙ ap (λ (v : ℤ). pos (G k.place) *ℤ v -ℤ pos (H k.place) *ℤ slack (half_of g) (point_at points j)) t
              ∙ ap (λ (v : ℤ). pos (G k.place) *ℤ pos 0 -ℤ pos (H k.place) *ℤ v) ((gen.touches j l b).0 (covered j l b t))
              ∙ both_zero (G k.place) (H k.place);
        }

-- ---- a generator on the same side

pub record Toward {d : ℕ} (points : List (List ℤ)) (set : ℕ) (gs : List (Generator d)) (i : ℕ) (σ : ℤ) (h : HalfSpace) : Type 0 where
  pub generator : Generator d
  pub there : Contains gs generator
  pub covers : IsCoveredBy points set h generator
  pub side : pos 0 <ℤ (σ *ℤ slack (half_of generator) (point_at points i))

no_side : (σ x : ℤ) → x ≡ pos 0 → pos 0 <ℤ (σ *ℤ x) → ⊥
no_side σ x e h =
    let z : σ *ℤ x ≡ pos 0 = ap (λ (v : ℤ). σ *ℤ v) e ∙ ring (σ ∷ []) (var 0 ⊗ con (pos 0)) (con (pos 0)) refl in
    absurd (omega (arith, ints))

-- each half-space that is tight at more of the points, and has the further point on the same side, is covered so
abbrev MoreTight : {d : ℕ} → List (List ℤ) → ℕ → List (Generator d) → ℕ → ℤ → HalfSpace → Type 0
MoreTight {d} points set gs i σ h = (less : HalfSpace) → length less.normal ≡ d → OfSet points set (Holds less) → pos 0 <ℤ (σ *ℤ slack less (point_at points i))
    → count (loose points set less) (length points) < count (loose points set h) (length points) → Toward points set gs i σ less

-- a generator that covers the half-space is on its side, or is taken off it
toward_next : (d : ℕ) (points : List (List ℤ)) (set : ℕ) (gs : List (Generator d)) → Generate d points set gs → (i : ℕ) → i < length points → (σ : ℤ)
    → (h : HalfSpace)
    → length h.normal ≡ d → OfSet points set (Holds h) → pos 0 <ℤ (σ *ℤ slack h (point_at points i)) → MoreTight points set gs i σ h
    → Toward points set gs i σ h
toward_next d points set gs gen i inside σ h wide holds side again = by_side (above_or_not (σ *ℤ slack (half_of g) (point_at points i)))
  where
    a : Any (IsCoveredBy points set h) gs
    a = gen.enough h wide holds (λ t. no_side σ (slack h (point_at points i)) (gen.full h wide t i inside) side)

    g : Generator d
    g = a.1

    is_one : IsGenerator d points set g
    is_one = subst (IsGenerator d points set) a.3 (gen.each a.0 a.1 a.2)

    off : TakenOff points set h g
    off = taken_off d points set h g wide holds is_one a.4

    less : HalfSpace
    less = combined (pos off.times) h (pos off.off) (half_of g)

    still_loose : (j : ℕ) → j < length points → loose points set less j ≡ true → loose points set h j ≡ true
    still_loose j l e =
        let b = loose_member points set less j e in
        loose_there points set h j b (λ t. loose_not_tight points set less j e (off.keeps j l b t))

    less_side : (σ *ℤ slack (half_of g) (point_at points i)) ≤ℤ pos 0 → pos 0 <ℤ (σ *ℤ slack less (point_at points i))
    less_side s =
        subst (λ (v : ℤ). pos 0 <ℤ v)
        (sym (ap (λ (v : ℤ). σ *ℤ v) (off.slacks (point_at points i)) ∙ side_parts σ (pos off.times) (pos off.off) (slack h (point_at points i))
        (slack (half_of g) (point_at points i))))
        (positive off.times off.off (σ *ℤ slack h (point_at points i)) (σ *ℤ slack (half_of g) (point_at points i)) off.times_above side s)

    by_side : (pos 0 <ℤ (σ *ℤ slack (half_of g) (point_at points i))) ⊎ ((σ *ℤ slack (half_of g) (point_at points i)) ≤ℤ pos 0) → Toward points set gs i σ h
    by_side (inl s) = record { generator = g; there = (a.0, a.2, a.3); covers = a.4; side = s }
    by_side (inr s) =
        let t = again less off.wide off.holds (less_side s)
        (count-less (loose points set h) (loose points set less) off.place (loose_there points set h off.place off.member off.was_loose)
        (tight_not_loose points set less off.place off.tight) (length points) still_loose off.below) in
        record { generator = t.generator; there = t.there; covers = λ j l b e. t.covers j l b (off.keeps j l b e); side = t.side }

-- σ is 1 or -1, and tells the side
toward_by : (d : ℕ) (points : List (List ℤ)) (set : ℕ) (gs : List (Generator d)) → Generate d points set gs → (i : ℕ) → i < length points → (σ : ℤ)
    → (n : ℕ) → (h : HalfSpace)
    → length h.normal ≡ d → OfSet points set (Holds h) → pos 0 <ℤ (σ *ℤ slack h (point_at points i)) → count (loose points set h) (length points) ≤ n
    → Toward points set gs i σ h
toward_by d points set gs gen i inside σ zero h wide holds side few =
    toward_next d points set gs gen i inside σ h wide holds side (λ less w k s c. absurd (omega arith))
toward_by d points set gs gen i inside σ (suc n) h wide holds side few =
    toward_next d points set gs gen i inside σ h wide holds side (λ less w k s c. toward_by d points set gs gen i inside σ n less w k s (omega arith))

pub toward : (d : ℕ) (points : List (List ℤ)) (set : ℕ) (gs : List (Generator d)) → Generate d points set gs → (i : ℕ) → i < length points → (σ : ℤ)
    → (h : HalfSpace)
    → length h.normal ≡ d → OfSet points set (Holds h) → pos 0 <ℤ (σ *ℤ slack h (point_at points i)) → Toward points set gs i σ h
toward d points set gs gen i inside σ h wide holds side =
    toward_by d points set gs gen i inside σ (count (loose points set h) (length points)) h wide holds side (omega arith)

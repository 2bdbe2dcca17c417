-- What the test of the next generators tells.
use Rattle.std.specs.Prelude.{◌≡◌, ℕ, ◌+◌, ◌*◌, ◌%◌, ◌^◌, ◌<◌, true, ℤ, pos, ◌<ℤ◌, bit_and, bit_or, List, length, slice_index_or, All, Contains}
use Rattle.std.proofs.Common.{sym, ◌∙◌, subst, arith, inl, inr}
use Rattle.std.proofs.lemmas.Bool.Decides.{nat_tests}
use Rattle.std.proofs.lemmas.List.Folds.{Any-from_list_any}
use Rattle.hull_dd.specs.declared.generators.Generator.{Generator}
use Rattle.hull_dd.specs.Generators.{with_point, is_within, IsWithin, is_within_some}
use Rattle.hull_dd.specs.Steps.{slacks_at, IsWithinSome, AreMeetsWithin, AreWithin}
use Rattle.hull_dd.proofs.Staying.{slack_here}
use Rattle.lists.proofs.Contained.{any_default}
use Rattle.lists.proofs.Bits.{shifted_one}
use Rattle.std.proofs.lemmas.Bool.{cases_eq}

pub tested_within : (set other : ℕ) → is_within set other ≡ true → IsWithin set other
tested_within set other e = grind (arith, nat_tests)

pub within_some : (d : ℕ) (set : ℕ) (gs : List (Generator d)) → is_within_some set gs ≡ true → IsWithinSome set gs
within_some d set gs e =
    let a = Any-from_list_any (λ (g : Generator d). is_within set g.tight) gs e in
    (a.0, a.1, a.2, a.3, tested_within set a.1.tight a.4)

-- the set with a point, as the code sets its bit
pub within_with : (d : ℕ) (set i : ℕ) (gs : List (Generator d)) → i < 48 → is_within_some (bit_or set (1 * 2 ^ i % 2 ^ 64)) gs ≡ true
    → IsWithinSome (with_point set i) gs
within_with d set i gs few e =
    within_some d (with_point set i) gs (subst (λ (n : ℕ). is_within_some (bit_or set n) gs ≡ true) (shifted_one i (omega arith)) e)

-- ---- the meets of one set

abbrev pub MeetsBelow : {d : ℕ} → ℕ → ℕ → List (Generator d) → List ℤ → List (Generator d) → ℕ → Type 0
MeetsBelow {d} i set gs slacks next n =
    (k : ℕ) (e : Generator d) → k < n → slice_index_or slacks k (pos 0) <ℤ pos 0 → IsWithinSome (with_point (bit_and set (slice_index_or gs k e).tight) i) next

pub meets_more : (d i set : ℕ) (gs : List (Generator d)) (slacks : List ℤ) (next : List (Generator d)) (n : ℕ) (g : Generator d) → n < length gs
    → g ≡ slice_index_or gs n g
    → IsWithinSome (with_point (bit_and set g.tight) i) next → MeetsBelow i set gs slacks next n → MeetsBelow i set gs slacks next (n + 1)
meets_more d i set gs slacks next n g l s w h k e b p = elim (cases_eq k n) [
  | inl z ↦ subst (λ (j : ℕ). IsWithinSome (with_point (bit_and set (slice_index_or gs j e).tight) i) next) (sym z)
      (subst (λ (x : Generator d). IsWithinSome (with_point (bit_and set x.tight) i) next) (s ∙ any_default gs n g e l) w)
  | inr z ↦ h k e (omega arith) p
]

pub meets_same : (d i set : ℕ) (gs : List (Generator d)) (slacks : List ℤ) (next : List (Generator d)) (n : ℕ) → ¬ (slice_index_or slacks n (pos 0) <ℤ pos 0)
    → MeetsBelow i set gs slacks next n → MeetsBelow i set gs slacks next (n + 1)
meets_same d i set gs slacks next n not h k e b p = elim (cases_eq k n) [
  | inl z ↦ absurd (not (subst (λ (j : ℕ). slice_index_or slacks j (pos 0) <ℤ pos 0) z p))
  | inr z ↦ h k e (omega arith) p
]

pub meets_all : (d i set : ℕ) (x : List ℤ) (gs : List (Generator d)) (slacks : List ℤ) (next : List (Generator d)) → slacks ≡ slacks_at x gs
    → MeetsBelow i set gs slacks next (length gs) → AreMeetsWithin x i set gs next
meets_all d i set x gs slacks next e h g there p =
    subst (λ (y : Generator d). IsWithinSome (with_point (bit_and set y.tight) i) next) there.2
    (h there.0 g there.1 (subst (λ (v : ℤ). v <ℤ pos 0) (sym (slack_here d x gs slacks e there.0 g there.1 (sym there.2))) p))

-- ---- all sets

abbrev pub OnBelow : {d : ℕ} → ℕ → List (Generator d) → List ℤ → List (Generator d) → ℕ → Type 0
OnBelow {d} i gs slacks next n =
    (k : ℕ) (e : Generator d) → k < n → slice_index_or slacks k (pos 0) ≡ pos 0 → IsWithinSome (with_point (slice_index_or gs k e).tight i) next

abbrev pub PairsBelow : {d : ℕ} → ℕ → List (Generator d) → List ℤ → List (Generator d) → ℕ → Type 0
PairsBelow {d} i gs slacks next n =
    (k : ℕ) (e : Generator d) → k < n → pos 0 <ℤ slice_index_or slacks k (pos 0) → (x : List ℤ) → slacks ≡ slacks_at x gs → AreMeetsWithin x i
    (slice_index_or gs k e).tight gs next

-- one place more, which has what is wanted where its slack is zero, or above
pub on_more : (d i : ℕ) (gs : List (Generator d)) (slacks : List ℤ) (next : List (Generator d)) (n : ℕ) (g : Generator d) → n < length gs
    → g ≡ slice_index_or gs n g
    → (slice_index_or slacks n (pos 0) ≡ pos 0 → IsWithinSome (with_point g.tight i) next) → OnBelow i gs slacks next n → OnBelow i gs slacks next (n + 1)
on_more d i gs slacks next n g l s w h k e b p = elim (cases_eq k n) [
  | inl z ↦ subst (λ (j : ℕ). IsWithinSome (with_point (slice_index_or gs j e).tight i) next) (sym z)
      (subst (λ (x : Generator d). IsWithinSome (with_point x.tight i) next) (s ∙ any_default gs n g e l)
      (w (subst (λ (j : ℕ). slice_index_or slacks j (pos 0) ≡ pos 0) z p)))
  | inr z ↦ h k e (omega arith) p
]

pub pairs_more : (d i : ℕ) (gs : List (Generator d)) (slacks : List ℤ) (next : List (Generator d)) (n : ℕ) (g : Generator d) → n < length gs
    → g ≡ slice_index_or gs n g
    → (pos 0 <ℤ slice_index_or slacks n (pos 0) → (x : List ℤ) → slacks ≡ slacks_at x gs → AreMeetsWithin x i g.tight gs next)
    → PairsBelow i gs slacks next n → PairsBelow i gs slacks next (n + 1)
pairs_more d i gs slacks next n g l s w h k e b p x q = elim (cases_eq k n) [
  | inl z ↦ subst (λ (j : ℕ). AreMeetsWithin x i (slice_index_or gs j e).tight gs next) (sym z)
      (subst (λ (y : Generator d). AreMeetsWithin x i y.tight gs next) (s ∙ any_default gs n g e l)
      (w (subst (λ (j : ℕ). pos 0 <ℤ slice_index_or slacks j (pos 0)) z p) x q))
  | inr z ↦ h k e (omega arith) p x q
]

pub all_within : (d i : ℕ) (x : List ℤ) (gs : List (Generator d)) (slacks : List ℤ) (next : List (Generator d)) → slacks ≡ slacks_at x gs
    → OnBelow i gs slacks next (length gs) → PairsBelow i gs slacks next (length gs) → AreWithin x i gs next
all_within d i x gs slacks next e on pairs = record {
  on = λ g there z. subst (λ (y : Generator d). IsWithinSome (with_point y.tight i) next) there.2
      (on there.0 g there.1 (slack_here d x gs slacks e there.0 g there.1 (sym there.2) ∙ z));
  meets = λ g there p. subst (λ (y : Generator d). AreMeetsWithin x i y.tight gs next) there.2
      (pairs there.0 g there.1 (subst (λ (v : ℤ). pos 0 <ℤ v) (sym (slack_here d x gs slacks e there.0 g there.1 (sym there.2))) p) x e);
}

-- what lies within some set lies within it as more is added
pub WithinSome-more : (d set : ℕ) (next more : List (Generator d)) → All (Contains more) next → IsWithinSome set next → IsWithinSome set more
WithinSome-more d set next more kept w =
    let c : Contains more w.1 = subst (Contains more) w.3 (kept w.0 w.1 w.2) in
    (c.0, w.1, c.1, c.2, w.4)

pub AreWithin-more : (d i : ℕ) (x : List ℤ) (gs next more : List (Generator d)) → All (Contains more) next → AreWithin x i gs next → AreWithin x i gs more
AreWithin-more d i x gs next more kept h = record {
  on = λ g there z. WithinSome-more d (with_point g.tight i) next more kept (h.on g there z);
  meets = λ g there p o other q. WithinSome-more d (with_point (bit_and g.tight o.tight) i) next more kept (h.meets g there p o other q);
}

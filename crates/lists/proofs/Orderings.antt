-- Lists in a strict order: what is said of their members fixes them.
use Rattle.std.proofs.Common.{ap, arith, inl, inr, refl, subst, sym, ◌∙◌}
use Rattle.std.proofs.lemmas.Bool.{false≢true, or_cases, or_left, or_right, and_parts}
use Rattle.std.specs.List.{AllAdjacentBelow}
use Rattle.std.specs.Prelude.{Contains, IsTrue, List, [], length, nat_lt, slice_index_or, suc, true, zero, ℕ, ◌&&◌, ◌<◌, ◌==◌, ◌↔◌, ◌∷◌, ◌≡◌, ◌⊎◌}
use Rattle.std.specs.Prelude.{Bool, false, ◌||◌, cond}
use Rattle.lists.proofs.Contained.{Contains-head, Contains-tail, Contains-split, Contains-at, none_contained}
use Rattle.lists.proofs.Tests.{lt_of, of_lt, equal_of, of_equal, next_place}
use Rattle.lists.specs.Bits.{set_number}
use Rattle.lists.specs.Members.{IsStrict, AscendsBy}
use Rattle.lists.specs.Orders.{comes_before}
use Rattle.std.specs.Cmp.Lexicographic.{slice_cmp}
use Rattle.std.specs.declared.cmp.Ordering.TheVariants.{Less, Equal, Greater}
use Rattle.std.specs.Ordering.{nat_cmp, ordering_then}
use Rattle.std.specs.List.Sorted.{IsStrictlySortedBy}
use Rattle.std.proofs.lemmas.List.Elements.{All-from_recursion, All-contains}

pub ascends_by_steps : {X : Type 0} (R : X → X → Type 0) (xs : List X) → AscendsBy R xs → AllAdjacentBelow R xs (length xs)
ascends_by_steps R [] a k d h = absurd (omega (arith, h))
ascends_by_steps R (x ∷ xs) a zero d h = a.0 _ (Contains-at xs 0 d (omega (arith, h)))
ascends_by_steps R (x ∷ xs) a (suc k) d h =
    subst (λ (n : ℕ). R (slice_index_or xs k d) (slice_index_or (x ∷ xs) n d)) (next_place k) (ascends_by_steps R xs a.1 k d (omega (arith, h)))

-- what stands before the first stands before all
pub before_all : {X : Type 0} (R : X → X → Type 0) → IsStrict R → (x y : X) (ys : List X) → R x y → AscendsBy R (y ∷ ys) → (z : X) → Contains (y ∷ ys) z → R x z
before_all R strict x y ys b a z c = elim (Contains-split z y ys c) as (λ _. R x z) [
  | inl e ↦ subst (λ w. R x w) e b
  | inr m ↦ strict.transitive x y z b (a.0 z m)
]

pub steps_tail : {X : Type 0} (R : X → X → Type 0) (x : X) (xs : List X) → AllAdjacentBelow R (x ∷ xs) (length (x ∷ xs)) → AllAdjacentBelow R xs (length xs)
steps_tail R x xs a = λ k d h. subst (λ (n : ℕ). R (slice_index_or xs k d) (slice_index_or (x ∷ xs) n d)) (sym (next_place k)) (a (suc k) d (omega (arith, h)))

pub steps_ascend_by : {X : Type 0} (R : X → X → Type 0) → IsStrict R → (xs : List X) → AllAdjacentBelow R xs (length xs) → AscendsBy R xs
steps_ascend_by R strict [] a = tt
steps_ascend_by R strict (x ∷ []) a = (λ y c. absurd (none_contained y c), tt)
steps_ascend_by R strict (x ∷ y ∷ ys) a =
    let more = steps_ascend_by R strict (y ∷ ys) (steps_tail R x (y ∷ ys) a) in
    (before_all R strict x y ys (a 0 x (omega arith)) more, more)

pub same_heads : {X : Type 0} (R : X → X → Type 0) → IsStrict R → (x y : X) (xs ys : List X) → AscendsBy R (x ∷ xs) → AscendsBy R (y ∷ ys)
    → Contains (y ∷ ys) x → Contains (x ∷ xs) y → x ≡ y
same_heads R strict x y xs ys a b cx cy = elim (Contains-split x y ys cx) as (λ _. x ≡ y) [
  | inl e ↦ sym e
  | inr m ↦ elim (Contains-split y x xs cy) as (λ _. x ≡ y) [
    | inl e ↦ e
    | inr n ↦ absurd (strict.irreflexive x (strict.transitive x y x (a.0 y n) (b.0 x m)))
  ]
]

pub rest_in : {X : Type 0} (R : X → X → Type 0) → IsStrict R → (x y : X) (xs ys : List X) → AscendsBy R (x ∷ xs) → x ≡ y → (z : X) → Contains xs z
    → Contains (y ∷ ys) z → Contains ys z
rest_in R strict x y xs ys a e z c d = elim (Contains-split z y ys d) as (λ _. Contains ys z) [
  | inl f ↦ absurd (strict.irreflexive x (a.0 x (subst (λ w. Contains xs w) (sym (e ∙ f)) c)))
  | inr m ↦ m
]

pub ascends_same : {X : Type 0} (R : X → X → Type 0) → IsStrict R → (xs ys : List X) → AscendsBy R xs → AscendsBy R ys
    → ((z : X) → Contains xs z ↔ Contains ys z) → xs ≡ ys
ascends_same R strict [] [] a b same = refl
ascends_same R strict [] (y ∷ ys) a b same = absurd (none_contained y ((same y).1 (Contains-head y ys)))
ascends_same R strict (x ∷ xs) [] a b same = absurd (none_contained x ((same x).0 (Contains-head x xs)))
ascends_same {X} R strict (x ∷ xs) (y ∷ ys) a b same =
    let e = same_heads R strict x y xs ys a b ((same x).0 (Contains-head x xs)) ((same y).1 (Contains-head y ys)) in
    let r = ascends_same R strict xs ys a.1 b.1 (λ z. (
      λ c. rest_in R strict x y xs ys a e z c ((same z).0 (Contains-tail z x xs c)),
      λ c. rest_in R strict y x ys xs b (sym e) z c ((same z).1 (Contains-tail z y ys c)),
    )) in
    cc

-- two lists that ascend by a strict order and have the members of which P holds are the same
pub fixed_by : {X : Type 0} (R : X → X → Type 0) (P : X → Type 0) → IsStrict R → (xs ys : List X) → AllAdjacentBelow R xs (length xs)
    → AllAdjacentBelow R ys (length ys)
    → ((z : X) → Contains xs z ↔ P z) → ((z : X) → Contains ys z ↔ P z) → xs ≡ ys
fixed_by R P strict xs ys a b p q =
    ascends_same R strict xs ys (steps_ascend_by R strict xs a) (steps_ascend_by R strict ys b) (λ z. (λ c. (q z).1 ((p z).0 c), λ c. (p z).1 ((q z).0 c)))

abbrev pub Sooner : ℕ → List ℕ → ℕ → List ℕ → Type 0
Sooner x p y q = (x < y) ⊎ ((x ≡ y) × (comes_before p q ≡ true))

pub sooner_of : (x : ℕ) (p : List ℕ) (y : ℕ) (q : List ℕ) → comes_before (x ∷ p) (y ∷ q) ≡ true → Sooner x p y q
sooner_of x p y q e = elim (or_cases (nat_lt x y) (x == y && comes_before p q) e) as (λ _. Sooner x p y q) [
  | inl less ↦ inl (lt_of x y less)
  | inr same ↦ inr (equal_of x y (and_parts (x == y) (comes_before p q) same).0, (and_parts (x == y) (comes_before p q) same).1)
]

pub of_sooner : (x : ℕ) (p : List ℕ) (y : ℕ) (q : List ℕ) → Sooner x p y q → comes_before (x ∷ p) (y ∷ q) ≡ true
of_sooner x p y q (inl less) = or_left (nat_lt x y) (x == y && comes_before p q) (of_lt x y less)
of_sooner x p y q (inr same) = or_right (nat_lt x y) (x == y && comes_before p q) (ap (λ b. b && comes_before p q) (of_equal x y same.0) ∙ same.1)

pub further : (x : ℕ) (p : List ℕ) (y : ℕ) (q : List ℕ) (z : ℕ) (r : List ℕ) → (comes_before p q ≡ true → comes_before q r ≡ true → comes_before p r ≡ true)
    → Sooner x p y q → Sooner y q z r → Sooner x p z r
further x p y q z r trans (inl l) (inl m) = inl (omega (arith, l, m))
further x p y q z r trans (inl l) (inr m) = inl (omega (arith, l, m.0))
further x p y q z r trans (inr l) (inl m) = inl (omega (arith, l.0, m))
further x p y q z r trans (inr l) (inr m) = inr (l.0 ∙ m.0, trans l.1 m.1)

pub before_trans : (p q r : List ℕ) → comes_before p q ≡ true → comes_before q r ≡ true → comes_before p r ≡ true
before_trans [] q r a b = absurd (false≢true a)
before_trans (x ∷ p) [] r a b = absurd (false≢true a)
before_trans (x ∷ p) (y ∷ q) [] a b = absurd (false≢true b)
before_trans (x ∷ p) (y ∷ q) (z ∷ r) a b = of_sooner x p z r (further x p y q z r (before_trans p q r) (sooner_of x p y q a) (sooner_of y q z r b))

pub before_itself : (p : List ℕ) → comes_before p p ≡ true → ⊥
before_itself [] a = false≢true a
before_itself (x ∷ p) a = elim (sooner_of x p x p a) as (λ _. ⊥) [
  | inl less ↦ omega (arith, less)
  | inr same ↦ before_itself p same.1
]

pub tuples_strict : IsStrict (λ (v w : List ℕ). IsTrue (comes_before v w))
tuples_strict = record { irreflexive = before_itself; transitive = before_trans }

pub sets_strict : IsStrict (λ (a b : List ℕ). set_number a < set_number b)
sets_strict = record { irreflexive = λ x h. omega (arith, h); transitive = λ x y z h k. omega (arith, h, k) }

pub before_from_less : (x y : List ℕ) → length x ≡ length y → slice_cmp nat_cmp x y ≡ Less → comes_before x y ≡ true
before_from_less [] [] l e = absurd (cc)
before_from_less [] (b ∷ y) l e = absurd (omega arith)
before_from_less (a ∷ x) [] l e = absurd (omega arith)
before_from_less (a ∷ x) (b ∷ y) l e = by_tests (nat_lt a b) (a == b) (λ f. before_from_less x y (omega arith) f) e
  where
    by_tests : (p q : Bool) → (slice_cmp nat_cmp x y ≡ Less → comes_before x y ≡ true)
        → ordering_then (cond p Less (cond q Equal Greater)) (slice_cmp nat_cmp x y) ≡ Less
        → (p || (q && comes_before x y)) ≡ true
    by_tests true q behind f = refl
    by_tests false true behind f = behind f
    by_tests false false behind f = absurd (cc)

pub ascends_from : (d : ℕ) (xs : List (List ℕ)) → ((x : List ℕ) → Contains xs x → length x ≡ d) → IsStrictlySortedBy (slice_cmp nat_cmp) xs
    → AscendsBy (λ (v w : List ℕ). IsTrue (comes_before v w)) xs
unfolding IsStrictlySortedBy
ascends_from d [] wide s = tt
ascends_from d (x ∷ xs) wide s = (
  λ y c. before_from_less x y (wide x (Contains-head x xs) ∙ sym (wide y (Contains-tail y x xs c)))
      (All-contains (λ (z : List ℕ). slice_cmp nat_cmp x z ≡ Less) xs y (All-from_recursion (λ (z : List ℕ). slice_cmp nat_cmp x z ≡ Less) xs s.0) c),
  ascends_from d xs (λ y c. wide y (Contains-tail y x xs c)) s.1,
)

-- Tests, and numbers that are compared by tests.
use Rattle.std.proofs.Common.{Bool, arith, false, inl, inr, not, refl, sym, true, ℕ, ◌&&◌, ◌<◌, ◌==◌, ◌||◌, ◌∙◌, ◌≡◌, ◌*◌, ◌≤◌}
use Rattle.std.proofs.lemmas.Bool.{cases_eq, eq-eqb, ne_eqb, false≢true}
use Rattle.std.proofs.lemmas.Bool.Decides.{nat_tests}
use Rattle.std.specs.Bool.{Decides}
use Rattle.std.specs.Prelude.{if◌then◌else◌, nat_eq, nat_lt, ◌≢◌, suc, ◌+◌}
use Rattle.std.proofs.Math.Nat.{mul-le-mul_left}

pub same_tests : (a b : Bool) → (a ≡ true → b ≡ true) → (b ≡ true → a ≡ true) → a ≡ b
same_tests true b f g = sym (f refl)
same_tests false true f g = g refl
same_tests false false f g = refl

pub or_false : (b : Bool) → (b || false) ≡ b
or_false true = refl
or_false false = refl

-- a length that is not 0
pub not_empty : (n : ℕ) (empty : Bool) → empty ≡ (n == 0) → empty ≡ false → 0 < n
not_empty n empty e f = grind (arith, nat_tests)

pub and_true : (a : Bool) → (a && true) ≡ a
and_true true = refl
and_true false = refl

pub and_left : (a b : Bool) → (a && b) ≡ true → a ≡ true
and_left true b h = refl
and_left false b h = h

pub and_right : (a b : Bool) → (a && b) ≡ true → b ≡ true
and_right true b h = h
and_right false b h = absurd (cc)

-- a test that is not passed, or else
pub not_or : (a b : Bool) → (not a || b) ≡ true → a ≡ true → b ≡ true
not_or true b h e = h
not_or false b h e = cc

pub not_refused : (a : Bool) → not a ≡ true → a ≡ true → ⊥
not_refused true h e = cc
not_refused false h e = cc

pub not_or_from : (bip any : Bool) → (bip ≡ true → any ≡ true) → (not bip || any) ≡ true
not_or_from true any f = f refl
not_or_from false any f = refl

pub same_if : (a b : Bool) → a ≡ b → (if a then b else not b) ≡ true
same_if true true e = refl
same_if true false e = cc
same_if false true e = cc
same_if false false e = refl

pub Decides-both : (P Q : Type 0) (a b : Bool) → Decides a P → Decides b Q → Decides (a && b) (P × Q)
Decides-both P Q true b p q = (λ e. (p.0 refl, q.0 e), λ h. q.1 h.1)
Decides-both P Q false b p q = (λ e. absurd (cc), λ h. p.1 h.0)

-- a test that passes at once, or else another
pub Decides-unless : (P Q : Type 0) (a b : Bool) → Decides a P → Decides b Q → Decides (a || b) (¬ P → Q)
Decides-unless P Q true b p q = (λ e n. absurd (n (p.0 refl)), λ h. refl)
Decides-unless P Q false b p q = (λ e n. q.0 e, λ h. q.1 (h (λ x. absurd (let no : false ≡ true = p.1 x in cc))))

pub lt_of : (a b : ℕ) → nat_lt a b ≡ true → a < b
lt_of a b e = grind (arith, nat_tests)

pub of_lt : (a b : ℕ) → a < b → nat_lt a b ≡ true
of_lt a b h = grind (arith, nat_tests)

pub equal_of : (a b : ℕ) → (a == b) ≡ true → a ≡ b
equal_of a b e = grind (arith, nat_tests)

pub of_equal : (a b : ℕ) → a ≡ b → (a == b) ≡ true
of_equal a b e = grind (arith, nat_tests)

pub differ_test : (x e : ℕ) → not (x == e) ≡ true → x ≢ e
differ_test x e t s = absurd (let no_way : not (x == e) ≡ false = grind (arith, nat_tests) in cc)

pub test_differ : (a b : ℕ) → a ≢ b → not (a == b) ≡ true
test_differ a b n = by_test (a == b) refl
  where
    by_test : (t : Bool) → (a == b) ≡ t → not t ≡ true
    by_test true e = absurd (n (equal_of a b e))
    by_test false e = refl

pub same_number : (x y : ℕ) → nat_eq x y ≡ true → y ≡ x
same_number x y e = grind (arith, nat_tests)

pub nat_eq-sym : (x y : ℕ) → nat_eq x y ≡ nat_eq y x
nat_eq-sym x y = elim (cases_eq x y) [
  | inl h ↦ eq-eqb x y h ∙ sym (eq-eqb y x (sym h))
  | inr h ↦ ne_eqb x y h ∙ sym (ne_eqb y x (λ e. h (sym e)))
]

pub equal_self : (x : ℕ) → nat_eq x x ≡ true
equal_self x = grind (arith, nat_tests)

pub next_place : (k : ℕ) → suc (k + 1) ≡ suc k + 1
next_place k = omega arith

pub next_below : (x n m p : ℕ) → x < n → m < p → x + n * m < n * p
next_below x n m p h k = let more : n * (m + 1) ≤ n * p = mul-le-mul_left n (omega (arith, k)) in omega (arith, more, h)

-- both choices are corners
pub chosen_below : (n a b : ℕ) (t : Bool) → a < n → b < n → (if t then a else b) < n
chosen_below n a b true p q = p
chosen_below n a b false p q = q

-- a number is not below one that it reaches
pub not_below : (k p : ℕ) → p ≤ k → nat_lt k p ≡ false
not_below k p h = same_tests (nat_lt k p) false (λ e. let lt = lt_of k p e in absurd (omega arith)) (λ e. absurd (false≢true e))

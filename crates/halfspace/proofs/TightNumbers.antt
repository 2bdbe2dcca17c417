-- Sets of numbers, and the numbers that have a bit for each member.
use Rattle.std.specs.Prelude.{◌⊎◌, ◌||◌, nat_eq}
use Rattle.std.proofs.Common.{inl, inr}
use Rattle.std.specs.Prelude.{◌≡◌, ◌≢◌, ℕ, zero, suc, ◌+◌, ◌*◌, ◌%◌, ◌^◌, ◌<◌, ◌≤◌, ℤ, Bool, true, false, cond, List, [], ◌∷◌, ◌++◌}
use Rattle.std.specs.Prelude.{filter, bit_or, bit_and}
use Rattle.std.specs.List.{range_with_len}
use Rattle.std.specs.Int.Bits.{or_add_and}
use Rattle.std.proofs.Common.{inl, inr, refl, sym, ap, ◌∙◌, subst, arith}
use Rattle.std.proofs.lemmas.Bool.{false≢true}
use Rattle.std.proofs.lemmas.Bool.Decides.{nat_tests}
use Rattle.std.proofs.lemmas.List.Elements.{filter-append}
use Rattle.std.proofs.lemmas.List.Sums.{sum_by-append}
use Rattle.std.proofs.lemmas.Nat.Bits.{and_pow, bit_at_above}
use Rattle.lists.specs.Orders.{numbers, has}
use Rattle.iso_model.specs.Turns.{same_int}
use Rattle.lists.specs.Bits.{set_number}
use Rattle.lists.proofs.Bits.{shifted_one}
use Rattle.iso_model.proofs.PointLaws.{same_int-is}
use Rattle.lists.proofs.Powers.{range_push}

-- ---- the test of equality

pub same_int-false : (a b : ℤ) → a ≢ b → same_int a b ≡ false
same_int-false a b n = by_test (same_int a b) refl
  where
    by_test : (t : Bool) → same_int a b ≡ t → t ≡ false
    by_test true e = absurd (n (same_int-is a b e))
    by_test false e = refl

-- ---- the numbers below n, one more

pub numbers_more : (n : ℕ) → numbers (n + 1) ≡ numbers n ++ (n ∷ [])
numbers_more n =
    let e : n + 1 ≡ suc n = omega arith in
    let z : 0 + n ≡ n = omega arith in
    ap numbers e ∙ range_push 0 n ∙ ap (λ (k : ℕ). numbers n ++ (k ∷ [])) z

pub filter_numbers_more : (p : ℕ → Bool) (n : ℕ) → filter p (numbers (n + 1)) ≡ filter p (numbers n) ++ cond (p n) (n ∷ []) []
filter_numbers_more p n = ap (filter p) (numbers_more n) ∙ filter-append p (numbers n) (n ∷ [])

-- ---- the number of a set that is tested for

-- 2 ^ n, or 0
abbrev pub part : Bool → ℕ → ℕ
part b n = cond b (2 ^ n) 0

pub set_number-more : (p : ℕ → Bool) (n : ℕ) → set_number (filter p (numbers (n + 1))) ≡ set_number (filter p (numbers n)) + part (p n) n
set_number-more p n =
    ap set_number (filter_numbers_more p n) ∙ sum_by-append (λ i. 2 ^ i) (filter p (numbers n)) (cond (p n) (n ∷ []) [])
    ∙ ap (λ (k : ℕ). set_number (filter p (numbers n)) + k) (last (p n))
  where
    last : (b : Bool) → set_number (cond b (n ∷ []) []) ≡ part b n
    last true = omega arith
    last false = refl

power_more : (n : ℕ) → 2 ^ suc n ≡ 2 ^ n + 2 ^ n
power_more n = omega arith

pub set_number-below : (p : ℕ → Bool) (n : ℕ) → set_number (filter p (numbers n)) < 2 ^ n
set_number-below p zero = omega arith
set_number-below p (suc n) =
    let e : suc n ≡ n + 1 = omega arith in
    let m = ap (λ (k : ℕ). set_number (filter p (numbers k))) e ∙ set_number-more p n in
    let h = set_number-below p n in
    let q : part (p n) n ≤ 2 ^ n = below (p n) in
    omega (arith, power_more n)
  where
    below : (b : Bool) → part b n ≤ 2 ^ n
    below true = omega arith
    below false = omega arith

-- a bit above all others is added
pub or_above : (a k : ℕ) → a < 2 ^ k → bit_or a (2 ^ k) ≡ a + 2 ^ k
or_above a k h =
    let z : bit_and a (2 ^ k) ≡ 0 = and_pow a k ∙ ap (λ (b : ℕ). b * 2 ^ k) (bit_at_above a k k h (omega arith)) ∙ omega arith in
    omega (arith, or_add_and a (2 ^ k))

-- ---- one step of a loop that sets the bits of a set

pub number_with : (p : ℕ → Bool) (i set : ℕ) → i < 64 → set ≡ set_number (filter p (numbers i)) → p i ≡ true
    → bit_or set (1 * 2 ^ i % 2 ^ 64) ≡ set_number (filter p (numbers (i + 1)))
number_with p i set few e t =
    let small : set < 2 ^ i = subst (λ (k : ℕ). k < 2 ^ i) (sym e) (set_number-below p i) in
    let one : 1 * 2 ^ i % 2 ^ 64 ≡ 2 ^ i = shifted_one i few in
    ap (bit_or set) one ∙ or_above set i small ∙ ap (λ (k : ℕ). k + 2 ^ i) e
    ∙ ap (λ (b : Bool). set_number (filter p (numbers i)) + part b i) (sym t) ∙ sym (set_number-more p i)

pub number_without : (p : ℕ → Bool) (i set : ℕ) → set ≡ set_number (filter p (numbers i)) → p i ≡ false → set ≡ set_number (filter p (numbers (i + 1)))
number_without p i set e t =
    e ∙ sym (set_number-more p i ∙ ap (λ (b : Bool). set_number (filter p (numbers i)) + part b i) t ∙ omega arith)

-- ---- members of a set that is tested for

pub eq_or_below : (i n : ℕ) → i ≤ n → (i ≡ n) ⊎ (i < n)
eq_or_below i n h = by_test (nat_eq i n) refl
  where
    by_test : (b : Bool) → nat_eq i n ≡ b → (i ≡ n) ⊎ (i < n)
    by_test true e = inl (grind (arith, nat_tests))
    by_test false e = inr (grind (arith, nat_tests))

has_here : (i x : ℕ) (xs : List ℕ) → has (x ∷ xs) i ≡ true → (i ≡ x) ⊎ (has xs i ≡ true)
has_here i x xs h = by_test (nat_eq i x) refl h
  where
    by_test : (b : Bool) → nat_eq i x ≡ b → (b || has xs i) ≡ true → (i ≡ x) ⊎ (has xs i ≡ true)
    by_test true e k = inl (grind (arith, nat_tests))
    by_test false e k = inr k

has_there : (i x : ℕ) (xs : List ℕ) → has xs i ≡ true → has (x ∷ xs) i ≡ true
has_there i x xs h = elim (nat_eq i x) as (λ b. (b || has xs i) ≡ true) [ true ↦ refl | false ↦ h ]

has_first : (i : ℕ) (xs : List ℕ) → has (i ∷ xs) i ≡ true
has_first i xs = let e : nat_eq i i ≡ true = grind (arith, nat_tests) in ap (λ (b : Bool). b || has xs i) e

has_append : (i : ℕ) (xs ys : List ℕ) → has (xs ++ ys) i ≡ true → (has xs i ≡ true) ⊎ (has ys i ≡ true)
has_append i [] ys h = inr h
has_append i (x ∷ xs) ys h =
    elim (has_here i x (xs ++ ys) h) [
      | inl e ↦ inl (subst (λ (k : ℕ). has (x ∷ xs) k ≡ true) (sym e) (has_first x xs))
      | inr k ↦ elim (has_append i xs ys k) [ inl a ↦ inl (has_there i x xs a) | inr b ↦ inr b ]
    ]

has_append_left : (i : ℕ) (xs ys : List ℕ) → has xs i ≡ true → has (xs ++ ys) i ≡ true
has_append_left i [] ys h = absurd (false≢true h)
has_append_left i (x ∷ xs) ys h =
    elim (has_here i x xs h) [
      | inl e ↦ subst (λ (k : ℕ). has (x ∷ (xs ++ ys)) k ≡ true) (sym e) (has_first x (xs ++ ys))
      | inr k ↦ has_there i x (xs ++ ys) (has_append_left i xs ys k)
    ]

has_append_right : (i : ℕ) (xs ys : List ℕ) → has ys i ≡ true → has (xs ++ ys) i ≡ true
has_append_right i [] ys h = h
has_append_right i (x ∷ xs) ys h = has_there i x (xs ++ ys) (has_append_right i xs ys h)

-- a member is below n, and passes the test
pub record Passes (p : ℕ → Bool) (n i : ℕ) : Type 0 where
  pub below : i < n
  pub passes : p i ≡ true

pub has_passes : (p : ℕ → Bool) (n i : ℕ) → has (filter p (numbers n)) i ≡ true → Passes p n i
has_passes p zero i h = absurd (false≢true h)
has_passes p (suc n) i h =
    let e : suc n ≡ n + 1 = omega arith in
    let k = subst (λ (xs : List ℕ). has xs i ≡ true) (ap (λ (m : ℕ). filter p (numbers m)) e ∙ filter_numbers_more p n) h in
    elim (has_append i (filter p (numbers n)) (cond (p n) (n ∷ []) []) k) [
      | inl a ↦ (let r = has_passes p n i a in record { below = let b = r.below in omega arith; passes = r.passes })
      | inr b ↦ last (p n) refl b
    ]
  where
    last : (b : Bool) → p n ≡ b → has (cond b (n ∷ []) []) i ≡ true → Passes p (suc n) i
    last true e h = elim (has_here i n [] h) [
      | inl s ↦ record { below = omega arith; passes = subst (λ (k : ℕ). p k ≡ true) (sym s) e }
      | inr k ↦ absurd (false≢true k)
    ]
    last false e h = absurd (false≢true h)

pub has_below : (p : ℕ → Bool) (n i : ℕ) → has (filter p (numbers n)) i ≡ true → i < n
has_below p n i h = (has_passes p n i h).below

pub has_test : (p : ℕ → Bool) (n i : ℕ) → has (filter p (numbers n)) i ≡ true → p i ≡ true
has_test p n i h = (has_passes p n i h).passes

pub has_passing : (p : ℕ → Bool) (n i : ℕ) → i < n → p i ≡ true → has (filter p (numbers n)) i ≡ true
has_passing p zero i b t = absurd (omega arith)
has_passing p (suc n) i b t =
    let e : suc n ≡ n + 1 = omega arith in
    subst (λ (xs : List ℕ). has xs i ≡ true) (sym (ap (λ (m : ℕ). filter p (numbers m)) e ∙ filter_numbers_more p n))
    (by_place (λ k. has_passing p n i k t) (eq_or_below i n (omega arith)))
  where
    by_place : (i < n → has (filter p (numbers n)) i ≡ true) → (i ≡ n) ⊎ (i < n) → has (filter p (numbers n) ++ cond (p n) (n ∷ []) []) i ≡ true
    by_place behind (inl s) = has_append_right i (filter p (numbers n)) (cond (p n) (n ∷ []) [])
        (subst (λ (c : Bool). has (cond c (n ∷ []) []) i ≡ true) (sym (subst (λ (k : ℕ). p k ≡ true) s t))
        (subst (λ (k : ℕ). has (k ∷ []) i ≡ true) s (has_first i [])))
    by_place behind (inr k) = has_append_left i (filter p (numbers n)) (cond (p n) (n ∷ []) []) (behind k)

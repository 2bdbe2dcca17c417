-- Sums of different powers of two, and their bits.
use Rattle.std.proofs.Common.{Bool, List, [], add-one, add-zero, ap, arith, false, inl, inr, refl, subst, suc, sym, true, zero, ℕ, ◌*◌, ◌++◌, ◌+◌}
use Rattle.std.proofs.Common.{◌-◌, ◌<◌, ◌^◌, ◌∙◌, ◌∷◌, ◌≡◌}
use Rattle.std.proofs.lemmas.Bool.{cases_lt}
use Rattle.std.proofs.lemmas.List.Sums.{sum_by_push}
use Rattle.std.proofs.lemmas.Nat.Bits.{bit_at_cat_high, bit_at_cat_low}
use Rattle.std.specs.Int.{bit_at}
use Rattle.std.specs.List.{range_with_len}
use Rattle.std.specs.Prelude.{if◌then◌else◌, sum_by}
use Rattle.lists.proofs.Bits.{twice_power}
use Rattle.lists.specs.Orders.{numbers}

pub range_push : (a n : ℕ) → range_with_len a (suc n) ≡ range_with_len a n ++ (a + n) ∷ []
range_push a zero = rw add-zero refl
range_push a (suc n) =
    let same : (a + 1) + n ≡ a + suc n = omega arith in
    ap (λ (xs : List ℕ). a ∷ xs) (range_push (a + 1) n ∙ ap (λ (m : ℕ). range_with_len (a + 1) n ++ m ∷ []) same)

pub sum_suc : (f : ℕ → ℕ) (a n : ℕ) → sum_by f (range_with_len a (suc n)) ≡ sum_by f (range_with_len a n) + f (a + n)
sum_suc f a n = ap (sum_by f) (range_push a n) ∙ sum_by_push f (range_with_len a n) (a + n)

-- the sum of the powers of the numbers below n that pass
abbrev pub powers_below : (ℕ → Bool) → ℕ → ℕ
powers_below F n = sum_by (λ k. if F k then 2 ^ k else 0) (numbers n)

pub powers_more : (F : ℕ → Bool) (n : ℕ) → powers_below F (n + 1) ≡ powers_below F n + (if F n then 2 ^ n else 0)
powers_more F n =
    let same : 0 + n ≡ n = omega arith in
    rw add-one (sum_suc (λ k. if F k then 2 ^ k else 0) 0 n ∙ ap (λ (k : ℕ). powers_below F n + (if F k then 2 ^ k else 0)) same)

pub powers_few : (F : ℕ → Bool) (n : ℕ) → powers_below F n < 2 ^ n
powers_few F zero = omega arith
powers_few F (suc n) =
    let step = powers_more F n in
    let twice = twice_power n in
    let before = powers_few F n in
    subst (λ (k : ℕ). powers_below F k < 2 ^ k) (one_more n) (bounded (F n) (powers_below F (n + 1)) step twice before)
  where
    one_more : (m : ℕ) → m + 1 ≡ suc m
    one_more m = omega arith

    bounded : (b : Bool) (s : ℕ) → s ≡ powers_below F n + (if b then 2 ^ n else 0) → 2 ^ (n + 1) ≡ 2 * 2 ^ n → powers_below F n < 2 ^ n → s < 2 ^ (n + 1)
    bounded true s e t p = omega (arith, e, t, p)
    bounded false s e t p = omega (arith, e, t, p)

pub as_product : (b : Bool) (n s : ℕ) → s + (if b then 2 ^ n else 0) ≡ (if b then 1 else 0) * 2 ^ n + s
as_product true n s = omega arith
as_product false n s = omega arith

pub one_bit : (b : Bool) → bit_at (if b then 1 else 0) 0 ≡ (if b then 1 else 0)
one_bit true = refl
one_bit false = refl

-- bit i says whether i passes
pub powers_bits : (F : ℕ → Bool) (n i : ℕ) → i < n → bit_at (powers_below F n) i ≡ (if F i then 1 else 0)
powers_bits F zero i h = absurd (omega (arith, h))
powers_bits F (suc n) i h =
    let whole : powers_below F (suc n) ≡ (if F n then 1 else 0) * 2 ^ n + powers_below F n =
    ap (powers_below F) (one_more n) ∙ powers_more F n ∙ as_product (F n) n (powers_below F n) in
    rw whole (elim (cases_lt i n) as (λ _. bit_at ((if F n then 1 else 0) * 2 ^ n + powers_below F n) i ≡ (if F i then 1 else 0)) [
      | inl below ↦ bit_at_cat_low (if F n then 1 else 0) n (powers_below F n) i below ∙ powers_bits F n i below
      | inr above ↦
          let at : i ≡ n = omega (arith, above, h) in
          let none : i - n ≡ 0 = omega (arith, at) in
          bit_at_cat_high (if F n then 1 else 0) n (powers_below F n) i (powers_few F n) above
          ∙ ap (bit_at (if F n then 1 else 0)) none ∙ one_bit (F n) ∙ ap (λ (k : ℕ). if F k then 1 else 0) (sym at)
    ])
  where
    one_more : (m : ℕ) → suc m ≡ m + 1
    one_more m = omega arith

-- no power, and all of them
pub powers_none : (F : ℕ → Bool) (n : ℕ) → ((k : ℕ) → k < n → F k ≡ false) → powers_below F n ≡ 0
powers_none F zero none = refl
powers_none F (suc n) none =
    let before : powers_below F n ≡ 0 = powers_none F n (λ k h. none k (omega (arith, h))) in
    let last : F n ≡ false = none n (omega arith) in
    let next : suc n ≡ n + 1 = omega arith in
    ap (powers_below F) next ∙ powers_more F n ∙ rw (before, last) refl

pub powers_all : (F : ℕ → Bool) (n : ℕ) → ((k : ℕ) → k < n → F k ≡ true) → powers_below F n + 1 ≡ 2 ^ n
powers_all F zero all = refl
powers_all F (suc n) all =
    let before : powers_below F n + 1 ≡ 2 ^ n = powers_all F n (λ k h. all k (omega (arith, h))) in
    let last : F n ≡ true = all n (omega arith) in
    let next : suc n ≡ n + 1 = omega arith in
    let here : powers_below F (n + 1) ≡ powers_below F n + 2 ^ n = powers_more F n ∙ rw last refl in
    let whole : powers_below F (n + 1) + 1 ≡ 2 ^ (n + 1) = omega (arith, here, before, twice_power n) in
    ap (λ (m : ℕ). powers_below F m + 1) next ∙ whole ∙ ap (λ (m : ℕ). 2 ^ m) (sym next)

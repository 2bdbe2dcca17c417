-- Bits of the numbers of sets.
use Rattle.std.proofs.Common.{ap, arith, inl, inr, refl, sym, ◌∙◌}
use Rattle.std.proofs.Math.Nat.{mod-eq_of_lt}
use Rattle.std.proofs.Math.Pow.{pow-lt}
use Rattle.std.proofs.lemmas.Bool.{and_from, and_parts, cases_eq, cases_lt, eq-eqb, false≢true, ne_eqb, eqb-true, eqb-false}
use Rattle.std.proofs.lemmas.List.Sums.{sum_by-cons}
use Rattle.std.proofs.lemmas.Nat.{pow-add, pow_pos}
use Rattle.std.proofs.lemmas.Nat.Bits.{bit_at-lt, bit_at-pow_other, bit_at-pow_same, bit_at-zero, bit_at_and, bit_at_cat_high, bit_at_cat_low, same_from_bits}
use Rattle.std.specs.Int.{bit_at}
use Rattle.std.specs.Prelude.{Bool, List, [], bit_and, false, filter, if◌then◌else◌, max, min, suc, true, zero, ℕ, ◌%◌, ◌&&◌, ◌*◌, ◌+◌, ◌-◌, ◌<◌, ◌==◌}
use Rattle.std.specs.Prelude.{◌^◌, ◌||◌, ◌∷◌, ◌≡◌, ◌≢◌, ◌≤◌}
use Rattle.lists.proofs.Ascending.{Climbs-filter, same_members}
use Rattle.lists.specs.Bits.{is_set, set_number}
use Rattle.lists.specs.Members.{In, Ascends}
use Rattle.lists.specs.Orders.{has}
use Rattle.lists.proofs.Tests.{same_tests}
use Rattle.lists.proofs.MemberLaws.{from_filter, In-filter, In_of_has, has_of_In}

pub set_number-cons : (x : ℕ) (xs : List ℕ) → set_number (x ∷ xs) ≡ 2 ^ x + set_number xs
set_number-cons x xs = sum_by-cons (λ i. 2 ^ i) x xs

pub powers : (x lo : ℕ) → lo ≤ x → 2 ^ x ≡ 2 ^ (x - lo) * 2 ^ lo
powers x lo h = let e : x - lo + lo ≡ x = omega arith in ap (λ (n : ℕ). 2 ^ n) (sym e) ∙ pow-add 2 (x - lo) lo

-- a set with no member below lo is a multiple of 2^lo
pub multiple : (lo : ℕ) (xs : List ℕ) → ((y : ℕ) → In y xs → lo ≤ y) → (a : ℕ) × (set_number xs ≡ a * 2 ^ lo)
multiple lo [] h = (0, omega arith)
multiple lo (x ∷ xs) h =
    let r = multiple lo xs (λ y i. h y (inr i)) in
    (2 ^ (x - lo) + r.0, set_number-cons x xs ∙ omega (arith, powers x lo (h x (inl refl)), r.1))

pub twice_power : (x : ℕ) → 2 ^ (x + 1) ≡ 2 * 2 ^ x
twice_power x = let e = pow-add 2 x 1 in omega (arith, e)

-- bit x of a multiple of 2^(x + 1) with 2^x added is set, and the other bits stay
pub own_bit : (a x : ℕ) → bit_at (a * 2 ^ (x + 1) + 2 ^ x) x ≡ 1
own_bit a x = bit_at_cat_low a (x + 1) (2 ^ x) x (omega arith) ∙ bit_at-pow_same x

pub other_bit : (a x i : ℕ) → i ≢ x → bit_at (a * 2 ^ (x + 1) + 2 ^ x) i ≡ bit_at (a * 2 ^ (x + 1) + 0) i
other_bit a x i other = elim (cases_lt i (x + 1)) [
  | inl low ↦ bit_at_cat_low a (x + 1) (2 ^ x) i low ∙ bit_at-pow_other x i other ∙ sym (bit_at-zero i) ∙ sym (bit_at_cat_low a (x + 1) 0 i low)
  | inr high ↦
      let positive : 0 < 2 ^ x = pow_pos x in
      bit_at_cat_high a (x + 1) (2 ^ x) i (omega (arith, twice_power x, positive)) high
      ∙ sym (bit_at_cat_high a (x + 1) 0 i (omega (arith, twice_power x, positive)) high)
]

-- a number is in the set of an ascending list where it is a member
pub bit_of_set : (xs : List ℕ) → Ascends xs → (i : ℕ) → is_set (set_number xs) i ≡ has xs i
bit_of_set [] a i = ap (λ n. n == 1) (bit_at-zero i)
bit_of_set (x ∷ xs) a i =
    let m = multiple (x + 1) xs (λ y h. let less = a.0 y h in omega arith) in
    let whole : set_number (x ∷ xs) ≡ m.0 * 2 ^ (x + 1) + 2 ^ x = omega (arith, set_number-cons x xs, m.1) in
    let others : set_number xs ≡ m.0 * 2 ^ (x + 1) + 0 = omega (arith, m.1) in
    elim (cases_eq i x) [
      | inl e ↦
          let here : bit_at (set_number (x ∷ xs)) x ≡ 1 = ap (λ n. bit_at n x) whole ∙ own_bit m.0 x in
          ap (λ k. is_set (set_number (x ∷ xs)) k) e ∙ ap (λ n. n == 1) here ∙ sym (ap (λ b. b || has xs i) (eq-eqb i x e))
      | inr e ↦
          let here : bit_at (set_number (x ∷ xs)) i ≡ bit_at (set_number xs) i =
          ap (λ n. bit_at n i) whole ∙ other_bit m.0 x i e ∙ sym (ap (λ n. bit_at n i) others) in
          ap (λ n. n == 1) here ∙ bit_of_set xs a.1 i ∙ sym (ap (λ b. b || has xs i) (ne_eqb i x e))
    ]

pub digit : Bool → ℕ
digit true = 1
digit false = 0

abbrev pub digit_of : ℕ → ℕ
digit_of n = if n == 1 then 1 else 0

pub below_two : (n : ℕ) → n < 2 → n ≡ digit_of n
below_two zero h = refl
below_two (suc zero) h = refl
below_two (suc (suc n)) h = absurd (omega arith)

-- two numbers with the same members are the same
pub same_sets : (a b : ℕ) → ((i : ℕ) → is_set a i ≡ is_set b i) → a ≡ b
same_sets a b same =
    same_from_bits a b
    (λ i. below_two (bit_at a i) (bit_at-lt a i) ∙ ap (λ (t : Bool). if t then 1 else 0) (same i) ∙ sym (below_two (bit_at b i) (bit_at-lt b i)))

pub min_bits : (a b : ℕ) → a < 2 → b < 2 → (min a b == 1) ≡ ((a == 1) && (b == 1))
min_bits zero zero h k = refl
min_bits zero (suc zero) h k = refl
min_bits zero (suc (suc b)) h k = absurd (omega arith)
min_bits (suc zero) zero h k = refl
min_bits (suc zero) (suc zero) h k = refl
min_bits (suc zero) (suc (suc b)) h k = absurd (omega arith)
min_bits (suc (suc a)) b h k = absurd (omega arith)

-- the members of both sets
pub set_and : (a b i : ℕ) → is_set (bit_and a b) i ≡ (is_set a i && is_set b i)
set_and a b i = ap (λ n. n == 1) (bit_at_and a b i) ∙ min_bits (bit_at a i) (bit_at b i) (bit_at-lt a i) (bit_at-lt b i)

pub has_filter : (p : ℕ → Bool) (xs : List ℕ) (i : ℕ) → has (filter p xs) i ≡ (p i && has xs i)
has_filter p xs i = same_tests (has (filter p xs) i) (p i && has xs i)
    (λ h. let r = from_filter p xs i (In_of_has (filter p xs) i h) in and_from (p i) (has xs i) r.1 (has_of_In xs i r.0))
    (λ h. let r = and_parts (p i) (has xs i) h in has_of_In (filter p xs) i (In-filter p xs i (In_of_has xs i r.1) r.0))

-- the part of a set in an ascending list
pub part_of_set : (edges : List ℕ) → Ascends edges → (set : ℕ) → bit_and set (set_number edges) ≡ set_number (filter (is_set set) edges)
part_of_set edges a set = same_sets _ _ (λ i.
    set_and set (set_number edges) i ∙ ap (λ b. is_set set i && b) (bit_of_set edges a i) ∙ sym (has_filter (is_set set) edges i)
    ∙ sym (bit_of_set (filter (is_set set) edges) (Climbs-filter (λ x. x) (is_set set) edges a) i))

pub same_bit : (a b : ℕ) → a < 2 → b < 2 → (a == 1) ≡ (b == 1) → a ≡ b
same_bit zero zero h k e = refl
same_bit zero (suc zero) h k e = absurd (false≢true e)
same_bit zero (suc (suc b)) h k e = absurd (omega arith)
same_bit (suc zero) zero h k e = absurd (false≢true (sym e))
same_bit (suc zero) (suc zero) h k e = refl
same_bit (suc zero) (suc (suc b)) h k e = absurd (omega arith)
same_bit (suc (suc a)) b h k e = absurd (omega arith)

pub shifted_one : (k : ℕ) → k < 64 → 1 * 2 ^ k % 2 ^ 64 ≡ 2 ^ k
shifted_one k h =
    let l : 2 ^ k < 2 ^ 64 = pow-lt h in
    let e : 1 * 2 ^ k ≡ 2 ^ k = omega arith in
    ap (λ (n : ℕ). n % 2 ^ 64) e ∙ mod-eq_of_lt l

pub bit_is_test : (b : Bool) (n : ℕ) → n ≡ (if b then 1 else 0) → (n == 1) ≡ b
bit_is_test true n e = rw e refl
bit_is_test false n e = rw e refl

pub same_from_number : (xs ys : List ℕ) → Ascends xs → Ascends ys → set_number xs ≡ set_number ys → xs ≡ ys
same_from_number xs ys a b e =
    let has_same = λ (z : ℕ). sym (bit_of_set xs a z) ∙ ap (λ n. is_set n z) e ∙ bit_of_set ys b z in
    same_members xs ys a b (λ z i. In_of_has ys z (sym (has_same z) ∙ has_of_In xs z i)) (λ z i. In_of_has xs z (has_same z ∙ has_of_In ys z i))

pub bit-set : (n c : ℕ) → is_set n c ≡ true → bit_at n c ≡ 1
bit-set n c e = eqb-true (bit_at n c) 1 e

pub bit-unset : (n c : ℕ) → is_set n c ≡ false → bit_at n c ≡ 0
bit-unset n c e = let l = bit_at-lt n c in let f = eqb-false (bit_at n c) 1 e in zero_of (bit_at n c) l f
  where
    zero_of : (b : ℕ) → b < 2 → (b ≡ 1 → ⊥) → b ≡ 0
    zero_of zero l f = refl
    zero_of (suc zero) l f = absurd (f refl)
    zero_of (suc (suc b)) l f = absurd (omega arith)

-- the greater of two bits is 1 where one of them is
pub max_bits : (a b : ℕ) → a < 2 → b < 2 → (max a b == 1) ≡ ((a == 1) || (b == 1))
max_bits zero zero h k = refl
max_bits zero (suc zero) h k = refl
max_bits zero (suc (suc b)) h k = absurd (omega arith)
max_bits (suc zero) zero h k = refl
max_bits (suc zero) (suc zero) h k = refl
max_bits (suc zero) (suc (suc b)) h k = absurd (omega arith)
max_bits (suc (suc a)) b h k = absurd (omega arith)

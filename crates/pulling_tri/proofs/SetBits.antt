-- Sets of points as numbers: the members of a number's set are the places of its bits.
use Rattle.std.specs.Prelude.{◌≡◌, ◌≢◌, ◌⊎◌, ◌<◌, ◌≤◌, ◌+◌, ◌^◌, ◌==◌, ℕ, zero, suc, Bool, true, false, min, nat_eq, nat_lt, ◌&&◌, List, [], ◌∷◌}
use Rattle.std.specs.Prelude.{filter, length, Contains, if◌then◌else◌, bit_and}
use Rattle.std.specs.Int.{bit_at, trailing_zeros, w64}
use Rattle.std.specs.List.{range_with_len}
use Rattle.std.proofs.Common.{refl, sym, ap, ◌∙◌, subst, arith, inl, inr}
use Rattle.std.proofs.lemmas.Bool.{false≢true, cases_eq}
use Rattle.std.proofs.lemmas.Bool.Decides.{nat_tests}
use Rattle.std.proofs.lemmas.Nat.{and_le_l}
use Rattle.std.proofs.lemmas.Nat.Bits.{bit_at_and, bit_at-lt, bit_at-pow_same, bit_at-pow_other, bit_at-trailing_zeros, same_from_bits_below}
use Rattle.lists.specs.Orders.{numbers, has}
use Rattle.iso_model.specs.Hulls.{meet, first_vertex, LiesWithin}
use Rattle.pulling_tri.proofs.ChainLaws.{Ascends, least_first, first_there, filter_ascends}
use Rattle.lists.specs.Bits.{set_of}
use Rattle.lists.proofs.Tests.{equal_of, of_equal, same_tests}
use Rattle.lists.proofs.Contained.{Contains-head, Contains-tail, Contains-split, below_contained, contained_below, Contains-passes}
use Rattle.lists.proofs.Contained.{filter-same}
use Rattle.lists.proofs.Bits.{same_bit}
use Rattle.lists.proofs.MemberLaws.{has_contains, contains_has}

-- ---- lists that are filtered

pub kept_by : {X : Type 0} (p : X → Bool) (xs : List X) (x : X) → Contains xs x → p x ≡ true → Contains (filter p xs) x
kept_by p [] x c e = absurd (let h : c.0 < 0 = c.1 in omega arith)
kept_by {X} p (y ∷ xs) x c e = by_test (λ m. kept_by p xs x m e) (p y) refl (Contains-split x y xs c)
  where
    by_test : (Contains xs x → Contains (filter p xs) x) → (b : Bool) → p y ≡ b → (y ≡ x) ⊎ Contains xs x
        → Contains (if b then y ∷ filter p xs else filter p xs) x
    by_test behind true t (inl s) = subst (λ (z : X). Contains (y ∷ filter p xs) z) s (Contains-head y (filter p xs))
    by_test behind true t (inr m) = Contains-tail x y (filter p xs) (behind m)
    by_test behind false t (inl s) = absurd (false≢true (sym t ∙ subst (λ (z : X). p z ≡ true) (sym s) e))
    by_test behind false t (inr m) = behind m

filter_twice : {X : Type 0} (p q : X → Bool) (xs : List X) → filter q (filter p xs) ≡ filter (λ x. p x && q x) xs
filter_twice p q [] = refl
filter_twice {X} p q (x ∷ xs) = elim (p x) as
    (λ b. filter q (if b then x ∷ filter p xs else filter p xs) ≡ (if b && q x then x ∷ filter (λ y. p y && q y) xs else filter (λ y. p y && q y) xs)) [
      | true ↦ ap (λ (ys : List X). if q x then x ∷ ys else ys) (filter_twice p q xs)
      | false ↦ filter_twice p q xs
    ]

-- ---- members

pub bit_member : (n i : ℕ) → i < 64 → bit_at n i ≡ 1 → Contains (set_of n) i
bit_member n i h e = kept_by (λ k. bit_at n k == 1) (numbers 64) i (contained_below 64 i h) (of_equal (bit_at n i) 1 e)

pub member_bit : (n i : ℕ) → Contains (set_of n) i → bit_at n i ≡ 1
member_bit n i c = equal_of (bit_at n i) 1 (Contains-passes (λ k. bit_at n k == 1) (numbers 64) i c)

-- a place has a bit where it is a member
pub has_is : (n i : ℕ) → i < 64 → has (set_of n) i ≡ (bit_at n i == 1)
has_is n i h = same_tests (has (set_of n) i) (bit_at n i == 1)
    (λ e. of_equal (bit_at n i) 1 (member_bit n i (has_contains (set_of n) i e)))
    (λ e. contains_has (set_of n) i (bit_member n i h (equal_of (bit_at n i) 1 e)))

-- ---- the meet, and one set within another

both_bits : (a b m : ℕ) → a < 2 → b < 2 → m ≡ min a b → (a == 1 && b == 1) ≡ (m == 1)
both_bits a b m h k e = same_tests (a == 1 && b == 1) (m == 1) (λ t. grind (arith, nat_tests)) (λ t. grind (arith, nat_tests))

pub set_of_meet : (a b : ℕ) → set_of (bit_and a b) ≡ meet (set_of a) (set_of b)
set_of_meet a b = sym (
    filter_twice (λ k. bit_at a k == 1) (has (set_of b)) (numbers 64)
    ∙ filter-same (λ k. bit_at a k == 1 && has (set_of b) k) (λ k. bit_at (bit_and a b) k == 1) (numbers 64)
    (λ k c. ap (λ (t : Bool). bit_at a k == 1 && t) (has_is b k (below_contained 64 k c))
    ∙ both_bits (bit_at a k) (bit_at b k) (bit_at (bit_and a b) k) (bit_at-lt a k) (bit_at-lt b k) (bit_at_and a b k)))

-- a number of 64 bits is fixed by its set
pub same_number : (a b : ℕ) → a < 2 ^ 64 → b < 2 ^ 64 → set_of a ≡ set_of b → a ≡ b
same_number a b h k e = same_from_bits_below 64 a b h k (λ i l.
    same_bit (bit_at a i) (bit_at b i) (bit_at-lt a i) (bit_at-lt b i)
    (sym (has_is a i l) ∙ ap (λ (s : List ℕ). has s i) e ∙ has_is b i l))

pub within_number : (a b : ℕ) → bit_and a b ≡ a → LiesWithin (set_of a) (set_of b)
within_number a b e = sym (set_of_meet a b) ∙ ap set_of e

pub number_within : (a b : ℕ) → a < 2 ^ 64 → LiesWithin (set_of a) (set_of b) → bit_and a b ≡ a
number_within a b h e = let l = and_le_l a b in same_number (bit_and a b) a (omega arith) h (set_of_meet a b ∙ e)

-- ---- the first vertex, and a set of one point

pub range_ascends : (a n : ℕ) → Ascends (range_with_len a n)
range_ascends a zero = tt
range_ascends a (suc n) = (λ y c. after y (a + 1) n (omega arith) c, range_ascends (a + 1) n)
  where
    after : (y b m : ℕ) → a < b → Contains (range_with_len b m) y → a < y
    after y b zero h c = absurd (let k : c.0 < 0 = c.1 in omega arith)
    after y b (suc m) h c = elim (Contains-split y b (range_with_len (b + 1) m) c) as (λ _. a < y) [
      | inl e ↦ omega (arith, e)
      | inr d ↦ after y (b + 1) m (omega arith) d
    ]

pub set_ascends : (n : ℕ) → Ascends (set_of n)
set_ascends n = filter_ascends (λ (a b : ℕ). a < b) (λ k. bit_at n k == 1) (numbers 64) (range_ascends 0 64)

pub has_lowest : (n : ℕ) → 0 < n → n < 2 ^ 64 → Contains (set_of n) (trailing_zeros w64 n)
has_lowest n h k = let t = bit_at-trailing_zeros w64 n h k in bit_member n (trailing_zeros w64 n) t.0 t.1

not_none : (xs : List ℕ) (x : ℕ) → Contains xs x → xs ≢ []
not_none xs x c e = let d = subst (λ (s : List ℕ). Contains s x) e c in let h : d.0 < 0 = d.1 in omega arith

not_below : (a b : ℕ) → a ≤ b → ¬ (a < b) → b ≡ a
not_below a b l never = by_test (nat_lt a b) refl
  where
    by_test : (t : Bool) → nat_lt a b ≡ t → b ≡ a
    by_test true e = absurd (never (grind (arith, nat_tests)))
    by_test false e = let m : b ≤ a = grind (arith, nat_tests) in omega arith

pub first_is_lowest : (n : ℕ) → 0 < n → n < 2 ^ 64 → trailing_zeros w64 n ≡ first_vertex (set_of n)
first_is_lowest n h k =
    let t = bit_at-trailing_zeros w64 n h k in
    let c = has_lowest n h k in
    let l = least_first (set_of n) (trailing_zeros w64 n) (set_ascends n) c in
    let m = first_there (set_of n) (not_none (set_of n) (trailing_zeros w64 n) c) in
    let one = member_bit n (first_vertex (set_of n)) m in
    not_below (first_vertex (set_of n)) (trailing_zeros w64 n) l (λ b. let z = t.2 (first_vertex (set_of n)) b in omega arith)

alone : (xs : List ℕ) (x : ℕ) → Ascends xs → Contains xs x → ((y : ℕ) → Contains xs y → y ≡ x) → length xs ≡ 1
alone [] x a c h = absurd (let k : c.0 < 0 = c.1 in omega arith)
alone (y ∷ []) x a c h = refl
alone (y ∷ z ∷ xs) x a c h =
    let l = a.0 z (Contains-head z xs) in
    let e = h y (Contains-head y (z ∷ xs)) in
    let f = h z (Contains-tail z y (z ∷ xs) (Contains-head z xs)) in
    absurd (omega arith)

only : (xs : List ℕ) (y : ℕ) → length xs ≡ 1 → Contains xs y → y ≡ first_vertex xs
only [] y l c = absurd (omega arith)
only (x ∷ []) y l c = elim (Contains-split y x [] c) as (λ _. y ≡ x) [
  | inl e ↦ sym e
  | inr d ↦ absurd (let k : d.0 < 0 = d.1 in omega arith)
]
only (x ∷ z ∷ xs) y l c = absurd (omega arith)

zero_or_one : (b : ℕ) → b < 2 → (b ≡ 0) ⊎ (b ≡ 1)
zero_or_one zero h = inl refl
zero_or_one (suc zero) h = inr refl
zero_or_one (suc (suc b)) h = absurd (omega arith)

pub power_is_point : (n : ℕ) → 0 < n → n < 2 ^ 64 → n ≡ 2 ^ trailing_zeros w64 n → length (set_of n) ≡ 1
power_is_point n h k e =
    alone (set_of n) (trailing_zeros w64 n) (set_ascends n) (has_lowest n h k)
    (λ y c. by_place y (member_bit n y c) (cases_eq y (trailing_zeros w64 n)))
  where
    by_place : (y : ℕ) → bit_at n y ≡ 1 → (y ≡ trailing_zeros w64 n) ⊎ (y ≢ trailing_zeros w64 n) → y ≡ trailing_zeros w64 n
    by_place y b (inl s) = s
    by_place y b (inr o) = absurd (let z = ap (λ (m : ℕ). bit_at m y) e ∙ bit_at-pow_other (trailing_zeros w64 n) y o in omega arith)

pub point_is_power : (n : ℕ) → 0 < n → n < 2 ^ 64 → 2 ^ trailing_zeros w64 n < 2 ^ 64 → length (set_of n) ≡ 1 → n ≡ 2 ^ trailing_zeros w64 n
point_is_power n h k p l =
    same_from_bits_below 64 n (2 ^ trailing_zeros w64 n) k p
    (λ i b. by_place i b (cases_eq i (trailing_zeros w64 n)) (zero_or_one (bit_at n i) (bit_at-lt n i)))
  where
    by_place : (i : ℕ) → i < 64 → (i ≡ trailing_zeros w64 n) ⊎ (i ≢ trailing_zeros w64 n) → (bit_at n i ≡ 0) ⊎ (bit_at n i ≡ 1)
        → bit_at n i ≡ bit_at (2 ^ trailing_zeros w64 n) i
    by_place i b (inl s) v =
        ap (bit_at n) s ∙ (bit_at-trailing_zeros w64 n h k).1 ∙ sym (ap (bit_at (2 ^ trailing_zeros w64 n)) s ∙ bit_at-pow_same (trailing_zeros w64 n))
    by_place i b (inr o) (inl z) = z ∙ sym (bit_at-pow_other (trailing_zeros w64 n) i o)
    by_place i b (inr o) (inr u) = absurd (o (only (set_of n) i l (bit_member n i b u) ∙ sym (first_is_lowest n h k)))

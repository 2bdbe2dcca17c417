-- Lists of the numbers of facets' sets: their bits, how often each stands there, and when they are the numbers of all facets.
use Rattle.std.specs.Prelude.{◌≡◌, ◌≢◌, ◌⊎◌, ℕ, zero, suc, ◌+◌, ◌-◌, ◌*◌, ◌^◌, ◌<◌, ◌≤◌, Bool, true, false, cond, nat_eq, nat_lt, List, [], ◌∷◌, ◌++◌}
use Rattle.std.specs.Prelude.{map, filter, length, slice_index_or, ℤ, All, Contains, IsPermutation}
use Rattle.std.specs.Int.{bit_at}
use Rattle.std.proofs.Common.{refl, sym, ap, ◌∙◌, subst, arith, inl, inr}
use Rattle.std.proofs.lemmas.Bool.Decides.{nat_tests}
use Rattle.std.proofs.lemmas.List.Elements.{All-nil, All-cons, All-head, All-tail, All-contains}
use Rattle.std.proofs.lemmas.List.Sorted.{All-permutation, Contains-permutation, sum_by-IsPermutation}
use Rattle.std.proofs.lemmas.List.Sums.{sum_by-cons, sum_by_push}
use Rattle.std.proofs.lemmas.Nat.Bits.{bit_at_cat_low, bit_at_cat_high, bit_at_above}
use Rattle.lists.specs.Orders.{numbers}
use Rattle.iso_model.specs.Hulls.{IsFacet}
use Rattle.halfspace.specs.Choices.{AreFacetNumbers, IsFacetNumber, AreSomeFacets, occurrences}
use Rattle.halfspace.proofs.TightNumbers.{part, set_number-more, set_number-below, filter_numbers_more, eq_or_below}
use Rattle.lists.specs.Bits.{set_number}

-- ---- the bits of a set's number

-- 1, or 0
abbrev pub digit : Bool → ℕ
digit b = cond b 1 0

digit_part : (b : Bool) (n : ℕ) → part b n ≡ digit b * 2 ^ n
digit_part true n = omega arith
digit_part false n = omega arith

digit_bit : (b : Bool) → bit_at (digit b) 0 ≡ digit b
digit_bit true = refl
digit_bit false = refl

number_cat : (p : ℕ → Bool) (n : ℕ) → set_number (filter p (numbers (n + 1))) ≡ digit (p n) * 2 ^ n + set_number (filter p (numbers n))
number_cat p n = let e = set_number-more p n in let q = digit_part (p n) n in omega arith

pub bit_of_number : (p : ℕ → Bool) (n i : ℕ) → i < n → bit_at (set_number (filter p (numbers n))) i ≡ digit (p i)
bit_of_number p zero i h = absurd (omega arith)
bit_of_number p (suc n) i h =
    let e : suc n ≡ n + 1 = omega arith in
    ap (λ (m : ℕ). bit_at (set_number (filter p (numbers m))) i) e ∙ ap (λ (m : ℕ). bit_at m i) (number_cat p n)
    ∙ by_place (λ k. bit_of_number p n i k) (eq_or_below i n (omega arith))
  where
    by_place : (i < n → bit_at (set_number (filter p (numbers n))) i ≡ digit (p i)) → (i ≡ n) ⊎ (i < n)
        → bit_at (digit (p n) * 2 ^ n + set_number (filter p (numbers n))) i ≡ digit (p i)
    by_place behind (inl s) =
        let z : i - n ≡ 0 = omega arith in
        bit_at_cat_high (digit (p n)) n (set_number (filter p (numbers n))) i (set_number-below p n) (omega arith)
        ∙ ap (bit_at (digit (p n))) z ∙ digit_bit (p n) ∙ ap (λ (k : ℕ). digit (p k)) (sym s)
    by_place behind (inr k) = bit_at_cat_low (digit (p n)) n (set_number (filter p (numbers n))) i k ∙ behind k

-- a bit that is set is that of a member
pub record IsSetBit (p : ℕ → Bool) (n i : ℕ) : Type 0 where
  pub below : i < n
  pub passes : p i ≡ true

pub set_bit : (p : ℕ → Bool) (n i : ℕ) → bit_at (set_number (filter p (numbers n))) i ≡ 1 → IsSetBit p n i
set_bit p n i h = by_place (nat_lt i n) refl
  where
    by_digit : (b : Bool) → digit b ≡ 1 → b ≡ true
    by_digit true e = refl
    by_digit false e = absurd (omega arith)

    by_place : (b : Bool) → nat_lt i n ≡ b → IsSetBit p n i
    by_place true e = let k : i < n = grind (arith, nat_tests) in record { below = k; passes = by_digit (p i) (sym (bit_of_number p n i k) ∙ h) }
    by_place false e =
        let k : n ≤ i = grind (arith, nat_tests) in
        let z = bit_at_above (set_number (filter p (numbers n))) n i (set_number-below p n) k in absurd (omega arith)

-- ---- sets with one number are one set

pub same_set : (p q : ℕ → Bool) (n : ℕ) → set_number (filter p (numbers n)) ≡ set_number (filter q (numbers n)) → filter p (numbers n) ≡ filter q (numbers n)
same_set p q zero e = refl
same_set p q (suc n) e =
    let s : suc n ≡ n + 1 = omega arith in
    let f = ap (λ (m : ℕ). set_number (filter p (numbers m))) (sym s) ∙ e ∙ ap (λ (m : ℕ). set_number (filter q (numbers m))) s in
    let both = by_digits (p n) (q n) (set_number (filter p (numbers n))) (set_number (filter q (numbers n))) (2 ^ n) (set_number-below p n)
    (set_number-below q n)
    (sym (set_number-more p n) ∙ f ∙ set_number-more q n) in
    ap (λ (m : ℕ). filter p (numbers m)) s ∙ filter_numbers_more p n
    ∙ ap (λ (xs : List ℕ). xs ++ cond (p n) (n ∷ []) []) (same_set p q n both.1) ∙ ap (λ (b : Bool). filter q (numbers n) ++ cond b (n ∷ []) []) both.0
    ∙ sym (filter_numbers_more q n) ∙ ap (λ (m : ℕ). filter q (numbers m)) (sym s)
  where
    by_digits : (a b : Bool) (x y w : ℕ) → x < w → y < w → x + cond a w 0 ≡ y + cond b w 0 → (a ≡ b) × (x ≡ y)
    by_digits true true x y w h k g = (refl, omega arith)
    by_digits true false x y w h k g = absurd (omega arith)
    by_digits false true x y w h k g = absurd (omega arith)
    by_digits false false x y w h k g = (refl, omega arith)

-- the number of a facet's set fixes the set
pub same_facet : (d : ℕ) (points : List (List ℤ)) (set other : List ℕ) → IsFacet d points set → IsFacet d points other
    → set_number set ≡ set_number other → set ≡ other
same_facet d points set other f g e =
    f.tight ∙ same_set _ _ (length points) (ap set_number (sym f.tight) ∙ e ∙ ap set_number g.tight) ∙ sym g.tight

-- ---- how often a number stands in a list

occurs_cons : (x y : ℕ) (ys : List ℕ) → occurrences x (y ∷ ys) ≡ cond (nat_eq x y) 1 0 + occurrences x ys
occurs_cons x y ys = sum_by-cons (λ z. cond (nat_eq x z) 1 0) y ys

pub occurs_not : (x : ℕ) (xs : List ℕ) → ¬ (Contains xs x) → occurrences x xs ≡ 0
occurs_not x [] n = refl
occurs_not x (y ∷ ys) n = occurs_cons x y ys ∙ by_test (nat_eq x y) refl (occurs_not x ys (λ c. n (suc c.0, omega (arith, c.1), c.2)))
  where
    by_test : (b : Bool) → nat_eq x y ≡ b → occurrences x ys ≡ 0 → cond b 1 0 + occurrences x ys ≡ 0
    by_test true e z = absurd (n (0, omega arith, grind (arith, nat_tests)))
    by_test false e z = omega arith

pub occurs_once_more : (xs : List ℕ) (y : ℕ) → ¬ (Contains xs y) → ((x : ℕ) → occurrences x xs ≤ 1) → (x : ℕ) → occurrences x (xs ++ y ∷ []) ≤ 1
occurs_once_more xs y n h x =
    let e = sum_by_push (λ z. cond (nat_eq x z) 1 0) xs y in
    let k = by_test (nat_eq x y) refl in
    omega arith
  where
    by_test : (b : Bool) → nat_eq x y ≡ b → occurrences x xs + cond b 1 0 ≤ 1
    by_test true e =
        let s : x ≡ y = grind (arith, nat_tests) in
        let z : occurrences x xs ≡ 0 = occurs_not x xs (λ c. n (subst (Contains xs) s c)) in
        omega arith
    by_test false e = let k = h x in omega arith

-- equal neighbours stand there twice
occurs_here : (x : ℕ) (xs : List ℕ) → occurrences x (x ∷ xs) ≡ 1 + occurrences x xs
occurs_here x xs = let e : nat_eq x x ≡ true = grind (arith, nat_tests) in occurs_cons x x xs ∙ ap (λ (b : Bool). cond b 1 0 + occurrences x xs) e

occurs_before : (x y : ℕ) (xs : List ℕ) → occurrences x xs ≤ occurrences x (y ∷ xs)
occurs_before x y xs = omega (arith, occurs_cons x y xs)

occurs_twice : (xs : List ℕ) (k : ℕ) → k + 1 < length xs → slice_index_or xs k 0 ≡ slice_index_or xs (k + 1) 0 → 2 ≤ occurrences (slice_index_or xs k 0) xs
occurs_twice [] k h e = absurd (omega arith)
occurs_twice (x ∷ []) k h e = absurd (omega arith)
occurs_twice (x ∷ y ∷ xs) zero h e =
    let s : x ≡ y = e in
    let a = occurs_here x (y ∷ xs) in
    let b = occurs_here x xs in
    let c : occurrences x (y ∷ xs) ≡ occurrences x (x ∷ xs) = ap (λ (z : ℕ). occurrences x (z ∷ xs)) (sym s) in
    omega arith
occurs_twice (x ∷ y ∷ xs) (suc k) h e =
    let s : suc k + 1 ≡ suc (k + 1) = omega arith in
    let behind = occurs_twice (y ∷ xs) k (omega arith) (e ∙ ap (λ (m : ℕ). slice_index_or (x ∷ y ∷ xs) m 0) s) in
    let more = occurs_before (slice_index_or (y ∷ xs) k 0) x (y ∷ xs) in
    omega arith

-- ---- the sets of the numbers

abbrev pub EachFacet : ℕ → List (List ℤ) → List ℕ → Type 0
EachFacet d points [] = Unit {0}
EachFacet d points (x ∷ xs) = IsFacetNumber d points x × EachFacet d points xs

each_facet : (d : ℕ) (points : List (List ℤ)) (found : List ℕ) → All (IsFacetNumber d points) found → EachFacet d points found
each_facet d points [] h = tt
each_facet d points (x ∷ xs) h = (All-head (IsFacetNumber d points) x xs h, each_facet d points xs (All-tail (IsFacetNumber d points) x xs h))

sets_of : (d : ℕ) (points : List (List ℤ)) (found : List ℕ) → EachFacet d points found → List (List ℕ)
sets_of d points [] e = []
sets_of d points (x ∷ xs) e = e.0.0 ∷ sets_of d points xs e.1

sets-numbers : (d : ℕ) (points : List (List ℤ)) (found : List ℕ) (e : EachFacet d points found) → found ≡ map set_number (sets_of d points found e)
unfolding sets_of
sets-numbers d points [] e = refl
sets-numbers d points (x ∷ xs) e = let a = e.0.2 in let b = sets-numbers d points xs e.1 in cc

sets_are_facets : (d : ℕ) (points : List (List ℤ)) (found : List ℕ) (e : EachFacet d points found) → All (IsFacet d points) (sets_of d points found e)
unfolding sets_of
sets_are_facets d points [] e = All-nil (IsFacet d points)
sets_are_facets d points (x ∷ xs) e = All-cons (IsFacet d points) e.0.0 (sets_of d points xs e.1) e.0.1 (sets_are_facets d points xs e.1)

set_is_there : (d : ℕ) (points : List (List ℤ)) (set : List ℕ) → IsFacet d points set → (found : List ℕ) (e : EachFacet d points found) (k : ℕ)
    → k < length found
    → slice_index_or found k (set_number set) ≡ set_number set → Contains (sets_of d points found e) set
unfolding sets_of
set_is_there d points set f [] e k h q = absurd (omega arith)
set_is_there d points set f (x ∷ xs) e zero h q = (0, omega arith, same_facet d points e.0.0 set e.0.1 f (sym e.0.2 ∙ q))
set_is_there d points set f (x ∷ xs) e (suc k) h q =
    let c = set_is_there d points set f xs e.1 k (omega arith) q in (suc c.0, omega (arith, c.1), c.2)

number_at : (d : ℕ) (points : List (List ℤ)) (found : List ℕ) (e : EachFacet d points found) (k : ℕ) (z : List ℕ) → k < length (sets_of d points found e)
    → set_number (slice_index_or (sets_of d points found e) k z) ≡ slice_index_or found k 0
unfolding sets_of
number_at d points [] e k z h = absurd (omega arith)
number_at d points (x ∷ xs) e zero z h = sym e.0.2
number_at d points (x ∷ xs) e (suc k) z h = number_at d points xs e.1 k z (omega arith)

sets-length : (d : ℕ) (points : List (List ℤ)) (found : List ℕ) (e : EachFacet d points found) → length (sets_of d points found e) ≡ length found
unfolding sets_of
sets-length d points [] e = refl
sets-length d points (x ∷ xs) e = ap suc (sets-length d points xs e.1)

-- numbers of facets, each once, in order, and of each facet, are the numbers of all facets
pub all_facets : (d : ℕ) (points : List (List ℤ)) (found ordered : List ℕ) → IsPermutation found ordered
    → ((i j : ℕ) (z : ℕ) → i ≤ j → j < length ordered → slice_index_or ordered i z ≤ slice_index_or ordered j z)
    → AreSomeFacets d points found → ((set : List ℕ) → IsFacet d points set → Contains found (set_number set)) → AreFacetNumbers d points ordered
all_facets d points found ordered moved rises some every = record {
  sets = sets;
  facets = record {
    each = λ set. (
      λ c. All-contains (IsFacet d points) sets set (sets_are_facets d points ordered e) c,
      λ f. let c = Contains-permutation found ordered (set_number set) moved (every set f) in set_is_there d points set f ordered e c.0 c.1 c.2,
    );
    ascending = λ k z h. let n = sets-length d points ordered e in
        let a = number_at d points ordered e k z (omega arith) in
        let b = number_at d points ordered e (k + 1) z h in
        let s = strict k (omega arith) in
        omega arith;
  };
  numbered = sets-numbers d points ordered e;
}
  where
    e : EachFacet d points ordered
    e = each_facet d points ordered (All-permutation (IsFacetNumber d points) found ordered moved some.facets)

    sets : List (List ℕ)
    sets = sets_of d points ordered e

    once : (x : ℕ) → occurrences x ordered ≤ 1
    once x = let s = sum_by-IsPermutation (λ y. cond (nat_eq x y) 1 0) found ordered moved in let o = some.once x in omega arith

    strict : (k : ℕ) → k + 1 < length ordered → slice_index_or ordered k 0 < slice_index_or ordered (k + 1) 0
    strict k h =
        let up = rises k (k + 1) 0 (omega arith) h in
        let apart : slice_index_or ordered k 0 ≢ slice_index_or ordered (k + 1) 0 =
        λ q. let two = occurs_twice ordered k h q in let one = once (slice_index_or ordered k 0) in absurd (omega arith) in
        omega arith

-- Ascending lists of numbers.
use Rattle.std.proofs.Common.{Bool, List, [], ap, arith, cond, false, inl, inr, refl, subst, suc, sym, true, zero, ℕ, ◌+◌, ◌<◌, ◌∙◌, ◌∷◌, ◌≡◌, ◌≤◌}
use Rattle.std.proofs.lemmas.Bool.Decides.{nat_tests}
use Rattle.std.specs.List.{range_with_len}
use Rattle.std.specs.List.Sorted.{IsStrictlyIncreasing}
use Rattle.std.specs.Prelude.{count_by, filter, if◌then◌else◌, map, nat_le, nat_lt, slice_index}
use Rattle.lists.proofs.MemberLaws.{In-map, from_filter, above_range}
use Rattle.lists.proofs.Sorting.{bit, count_by-cons, inversions-sorted}
use Rattle.lists.specs.Members.{In, Climbs, Ascends}
use Rattle.lists.specs.Orders.{inversions, put_in, sorted}
use Rattle.lists.proofs.Tests.{next_place}

pub Ascends-range : (a n : ℕ) → Ascends (range_with_len a n)
Ascends-range a zero = tt
Ascends-range a (suc n) = (λ y i. omega (arith, above_range (a + 1) n y i), Ascends-range (a + 1) n)

pub Ascends-filter_case : (p : ℕ → Bool) (x : ℕ) (xs : List ℕ) → ((y : ℕ) → In y xs → x < y) → Ascends (filter p xs) → (b : Bool)
    → Ascends (cond b (x ∷ filter p xs) (filter p xs))
Ascends-filter_case p x xs first later true = (λ y i. first y (from_filter p xs y i).0, later)
Ascends-filter_case p x xs first later false = later

pub Ascends-filter : (p : ℕ → Bool) (xs : List ℕ) → Ascends xs → Ascends (filter p xs)
Ascends-filter p [] a = tt
Ascends-filter p (x ∷ xs) a = Ascends-filter_case p x xs a.0 (Ascends-filter p xs a.1) (p x)

-- a function from an ascending list to an ascending one keeps the order
pub keeps_order : (f : ℕ → ℕ) (xs : List ℕ) → Ascends xs → Ascends (map f xs) → (a b : ℕ) → In a xs → In b xs → a < b → f a < f b
keeps_order f [] up up' a b i j h = absurd i
keeps_order f (x ∷ xs) up up' a b (inl e) (inl e') h = absurd (omega (arith, e, e', h))
keeps_order f (x ∷ xs) up up' a b (inl e) (inr j) h = subst (λ (z : ℕ). f z < f b) (sym e) (up'.0 (f b) (In-map f xs b j))
keeps_order f (x ∷ xs) up up' a b (inr i) (inl e) h = absurd (omega (arith, up.0 a i, e, h))
keeps_order f (x ∷ xs) up up' a b (inr i) (inr j) h = keeps_order f xs up.1 up'.1 a b i j h

pub ascends_of : (xs : List ℕ) → IsStrictlyIncreasing xs → Ascends xs
ascends_of [] h = tt
ascends_of (x ∷ []) h = (λ y i. absurd i, tt)
ascends_of (x ∷ y ∷ ys) h =
    let more =
    ascends_of (y ∷ ys)
    (λ k l. subst (λ (n : ℕ). slice_index (y ∷ ys) k < slice_index (x ∷ y ∷ ys) n) (sym (next_place k)) (h (suc k) (omega (arith, l)))) in
    let first : x < y = h 0 (omega arith) in
    (λ z i. elim i as (λ _. x < z) [ inl e ↦ omega (arith, e) | inr j ↦ omega (arith, more.0 z j) ], more)

pub Climbs-filter : {X : Type 0} (key : X → ℕ) (p : X → Bool) (xs : List X) → Climbs key xs → Climbs key (filter p xs)
Climbs-filter key p [] c = tt
Climbs-filter {X} key p (x ∷ xs) c = elim (p x) as (λ b. Climbs key (if b then x ∷ filter p xs else filter p xs)) [
  | true ↦ (λ y i. c.0 y (from_filter p xs y i).0, Climbs-filter key p xs c.1)
  | false ↦ Climbs-filter key p xs c.1
]

pub put_in_first : (x : ℕ) (xs : List ℕ) → count_by (λ z. nat_lt z x) xs ≡ 0 → put_in x xs ≡ x ∷ xs
put_in_first x [] none = refl
put_in_first x (y ∷ xs) none =
    let above : nat_le x y ≡ true = grind (arith, nat_tests, count_by-cons (λ z. nat_lt z x) y xs, none) in
    rw above refl

pub ascending-nil : (xs : List ℕ) → inversions xs ≡ 0 → sorted xs ≡ xs
ascending-nil [] none = refl
ascending-nil (x ∷ xs) none =
    let later : inversions xs ≡ 0 = omega arith in
    ap (put_in x) (ascending-nil xs later) ∙ put_in_first x xs (omega arith)

pub below-map : (f : ℕ → ℕ) (x : ℕ) (xs : List ℕ) → ((y : ℕ) → In y xs → x ≤ y → f x ≤ f y) → count_by (λ z. nat_lt z x) xs ≡ 0
    → count_by (λ z. nat_lt z (f x)) (map f xs) ≡ 0
below-map f x [] keeps none = refl
below-map f x (y ∷ xs) keeps none =
    let above : x ≤ y = grind (arith, nat_tests, count_by-cons (λ z. nat_lt z x) y xs, none) in
    let image : f x ≤ f y = keeps y (inl refl) above in
    let first : bit (nat_lt (f y) (f x)) ≡ 0 = grind (arith, nat_tests) in
    let later : count_by (λ z. nat_lt z x) xs ≡ 0 = omega (arith, count_by-cons (λ z. nat_lt z x) y xs) in
    omega (arith, first, count_by-cons (λ z. nat_lt z (f x)) (f y) (map f xs), below-map f x xs (λ z i h. keeps z (inr i) h) later)

pub inversions-map : (f : ℕ → ℕ) (xs : List ℕ) → ((x y : ℕ) → In x xs → In y xs → x ≤ y → f x ≤ f y) → inversions xs ≡ 0 → inversions (map f xs) ≡ 0
inversions-map f [] keeps none = refl
inversions-map f (x ∷ xs) keeps none =
    let later : inversions xs ≡ 0 = omega arith in
    let first : count_by (λ z. nat_lt z x) xs ≡ 0 = omega arith in
    omega (arith, below-map f x xs (λ y i h. keeps x y (inl refl) (inr i) h) first, inversions-map f xs (λ y z i j h. keeps y z (inr i) (inr j) h) later)

-- the image of a list in order is in order
pub ascending-map : (f : ℕ → ℕ) (xs : List ℕ) → ((x y : ℕ) → In x xs → In y xs → x ≤ y → f x ≤ f y) → sorted xs ≡ xs → sorted (map f xs) ≡ map f xs
ascending-map f xs keeps ascends = ascending-nil (map f xs) (inversions-map f xs keeps (sym (ap inversions ascends) ∙ inversions-sorted xs))

-- two ascending lists with the same members are the same
pub first_same : (x y : ℕ) (xs ys : List ℕ) → Ascends (x ∷ xs) → Ascends (y ∷ ys) → In x (y ∷ ys) → In y (x ∷ xs) → x ≡ y
first_same x y xs ys a b (inl e) j = e
first_same x y xs ys a b (inr i) (inl e) = sym e
first_same x y xs ys a b (inr i) (inr j) = let p = a.0 y j in let q = b.0 x i in absurd (omega arith)

pub rest_has : (x y z : ℕ) (xs ys : List ℕ) → Ascends (x ∷ xs) → x ≡ y → In z xs → In z (y ∷ ys) → In z ys
rest_has x y z xs ys a e i (inl f) = let p = a.0 z i in absurd (omega arith)
rest_has x y z xs ys a e i (inr m) = m

pub same_members : (xs ys : List ℕ) → Ascends xs → Ascends ys → ((z : ℕ) → In z xs → In z ys) → ((z : ℕ) → In z ys → In z xs) → xs ≡ ys
same_members [] [] a b f g = refl
same_members [] (y ∷ ys) a b f g = absurd (g y (inl refl))
same_members (x ∷ xs) [] a b f g = absurd (f x (inl refl))
same_members (x ∷ xs) (y ∷ ys) a b f g =
    let e = first_same x y xs ys a b (f x (inl refl)) (g y (inl refl)) in
    let r = same_members xs ys a.1 b.1 (λ z i. rest_has x y z xs ys a e i (f z (inr i))) (λ z i. rest_has y x z ys xs b (sym e) i (g z (inr i))) in
    cc

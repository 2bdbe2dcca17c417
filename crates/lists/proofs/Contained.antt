-- What a list contains, by places.
use Rattle.std.proofs.Common.{Bool, List, [], ap, arith, false, inl, inr, length, refl, subst, sym, true, ℕ, ◌++◌, ◌<◌, ◌∙◌, ◌∷◌, ◌≡◌}
use Rattle.std.proofs.lemmas.Bool.{false≢true}
use Rattle.std.proofs.lemmas.List.Folds.{Any-from_list_any, list_any-from_Any}
use Rattle.std.proofs.lemmas.List.FromFn.{get_or-range_with_len, length-range_with_len}
use Rattle.std.proofs.lemmas.List.Sums.{AllPass-from_list_all, list_all-from_AllPass}
use Rattle.std.specs.Bool.{Decides}
use Rattle.std.specs.List.{list_all, list_any}
use Rattle.std.specs.Prelude.{All, Contains, filter, flat_map, if◌then◌else◌, map, nat_le, slice_index_or, suc, zero, ◌+◌, ◌⊎◌}
use Rattle.lists.specs.Orders.{numbers, put_in, sorted, without}
use Rattle.std.proofs.lemmas.List.Elements.{Contains-append_left, Contains-append_right, All-append}

pub none_contained : {X : Type 0} (x : X) → Contains [] x → ⊥
none_contained x c = let h : c.0 < 0 = c.1 in omega arith

pub Contains-head : {X : Type 0} (x : X) (xs : List X) → Contains (x ∷ xs) x
Contains-head x xs = (0, omega arith, refl)

pub Contains-tail : {X : Type 0} (x y : X) (xs : List X) → Contains xs x → Contains (y ∷ xs) x
Contains-tail x y xs c = (suc c.0, omega (arith, c.1), c.2)

pub Contains-cases : {X : Type 0} (x y : X) (xs : List X) (k : ℕ) → k < length (y ∷ xs) → slice_index_or (y ∷ xs) k x ≡ x → (y ≡ x) ⊎ Contains xs x
Contains-cases x y xs zero h e = inl e
Contains-cases x y xs (suc k) h e = inr (k, omega (arith, h), e)

pub Contains-split : {X : Type 0} (x y : X) (xs : List X) → Contains (y ∷ xs) x → (y ≡ x) ⊎ Contains xs x
Contains-split x y xs c = Contains-cases x y xs c.0 c.1 c.2

-- what is in a list made of y and a part of xs is in y and xs
pub widened : {X : Type 0} (x y : X) (xs ys : List X) → (Contains xs x → Contains ys x) → Contains (y ∷ xs) x → Contains (y ∷ ys) x
widened {X} x y xs ys part c = elim (Contains-split x y xs c) as (λ _. Contains (y ∷ ys) x) [
  | inl e ↦ subst (λ (z : X). Contains (y ∷ ys) z) e (Contains-head y ys)
  | inr more ↦ Contains-tail x y ys (part more)
]

pub Contains-filter : {X : Type 0} (p : X → Bool) (xs : List X) (x : X) → Contains (filter p xs) x → Contains xs x
Contains-filter p [] x c = c
Contains-filter p (y ∷ xs) x c = elim (p y) as (λ b. Contains (if b then y ∷ filter p xs else filter p xs) x → Contains (y ∷ xs) x) [
  | true ↦ λ c. widened x y (filter p xs) xs (Contains-filter p xs x) c
  | false ↦ λ c. Contains-tail x y xs (Contains-filter p xs x c)
] c

pub Contains-put_in : (x : ℕ) (ys : List ℕ) (z : ℕ) → Contains (put_in x ys) z → Contains (x ∷ ys) z
Contains-put_in x [] z c = c
Contains-put_in x (y ∷ ys) z c = elim (nat_le x y) as (λ b. Contains (if b then x ∷ y ∷ ys else y ∷ put_in x ys) z → Contains (x ∷ y ∷ ys) z) [
  | true ↦ λ c. c
  | false ↦ λ c. elim (Contains-split z y (put_in x ys) c) as (λ _. Contains (x ∷ y ∷ ys) z) [
    | inl e ↦ subst (λ (w : ℕ). Contains (x ∷ y ∷ ys) w) e (Contains-tail y x (y ∷ ys) (Contains-head y ys))
    | inr more ↦ widened z x ys (y ∷ ys) (Contains-tail z y ys) (Contains-put_in x ys z more)
  ]
] c

pub Contains-sorted : (xs : List ℕ) (z : ℕ) → Contains (sorted xs) z → Contains xs z
Contains-sorted [] z c = c
Contains-sorted (x ∷ xs) z c = widened z x (sorted xs) xs (Contains-sorted xs z) (Contains-put_in x (sorted xs) z c)

pub Contains-without : {X : Type 0} (i : ℕ) (xs : List X) (z : X) → Contains (without i xs) z → Contains xs z
Contains-without i [] z c = c
Contains-without zero (x ∷ xs) z c = Contains-tail z x xs c
Contains-without (suc i) (x ∷ xs) z c = widened z x (without i xs) xs (Contains-without i xs z) c

-- within the list the default does not matter
pub any_default : {X : Type 0} (xs : List X) (k : ℕ) (d e : X) → k < length xs → slice_index_or xs k d ≡ slice_index_or xs k e
any_default [] k d e h = absurd (omega arith)
any_default (x ∷ xs) zero d e h = refl
any_default (x ∷ xs) (suc k) d e h = any_default xs k d e (omega arith)

pub Contains-at : {X : Type 0} (xs : List X) (k : ℕ) (d : X) → k < length xs → Contains xs (slice_index_or xs k d)
Contains-at xs k d h = (k, h, any_default xs k (slice_index_or xs k d) d h)

pub All-from_each : {X : Type 0} (Q : X → Type 0) (xs : List X) → ((x : X) → Contains xs x → Q x) → All Q xs
All-from_each Q xs h = λ k d l. h _ (Contains-at xs k d l)

pub each-from_All : {X : Type 0} (Q : X → Type 0) (xs : List X) → All Q xs → (x : X) → Contains xs x → Q x
each-from_All Q xs h x c = subst Q c.2 (h c.0 x c.1)

pub below_contained : (n k : ℕ) → Contains (numbers n) k → k < n
below_contained n k c =
    omega (arith, c.1, length-range_with_len 0 n, sym c.2 ∙ get_or-range_with_len 0 n c.0 k (omega (arith, c.1, length-range_with_len 0 n)))

pub contained_below : (n k : ℕ) → k < n → Contains (numbers n) k
contained_below n k h =
    let plain : 0 + k ≡ k = omega arith in
    (k, omega (arith, h, length-range_with_len 0 n), get_or-range_with_len 0 n k k h ∙ plain)

pub Decides-some : {X : Type 0} (p : X → Bool) (Q : X → Type 0) → ((x : X) → Decides (p x) (Q x)) → (xs : List X)
    → Decides (list_any p xs) ((x : X) × Contains xs x × Q x)
Decides-some p Q decides xs = (
  λ e. let a = Any-from_list_any p xs e in (a.1, (a.0, a.2, a.3), (decides a.1).0 a.4),
  λ h. list_any-from_Any p xs (h.1.0, h.0, h.1.1, h.1.2, (decides h.0).1 h.2),
)

pub Decides-each : {X : Type 0} (p : X → Bool) (Q : X → Type 0) → ((x : X) → Decides (p x) (Q x)) → (xs : List X)
    → Decides (list_all p xs) ((x : X) → Contains xs x → Q x)
Decides-each {X} p Q decides xs = (
  λ e x c. (decides x).0 (subst (λ (y : X). p y ≡ true) c.2 (AllPass-from_list_all p xs e c.0 x c.1)),
  λ h. list_all-from_AllPass p xs (λ k d l. (decides _).1 (h _ (Contains-at xs k d l))),
)

pub Contains-mapped : {X Y : Type 0} (f : X → Y) (xs : List X) (x : X) → Contains xs x → Contains (map f xs) (f x)
Contains-mapped f [] x c = absurd (none_contained x c)
Contains-mapped f (y ∷ xs) x c = elim (Contains-split x y xs c) as (λ _. Contains (map f (y ∷ xs)) (f x)) [
  | inl s ↦ subst (λ z. Contains (map f (y ∷ xs)) (f z)) s (Contains-head (f y) (map f xs))
  | inr m ↦ Contains-tail (f x) (f y) (map f xs) (Contains-mapped f xs x m)
]

pub from_Contains-map : {X Y : Type 0} (f : X → Y) (xs : List X) (z : Y) → Contains (map f xs) z → (x : X) × Contains xs x × (f x ≡ z)
from_Contains-map f [] z c = absurd (none_contained z c)
from_Contains-map {X} f (x ∷ xs) z c = elim (Contains-split z (f x) (map f xs) c) as (λ _. (y : X) × Contains (x ∷ xs) y × (f y ≡ z)) [
  | inl e ↦ (x, Contains-head x xs, e)
  | inr m ↦ let r = from_Contains-map f xs z m in (r.0, Contains-tail r.0 x xs r.1, r.2)
]

pub Contains-passes : {X : Type 0} (p : X → Bool) (xs : List X) (x : X) → Contains (filter p xs) x → p x ≡ true
Contains-passes p [] x c = absurd (none_contained x c)
Contains-passes {X} p (y ∷ xs) x c = go (p y) refl (Contains-passes p xs x) c
  where
    go : (b : Bool) → p y ≡ b → (Contains (filter p xs) x → p x ≡ true) → Contains (if b then y ∷ filter p xs else filter p xs) x → p x ≡ true
    go true e later c = elim (Contains-split x y (filter p xs) c) as (λ _. p x ≡ true) [ inl s ↦ ap p (sym s) ∙ e | inr m ↦ later m ]
    go false e later c = later c

pub Contains-filtered : {X : Type 0} (p : X → Bool) (xs : List X) (x : X) → p x ≡ true → Contains xs x → Contains (filter p xs) x
Contains-filtered p [] x h c = absurd (none_contained x c)
Contains-filtered {X} p (y ∷ xs) x h c = go (p y) refl (Contains-split x y xs c) (Contains-filtered p xs x h)
  where
    go : (b : Bool) → p y ≡ b → (y ≡ x) ⊎ Contains xs x → (Contains xs x → Contains (filter p xs) x) → Contains (if b then y ∷ filter p xs else filter p xs) x
    go true e (inl s) later = subst (Contains (y ∷ filter p xs)) s (Contains-head y (filter p xs))
    go true e (inr m) later = Contains-tail x y (filter p xs) (later m)
    go false e (inl s) later = absurd (false≢true (sym e ∙ ap p s ∙ h))
    go false e (inr m) later = later m

pub Contains-joined : {X Y : Type 0} (f : X → List Y) (xs : List X) (x : X) (z : Y) → Contains xs x → Contains (f x) z → Contains (flat_map f xs) z
Contains-joined f [] x z c m = absurd (none_contained x c)
Contains-joined f (y ∷ xs) x z c m = elim (Contains-split x y xs c) as (λ _. Contains (f y ++ flat_map f xs) z) [
  | inl s ↦ Contains-append_left (f y) (flat_map f xs) z (subst (λ w. Contains (f w) z) (sym s) m)
  | inr n ↦ Contains-append_right (f y) (flat_map f xs) z (Contains-joined f xs x z n m)
]

pub filter-same : {X : Type 0} (p q : X → Bool) (xs : List X) → ((x : X) → Contains xs x → p x ≡ q x) → filter p xs ≡ filter q xs
filter-same p q [] same = refl
filter-same {X} p q (x ∷ xs) same =
    ap (λ (b : Bool). if b then x ∷ filter p xs else filter p xs) (same x (Contains-head x xs))
    ∙ ap (λ (ys : List X). if q x then x ∷ ys else ys) (filter-same p q xs (λ y c. same y (Contains-tail y x xs c)))

-- what holds of all members of each list holds of those of all lists together
pub All-flat_map : {X Y : Type 0} (P : Y → Type 0) (f : X → List Y) (xs : List X) → ((x : X) → Contains xs x → All P (f x)) → All P (flat_map f xs)
All-flat_map P f [] h = λ k d l. absurd (omega (arith, l))
All-flat_map P f (x ∷ xs) h = All-append P (f x) (flat_map f xs) (h x (Contains-head x xs)) (All-flat_map P f xs (λ y c. h y (Contains-tail y x xs c)))

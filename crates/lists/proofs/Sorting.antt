-- Sorting a list of numbers: what it keeps, and its parity.
use Rattle.std.proofs.Common.{Bool, List, [], ap, arith, cond, false, inl, inr, refl, true, ℕ, ◌+◌, ◌<◌, ◌∙◌, ◌∷◌, ◌≡◌, ◌≤◌, suc, length}
use Rattle.std.proofs.lemmas.Bool.Decides.{nat_tests}
use Rattle.std.proofs.lemmas.List.Sums.{sum_by-cons}
use Rattle.std.specs.Prelude.{count_by, if◌then◌else◌, map, nat_eq, nat_le, nat_lt, ◌%◌, ◌≢◌, ◌⊎◌, All}
use Rattle.lists.specs.Members.{Distinct}
use Rattle.lists.specs.Orders.{inversions, put_in, sorted, exchange_last}
use Rattle.std.proofs.lemmas.List.Elements.{All-cons, All-head, All-tail}

-- 1 where the test holds
abbrev pub bit : Bool → ℕ
bit b = cond b 1 0

pub count_by-cons : {X : Type 0} (p : X → Bool) (x : X) (xs : List X) → count_by p (x ∷ xs) ≡ bit (p x) + count_by p xs
count_by-cons p x xs = sum_by-cons (λ y. cond (p y) 1 0) x xs

module _ (p : ℕ → Bool) where
  count-put_in_case : (x y : ℕ) (ys : List ℕ) → count_by p (put_in x ys) ≡ bit (p x) + count_by p ys → (b : Bool) →
      count_by p (if b then x ∷ y ∷ ys else y ∷ put_in x ys) ≡ bit (p x) + count_by p (y ∷ ys)
  count-put_in_case x y ys below true = count_by-cons p x (y ∷ ys)
  count-put_in_case x y ys below false = omega (arith, count_by-cons p y (put_in x ys), count_by-cons p y ys, below)

  pub count-put_in : (x : ℕ) (xs : List ℕ) → count_by p (put_in x xs) ≡ bit (p x) + count_by p xs
  count-put_in x [] = count_by-cons p x []
  count-put_in x (y ∷ ys) = count-put_in_case x y ys (count-put_in x ys) (nat_le x y)

  pub count-sorted : (xs : List ℕ) → count_by p (sorted xs) ≡ count_by p xs
  count-sorted [] = refl
  count-sorted (x ∷ xs) = omega (arith, count-put_in x (sorted xs), count_by-cons p x xs, count-sorted xs)

pub count-map : {X Y : Type 0} (p : Y → Bool) (f : X → Y) (xs : List X) → count_by p (map f xs) ≡ count_by (λ x. p (f x)) xs
count-map p f [] = refl
count-map p f (x ∷ xs) = omega (arith, count_by-cons p (f x) (map f xs), count_by-cons (λ x. p (f x)) x xs, count-map p f xs)

-- two members enter in either order
pub put_in_comm : (x y : ℕ) (zs : List ℕ) → put_in x (put_in y zs) ≡ put_in y (put_in x zs)
put_in_comm x y [] = grind (arith, nat_tests)
put_in_comm x y (z ∷ zs) = grind (arith, nat_tests, put_in_comm x y zs)

pub sorted-map-put_in_case : (f : ℕ → ℕ) (x y : ℕ) (ys : List ℕ) → sorted (map f (put_in x ys)) ≡ put_in (f x) (sorted (map f ys)) → (b : Bool) →
    sorted (map f (if b then x ∷ y ∷ ys else y ∷ put_in x ys)) ≡ put_in (f x) (put_in (f y) (sorted (map f ys)))
sorted-map-put_in_case f x y ys below true = refl
sorted-map-put_in_case f x y ys below false = ap (put_in (f y)) below ∙ put_in_comm (f y) (f x) (sorted (map f ys))

pub sorted-map-put_in : (f : ℕ → ℕ) (x : ℕ) (ys : List ℕ) → sorted (map f (put_in x ys)) ≡ put_in (f x) (sorted (map f ys))
sorted-map-put_in f x [] = refl
sorted-map-put_in f x (y ∷ ys) = sorted-map-put_in_case f x y ys (sorted-map-put_in f x ys) (nat_le x y)

pub sorted-map-sorted : (f : ℕ → ℕ) (xs : List ℕ) → sorted (map f (sorted xs)) ≡ sorted (map f xs)
sorted-map-sorted f [] = refl
sorted-map-sorted f (x ∷ xs) = sorted-map-put_in f x (sorted xs) ∙ ap (put_in (f x)) (sorted-map-sorted f xs)

-- fewer are below a smaller number
pub below_grows : (x y : ℕ) → x ≤ y → (zs : List ℕ) → count_by (λ z. nat_lt z x) zs ≤ count_by (λ z. nat_lt z y) zs
below_grows x y h [] = arith_zero
  where
    arith_zero : 0 ≤ 0
    arith_zero = omega arith
below_grows x y h (z ∷ zs) = grind (arith, nat_tests, count_by-cons (λ z. nat_lt z x) z zs, count_by-cons (λ z. nat_lt z y) z zs, below_grows x y h zs)

pub leb_or : (a b : ℕ) → ((nat_le a b ≡ true) × (a ≤ b)) ⊎ ((nat_le a b ≡ false) × (b < a))
leb_or a b = grind (arith, nat_tests)

pub inversions-put_in_low : (x y : ℕ) (ys : List ℕ) → inversions (y ∷ ys) ≡ 0 → x ≤ y → inversions (x ∷ y ∷ ys) ≡ 0
inversions-put_in_low x y ys none le =
    let first : bit (nat_lt y x) ≡ 0 = grind (arith, nat_tests) in
    omega (arith, count_by-cons (λ z. nat_lt z x) y ys, first, below_grows x y le ys)

pub inversions-put_in_high : (x y : ℕ) (ys : List ℕ) → inversions (y ∷ ys) ≡ 0 → y < x → inversions (put_in x ys) ≡ 0 → inversions (y ∷ put_in x ys) ≡ 0
inversions-put_in_high x y ys none gt rest =
    let first : bit (nat_lt x y) ≡ 0 = grind (arith, nat_tests) in
    omega (arith, count-put_in (λ z. nat_lt z y) x ys, first)

pub inversions-put_in_case : (x y : ℕ) (ys : List ℕ) → inversions (y ∷ ys) ≡ 0 → inversions (put_in x ys) ≡ 0 →
    ((nat_le x y ≡ true) × (x ≤ y)) ⊎ ((nat_le x y ≡ false) × (y < x)) → inversions (put_in x (y ∷ ys)) ≡ 0
inversions-put_in_case x y ys none rest (inl low) = rw low.0 (inversions-put_in_low x y ys none low.1)
inversions-put_in_case x y ys none rest (inr high) = rw high.0 (inversions-put_in_high x y ys none high.1 rest)

pub inversions-put_in : (x : ℕ) (ys : List ℕ) → inversions ys ≡ 0 → inversions (put_in x ys) ≡ 0
inversions-put_in x [] none = refl
inversions-put_in x (y ∷ ys) none =
    let rest : inversions ys ≡ 0 = omega arith in
    inversions-put_in_case x y ys none (inversions-put_in x ys rest) (leb_or x y)

-- nothing is left to sort
pub inversions-sorted : (xs : List ℕ) → inversions (sorted xs) ≡ 0
inversions-sorted [] = refl
inversions-sorted (x ∷ xs) = inversions-put_in x (sorted xs) (inversions-sorted xs)

-- the exchanges that sort a list and its image: their parity is that of any other order of the list
abbrev pub twist : (ℕ → ℕ) → List ℕ → ℕ
twist f xs = inversions xs + inversions (map f xs)

module _ (f : ℕ → ℕ) where
  pub twist-cons : (x : ℕ) (xs : List ℕ) → twist f (x ∷ xs) ≡ count_by (λ z. nat_lt z x) xs + count_by (λ z. nat_lt (f z) (f x)) xs + twist f xs
  twist-cons x xs = omega (arith, count-map (λ z. nat_lt z (f x)) f xs)

  twist-exchange : (x y : ℕ) (ys : List ℕ) → y < x → f x ≢ f y → twist f (y ∷ x ∷ ys) % 2 ≡ twist f (x ∷ y ∷ ys) % 2
  twist-exchange x y ys gt apart =
      let a : bit (nat_lt x y) ≡ 0 = grind (arith, nat_tests) in
      let b : bit (nat_lt y x) ≡ 1 = grind (arith, nat_tests) in
      let c : bit (nat_lt (f x) (f y)) + bit (nat_lt (f y) (f x)) ≡ 1 = grind (arith, nat_tests) in
      omega (
        arith,
        a,
        b,
        c,
        twist-cons y (x ∷ ys),
        twist-cons x ys,
        twist-cons x (y ∷ ys),
        twist-cons y ys,
        count_by-cons (λ z. nat_lt z y) x ys,
        count_by-cons (λ z. nat_lt (f z) (f y)) x ys,
        count_by-cons (λ z. nat_lt z x) y ys,
        count_by-cons (λ z. nat_lt (f z) (f x)) y ys,
      )

  twist-high : (x y : ℕ) (ys : List ℕ) → y < x → f x ≢ f y → twist f (put_in x ys) % 2 ≡ twist f (x ∷ ys) % 2
      → twist f (y ∷ put_in x ys) % 2 ≡ twist f (x ∷ y ∷ ys) % 2
  twist-high x y ys gt apart rest =
      omega (
        arith,
        rest,
        twist-exchange x y ys gt apart,
        twist-cons y (put_in x ys),
        twist-cons y (x ∷ ys),
        count-put_in (λ z. nat_lt z y) x ys,
        count-put_in (λ z. nat_lt (f z) (f y)) x ys,
        count_by-cons (λ z. nat_lt z y) x ys,
        count_by-cons (λ z. nat_lt (f z) (f y)) x ys,
      )

  twist-put_in_case : (x y : ℕ) (ys : List ℕ) → f x ≢ f y → twist f (put_in x ys) % 2 ≡ twist f (x ∷ ys) % 2 →
      ((nat_le x y ≡ true) × (x ≤ y)) ⊎ ((nat_le x y ≡ false) × (y < x)) → twist f (put_in x (y ∷ ys)) % 2 ≡ twist f (x ∷ y ∷ ys) % 2
  twist-put_in_case x y ys apart rest (inl low) = rw low.0 refl
  twist-put_in_case x y ys apart rest (inr high) = rw high.0 (twist-high x y ys high.1 apart rest)

  pub twist-put_in : (x : ℕ) (ys : List ℕ) → count_by (λ z. nat_eq (f x) (f z)) ys ≡ 0 → twist f (put_in x ys) % 2 ≡ twist f (x ∷ ys) % 2
  twist-put_in x [] none = refl
  twist-put_in x (y ∷ ys) none =
      let apart : f x ≢ f y = grind (arith, nat_tests, count_by-cons (λ z. nat_eq (f x) (f z)) y ys, none) in
      let rest : count_by (λ z. nat_eq (f x) (f z)) ys ≡ 0 = omega (arith, count_by-cons (λ z. nat_eq (f x) (f z)) y ys) in
      twist-put_in_case x y ys apart (twist-put_in x ys rest) (leb_or x y)

  pub twist-sorted : (xs : List ℕ) → Distinct (map f xs) → twist f (sorted xs) % 2 ≡ twist f xs % 2
  twist-sorted [] apart = refl
  twist-sorted (x ∷ xs) apart =
      let none : count_by (λ z. nat_eq (f x) (f z)) (sorted xs) ≡ 0 =
      omega (arith, count-sorted (λ z. nat_eq (f x) (f z)) xs, count-map (nat_eq (f x)) f xs, apart.0) in
      omega (
        arith,
        twist-put_in x (sorted xs) none,
        twist-sorted xs apart.1,
        twist-cons x (sorted xs),
        twist-cons x xs,
        count-sorted (λ z. nat_lt z x) xs,
        count-sorted (λ z. nat_lt (f z) (f x)) xs,
      )

  -- so the order of the image of a sorted list tells how the order of the list's own image differs from the list's
  pub image_order : (xs : List ℕ) → Distinct (map f xs) → (inversions xs + inversions (map f xs)) % 2 ≡ inversions (map f (sorted xs)) % 2
  image_order xs apart = omega (arith, twist-sorted xs apart, inversions-sorted xs)

pub length-exchange : (w : List ℕ) → length (exchange_last w) ≡ length w
length-exchange [] = refl
length-exchange (x ∷ []) = refl
length-exchange (x ∷ y ∷ []) = refl
length-exchange (x ∷ y ∷ z ∷ w) = ap suc (length-exchange (y ∷ z ∷ w))

pub All-exchange_last : (P : ℕ → Type 0) (w : List ℕ) → All P w → All P (exchange_last w)
All-exchange_last P [] a = a
All-exchange_last P (x ∷ []) a = a
All-exchange_last P (x ∷ y ∷ []) a =
    let rest = All-tail P x (y ∷ []) a in
    All-cons P y (x ∷ []) (All-head P y [] rest) (All-cons P x [] (All-head P x (y ∷ []) a) (All-tail P y [] rest))
All-exchange_last P (x ∷ y ∷ z ∷ w) a =
    All-cons P x (exchange_last (y ∷ z ∷ w)) (All-head P x (y ∷ z ∷ w) a) (All-exchange_last P (y ∷ z ∷ w) (All-tail P x (y ∷ z ∷ w) a))

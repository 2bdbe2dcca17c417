-- Counts and sums to which only one or two members add.
use Rattle.std.proofs.Common.{Bool, List, [], ap, arith, cond, false, inl, inr, refl, subst, sym, true, ℕ, ◌+◌, ◌∙◌, ◌∷◌, ◌≡◌, ◌≤◌}
use Rattle.std.proofs.lemmas.Bool.Decides.{nat_tests}
use Rattle.std.proofs.lemmas.List.Sums.{sum_by-append, sum_by-cons}
use Rattle.std.specs.Prelude.{count_by, flat_map, nat_eq, sum_by, ◌≢◌}
use Rattle.lists.proofs.Sorting.{bit, count_by-cons}
use Rattle.lists.specs.Members.{In, Distinct}

-- none passes, or one does
pub zero_bit : (b : Bool) → (b ≡ true → ⊥) → bit b ≡ 0
zero_bit true h = absurd (h refl)
zero_bit false h = refl

pub count_none : {X : Type 0} (p : X → Bool) (xs : List X) → ((x : X) → In x xs → p x ≡ true → ⊥) → count_by p xs ≡ 0
count_none p [] fails = refl
count_none p (x ∷ xs) fails =
    let first : bit (p x) ≡ 0 = zero_bit (p x) (fails x (inl refl)) in
    omega (arith, count_by-cons p x xs, first, count_none p xs (λ y i e. fails y (inr i) e))

pub count_some : {X : Type 0} (p : X → Bool) (xs : List X) (x : X) → In x xs → p x ≡ true → 1 ≤ count_by p xs
count_some p [] x i e = absurd i
count_some {X} p (y ∷ xs) x (inl same) e =
    let first : bit (p y) ≡ 1 = ap bit (subst (λ (v : X). p v ≡ true) same e) in
    omega (arith, count_by-cons p y xs, first)
count_some p (y ∷ xs) x (inr i) e = omega (arith, count_by-cons p y xs, count_some p xs x i e)

pub from_count_case : {X : Type 0} (p : X → Bool) (x : X) (xs : List X) → 1 ≤ count_by p (x ∷ xs) → (b : Bool) → p x ≡ b
    → (1 ≤ count_by p xs → (y : X) × In y xs × (p y ≡ true)) →
    (y : X) × In y (x ∷ xs) × (p y ≡ true)
from_count_case p x xs h true e later = (x, inl refl, e)
from_count_case p x xs h false e later = let r = later (omega (arith, count_by-cons p x xs, ap bit e)) in (r.0, inr r.1, r.2)

pub from_count : {X : Type 0} (p : X → Bool) (xs : List X) → 1 ≤ count_by p xs → (x : X) × In x xs × (p x ≡ true)
from_count p [] h = absurd (omega (arith, h))
from_count {X} p (x ∷ xs) h = from_count_case p x xs h (p x) refl (from_count p xs)

-- a member of a list that stands there once differs from the others
pub apart : (x y : ℕ) (xs : List ℕ) → count_by (nat_eq x) xs ≡ 0 → In y xs → y ≢ x
apart x y xs none i e =
    let same : nat_eq x y ≡ true = grind (arith, nat_tests) in
    let some : 1 ≤ count_by (nat_eq x) xs = count_some (nat_eq x) xs y i same in
    absurd (omega (arith, some, none))

module _ (g : ℕ → ℕ) where
  pub sum_none : (xs : List ℕ) → ((d : ℕ) → In d xs → g d ≡ 0) → sum_by g xs ≡ 0
  sum_none [] zeros = refl
  sum_none (x ∷ xs) zeros = omega (arith, sum_by-cons g x xs, zeros x (inl refl), sum_none xs (λ d i. zeros d (inr i)))

  -- the one cell that adds to a sum
  pub sum_one : (xs : List ℕ) (c : ℕ) → Distinct xs → In c xs → ((d : ℕ) → In d xs → d ≢ c → g d ≡ 0) → sum_by g xs ≡ g c
  sum_one [] c alone i zeros = absurd i
  sum_one (x ∷ xs) c alone (inl e) zeros =
      let none : sum_by g xs ≡ 0 = sum_none xs (λ d i. zeros d (inr i) (λ s. apart x d xs alone.0 i (s ∙ e))) in
      omega (arith, sum_by-cons g x xs, none, ap g e)
  sum_one (x ∷ xs) c alone (inr i) zeros =
      let first : g x ≡ 0 = zeros x (inl refl) (λ s. apart x c xs alone.0 i (sym s)) in
      omega (arith, sum_by-cons g x xs, first, sum_one xs c alone.1 i (λ d j. zeros d (inr j)))

  -- the two cells that add to it
  pub sum_two : (xs : List ℕ) (c d : ℕ) → Distinct xs → c ≢ d → In c xs → In d xs → ((e : ℕ) → In e xs → e ≢ c → e ≢ d → g e ≡ 0) → sum_by g xs ≡ g c + g d
  sum_two [] c d alone differ i j zeros = absurd i
  sum_two (x ∷ xs) c d alone differ (inl e) (inl e') zeros = absurd (differ (e ∙ sym e'))
  sum_two (x ∷ xs) c d alone differ (inl e) (inr j) zeros =
      let others : sum_by g xs ≡ g d = sum_one xs d alone.1 j (λ y i s. zeros y (inr i) (λ t. apart x y xs alone.0 i (t ∙ e)) s) in
      omega (arith, sum_by-cons g x xs, others, ap g e)
  sum_two (x ∷ xs) c d alone differ (inr i) (inl e) zeros =
      let others : sum_by g xs ≡ g c = sum_one xs c alone.1 i (λ y j s. zeros y (inr j) s (λ t. apart x y xs alone.0 j (t ∙ e))) in
      omega (arith, sum_by-cons g x xs, others, ap g e)
  sum_two (x ∷ xs) c d alone differ (inr i) (inr j) zeros =
      let first : g x ≡ 0 = zeros x (inl refl) (λ s. apart x c xs alone.0 i (sym s)) (λ s. apart x d xs alone.0 j (sym s)) in
      omega (arith, sum_by-cons g x xs, first, sum_two xs c d alone.1 differ i j (λ y k. zeros y (inr k)))

-- a count over pieces is the sum of the pieces' counts
pub count-flat_map : {X Y : Type 0} (p : Y → Bool) (f : X → List Y) (xs : List X) → count_by p (flat_map f xs) ≡ sum_by (λ x. count_by p (f x)) xs
count-flat_map p f [] = refl
count-flat_map p f (x ∷ xs) =
    omega (arith, sum_by-append (λ y. cond (p y) 1 0) (f x) (flat_map f xs), sum_by-cons (λ x. count_by p (f x)) x xs, count-flat_map p f xs)

-- what is no member is counted nowhere, and the other way round
pub never_there : (x : ℕ) (xs : List ℕ) → (In x xs → ⊥) → count_by (nat_eq x) xs ≡ 0
never_there x xs never = count_none (nat_eq x) xs (λ y i e. let same : x ≡ y = grind (arith, nat_tests, e) in never (subst (λ (z : ℕ). In z xs) (sym same) i))

pub not_there : (x : ℕ) (xs : List ℕ) → count_by (nat_eq x) xs ≡ 0 → In x xs → ⊥
not_there x xs none i =
    let self : nat_eq x x ≡ true = grind (arith, nat_tests) in
    omega (arith, none, count_some (nat_eq x) xs x i self)

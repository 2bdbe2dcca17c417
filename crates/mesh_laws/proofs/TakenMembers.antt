-- A list without one of its members, and what sorting makes of both.
use Rattle.std.proofs.Common.{◌≡◌, ℕ, ◌+◌, ◌<◌, ◌≤◌, Bool, true, false, List, [], ◌∷◌, length, refl, ap, sym, ◌∙◌, subst, arith, inl, inr}
use Rattle.std.specs.Prelude.{count_by, nat_eq, nat_le, ◌⊎◌}
use Rattle.std.proofs.lemmas.Bool.Decides.{nat_tests}
use Rattle.lists.specs.Orders.{put_in, sorted}
use Rattle.lists.specs.Members.{In, Distinct, Ascends}
use Rattle.lists.proofs.Tests.{same_number}
use Rattle.lists.proofs.Sorting.{bit, count_by-cons, count-sorted, put_in_comm}
use Rattle.lists.proofs.Counts.{count_some, from_count, not_there}

-- l is w without one member g
pub data Takes : ℕ → List ℕ → List ℕ → Type 0 where
  here : {x : ℕ} {xs : List ℕ} → Takes x xs (x ∷ xs)
  later : {g x : ℕ} {l xs : List ℕ} → Takes g l xs → Takes g (x ∷ l) (x ∷ xs)

pub Takes-case : {g : ℕ} {l : List ℕ} {x : ℕ} {xs : List ℕ} → Takes g l (x ∷ xs) → ((g ≡ x) × (l ≡ xs)) ⊎ ((k : List ℕ) × Takes g k xs × (l ≡ x ∷ k))
Takes-case here = inl (refl, refl)
Takes-case (later {l = k} t) = inr (k, t, refl)

pub takes_member : (f : ℕ) (w : List ℕ) → In f w → (l : List ℕ) × Takes f l w
takes_member f [] i = absurd i
takes_member f (x ∷ xs) (inl e) = (xs, subst (λ (g : ℕ). Takes g xs (x ∷ xs)) (sym e) here)
takes_member f (x ∷ xs) (inr i) = let r = takes_member f xs i in (x ∷ r.0, later r.1)

pub Takes-length : {g : ℕ} {l w : List ℕ} → Takes g l w → length w ≡ length l + 1
Takes-length here = omega arith
Takes-length (later t) = let n = Takes-length t in omega arith

pub Takes-count : (p : ℕ → Bool) {g : ℕ} {l w : List ℕ} → Takes g l w → count_by p w ≡ bit (p g) + count_by p l
Takes-count p (here {x = x} {xs = xs}) = count_by-cons p x xs
Takes-count p (later {x = x} {l = l} {xs = xs} t) = omega (arith, count_by-cons p x xs, count_by-cons p x l, Takes-count p t)

pub Takes-sorted : {g : ℕ} {l w : List ℕ} → Takes g l w → sorted w ≡ put_in g (sorted l)
Takes-sorted here = refl
Takes-sorted (later {g = g} {x = x} {l = l} t) = ap (put_in x) (Takes-sorted t) ∙ put_in_comm x g (sorted l)

-- what is in the list is taken or left
pub Takes-In : {g : ℕ} {l w : List ℕ} → Takes g l w → (y : ℕ) → In y w → (y ≡ g) ⊎ In y l
Takes-In here y (inl e) = inl e
Takes-In here y (inr i) = inr i
Takes-In (later t) y (inl e) = inr (inl e)
Takes-In (later t) y (inr i) = elim (Takes-In t y i) [ inl e ↦ inl e | inr j ↦ inr (inr j) ]

pub Takes-In_left : {g : ℕ} {l w : List ℕ} → Takes g l w → (y : ℕ) → In y l → In y w
Takes-In_left here y i = inr i
Takes-In_left (later t) y (inl e) = inl e
Takes-In_left (later t) y (inr i) = inr (Takes-In_left t y i)

pub Takes-In_taken : {g : ℕ} {l w : List ℕ} → Takes g l w → In g w
Takes-In_taken here = inl refl
Takes-In_taken (later t) = inr (Takes-In_taken t)

-- ---- members and sorting

self : (x : ℕ) → nat_eq x x ≡ true
self x = grind (arith, nat_tests)

In_of_count : (x : ℕ) (xs : List ℕ) → 1 ≤ count_by (nat_eq x) xs → In x xs
In_of_count x xs h = let r = from_count (nat_eq x) xs h in subst (λ (y : ℕ). In y xs) (same_number x r.0 r.2) r.1

count_of_In : (x : ℕ) (xs : List ℕ) → In x xs → 1 ≤ count_by (nat_eq x) xs
count_of_In x xs i = count_some (nat_eq x) xs x i (self x)

pub In-sorted : (x : ℕ) (xs : List ℕ) → In x xs → In x (sorted xs)
In-sorted x xs i = In_of_count x (sorted xs) (omega (arith, count-sorted (nat_eq x) xs, count_of_In x xs i))

pub from_In-sorted : (x : ℕ) (xs : List ℕ) → In x (sorted xs) → In x xs
from_In-sorted x xs i = In_of_count x xs (omega (arith, count-sorted (nat_eq x) xs, count_of_In x (sorted xs) i))

-- in a list of different numbers what is taken is not left
pub Takes-apart : {g : ℕ} {l w : List ℕ} → Takes g l w → Distinct w → (count_by (nat_eq g) l ≡ 0) × Distinct l
Takes-apart here d = (d.0, d.1)
Takes-apart (later {g = g} {x = x} {l = l} {xs = xs} t) d =
    let r = Takes-apart t d.1 in
    let x_in : 1 ≤ count_by (nat_eq g) xs = count_of_In g xs (Takes-In_taken t) in
    let apart : bit (nat_eq g x) ≡ 0 =
    not_here (nat_eq g x) (λ e. not_there x xs d.0 (subst (λ (y : ℕ). In y xs) (sym (same_number g x e)) (Takes-In_taken t))) in
    let none : count_by (nat_eq x) l ≡ 0 = omega (arith, Takes-count (nat_eq x) t, d.0) in
    (omega (arith, count_by-cons (nat_eq g) x l, r.0, apart), (none, r.1))
  where
    not_here : (b : Bool) → (b ≡ true → ⊥) → bit b ≡ 0
    not_here true h = absurd (h refl)
    not_here false h = refl

-- ---- ascending lists

pub enters_first : (f : ℕ) (fs : List ℕ) → ((y : ℕ) → In y fs → f < y) → put_in f fs ≡ f ∷ fs
enters_first f [] h = refl
enters_first f (y ∷ ys) h =
    let less : f < y = h y (inl refl) in
    let test : nat_le f y ≡ true = grind (arith, nat_tests) in
    rw test refl

-- ---- a list with the numbers of a face, and one more

-- of two members that are taken, the second may be taken first
takes_in_turn : {f g : ℕ} {k l w : List ℕ} → Takes f k w → Takes g l k → (m : List ℕ) × Takes g m w × (sorted m ≡ put_in f (sorted l))
takes_in_turn {f} {g} {k} {l} (here {x = x}) t = (x ∷ l, later t, refl)
takes_in_turn {f} {g} {k} {l} {w} (later {x = x} {l = k1} {xs = xs} s) t = elim (Takes-case t) [
  | inl e ↦ (xs, subst (λ (h : ℕ). Takes h xs (x ∷ xs)) (sym e.0) here, Takes-sorted s ∙ ap (λ (v : List ℕ). put_in f (sorted v)) (sym e.1))
  | inr r ↦
      (let u = takes_in_turn s r.1 in
      (x ∷ u.0, later u.1, ap (put_in x) u.2 ∙ put_in_comm x f (sorted r.0) ∙ ap (λ (v : List ℕ). put_in f (sorted v)) (sym r.2)))
]

pub one_more : (face w : List ℕ) → Ascends face → length w ≡ length face + 1 → ((f : ℕ) → In f face → In f w)
    → (g : ℕ) × (l : List ℕ) × Takes g l w × (sorted l ≡ face)
one_more [] [] a n all = absurd (omega arith)
one_more [] (x ∷ []) a n all = (x, [], here, refl)
one_more [] (x ∷ y ∷ w) a n all = absurd (omega arith)
one_more (f ∷ fs) w a n all =
    let r = takes_member f w (all f (inl refl)) in
    let k = r.0 in
    let t : Takes f k w = r.1 in
    let u = one_more fs k a.1 (omega (arith, n, Takes-length t)) (λ y i. elim (Takes-In t y (all y (inr i))) as (λ _. In y k) [
      | inl e ↦ absurd (let less : f < y = a.0 y i in omega (arith, less, e))
      | inr j ↦ j
    ]) in
    let v = takes_in_turn t u.2 in
    (u.0, v.0, v.1, v.2 ∙ ap (put_in f) u.3 ∙ enters_first f fs a.0)

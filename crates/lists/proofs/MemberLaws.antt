-- Members of lists, and tests of all or of some members.
use Rattle.std.proofs.Common.{Bool, List, [], ap, arith, cond, false, get_or, inl, inr, length, refl, subst, suc, sym, true, zero, ℕ, ◌++◌, ◌+◌}
use Rattle.std.proofs.Common.{◌<◌, ◌||◌, ◌∙◌, ◌∷◌, ◌≡◌, ◌≤◌, ◌%◌, ◌≢◌, ℤ, pos, slice_set, below_more, get_or-set_other, get_or-set_same, Option, Some}
use Rattle.std.proofs.lemmas.Bool.{cases_eq, or_cases, or_left, both_ways, or_right}
use Rattle.std.proofs.lemmas.List.FromFn.{get_or-map-range_with_len}
use Rattle.std.specs.List.{list_all, list_any, range_with_len, last_or, AllPass}
use Rattle.std.specs.Prelude.{All, Contains, filter, flat_map, map, nat_eq, slice_index_or, ◌⊎◌, slice_index, ◌==◌}
use Rattle.lists.proofs.Tests.{and_left, and_right, same_number, equal_self}
use Rattle.lists.specs.Members.{In, Each}
use Rattle.lists.specs.Orders.{has, same_list}
use Rattle.std.proofs.Math.ListN.{length-set}
use Rattle.std.proofs.lemmas.Slice.Eq.{bytes_eq-Decides}

pub In_from_place : {X : Type 0} (xs : List X) (x : X) (k : ℕ) → k < length xs → get_or xs k x ≡ x → In x xs
In_from_place [] x k h e = absurd (omega arith)
In_from_place (y ∷ xs) x zero h e = inl (sym e)
In_from_place (y ∷ xs) x (suc k) h e = inr (In_from_place xs x k (omega arith) e)

pub In_from : {X : Type 0} (xs : List X) (x : X) → Contains xs x → In x xs
In_from xs x c = In_from_place xs x c.0 c.1 c.2

pub Contains_from : {X : Type 0} (xs : List X) (x : X) → In x xs → Contains xs x
Contains_from [] x i = absurd i
Contains_from (y ∷ xs) x (inl e) = (0, omega arith, sym e)
Contains_from (y ∷ xs) x (inr i) = let c = Contains_from xs x i in (suc c.0, omega (arith, c.1), c.2)

pub In-map : {X Y : Type 0} (f : X → Y) (xs : List X) (x : X) → In x xs → In (f x) (map f xs)
In-map f [] x i = absurd i
In-map f (y ∷ xs) x (inl e) = inl (ap f e)
In-map f (y ∷ xs) x (inr i) = inr (In-map f xs x i)

pub from_In-map : {X Y : Type 0} (f : X → Y) (xs : List X) (y : Y) → In y (map f xs) → (x : X) × In x xs × (y ≡ f x)
from_In-map f [] y i = absurd i
from_In-map f (x ∷ xs) y (inl e) = (x, inl refl, e)
from_In-map f (x ∷ xs) y (inr i) = let r = from_In-map f xs y i in (r.0, inr r.1, r.2)

pub from_any : {X : Type 0} (p : X → Bool) (xs : List X) → list_any p xs ≡ true → (x : X) × In x xs × (p x ≡ true)
from_any p [] h = absurd (cc)
from_any {X} p (x ∷ xs) h = elim (or_cases (p x) (list_any p xs) h) [
  | inl e ↦ (x, inl refl, e)
  | inr e ↦ (let r = from_any p xs e in (r.0, inr r.1, r.2))
]

pub any_from : {X : Type 0} (p : X → Bool) (xs : List X) (x : X) → In x xs → p x ≡ true → list_any p xs ≡ true
any_from p [] x i e = absurd i
any_from {X} p (y ∷ xs) x (inl same) e = or_left (p y) (list_any p xs) (subst (λ (v : X). p v ≡ true) same e)
any_from p (y ∷ xs) x (inr i) e = or_right (p y) (list_any p xs) (any_from p xs x i e)

pub all_In : {X : Type 0} (p : X → Bool) (xs : List X) → list_all p xs ≡ true → (x : X) → In x xs → p x ≡ true
all_In p [] h x i = absurd i
all_In {X} p (y ∷ xs) h x (inl e) = subst (λ (v : X). p v ≡ true) (sym e) (and_left (p y) (list_all p xs) h)
all_In p (y ∷ xs) h x (inr i) = all_In p xs (and_right (p y) (list_all p xs) h) x i

pub all_from : {X : Type 0} (p : X → Bool) (xs : List X) → ((x : X) → In x xs → p x ≡ true) → list_all p xs ≡ true
all_from p [] h = refl
all_from p (y ∷ xs) h = rw (h y (inl refl), all_from p xs (λ x i. h x (inr i))) refl

pub In-range : (a n k : ℕ) → a ≤ k → k < a + n → In k (range_with_len a n)
In-range a zero k low high = absurd (omega (arith, low, high))
In-range a (suc n) k low high = elim (cases_eq k a) [ inl e ↦ inl e | inr differ ↦ inr (In-range (a + 1) n k (omega (arith, low)) (omega (arith, high))) ]

pub from_In-range : (a n x : ℕ) → In x (range_with_len a n) → x < a + n
from_In-range a zero x i = absurd i
from_In-range a (suc n) x (inl q) = omega (arith, q)
from_In-range a (suc n) x (inr i) = omega (arith, from_In-range (a + 1) n x i)

pub In-numbers : (n k : ℕ) → k < n → In k (range_with_len 0 n)
In-numbers n k h = In-range 0 n k (omega arith) (omega (arith, h))

pub from_In-numbers : (n k : ℕ) → In k (range_with_len 0 n) → k < n
from_In-numbers n k i = omega (arith, from_In-range 0 n k i)

-- a test that all numbers below n pass
pub all_below : (n : ℕ) (p : ℕ → Bool) → list_all p (range_with_len 0 n) ≡ true → (k : ℕ) → k < n → p k ≡ true
all_below n p h k below = all_In p (range_with_len 0 n) h k (In-numbers n k below)

pub In-filter_case : {X : Type 0} (p : X → Bool) (x y : X) (ys : List X) → In x (y ∷ ys) → p x ≡ true → (In x ys → In x (filter p ys)) → (b : Bool)
    → p y ≡ b → In x (cond b (y ∷ filter p ys) (filter p ys))
In-filter_case p x y ys (inl e) h later true is = inl e
In-filter_case {X} p x y ys (inl e) h later false is = let both_ways : true ≡ false = sym h ∙ ap p e ∙ is in absurd (cc)
In-filter_case p x y ys (inr i) h later true is = inr (later i)
In-filter_case p x y ys (inr i) h later false is = later i

pub In-filter : {X : Type 0} (p : X → Bool) (xs : List X) (x : X) → In x xs → p x ≡ true → In x (filter p xs)
In-filter p [] x i h = absurd i
In-filter p (y ∷ ys) x i h = In-filter_case p x y ys i h (λ j. In-filter p ys x j h) (p y) refl

pub from_filter_case : {X : Type 0} (p : X → Bool) (x y : X) (ys : List X) → (In x (filter p ys) → In x ys × (p x ≡ true)) → (b : Bool) → p y ≡ b
    → In x (cond b (y ∷ filter p ys) (filter p ys)) → In x (y ∷ ys) × (p x ≡ true)
from_filter_case {X} p x y ys later true is (inl e) = (inl e, subst (λ (v : X). p v ≡ true) (sym e) is)
from_filter_case p x y ys later true is (inr i) = let r = later i in (inr r.0, r.1)
from_filter_case p x y ys later false is i = let r = later i in (inr r.0, r.1)

pub from_filter : {X : Type 0} (p : X → Bool) (xs : List X) (x : X) → In x (filter p xs) → In x xs × (p x ≡ true)
from_filter p [] x i = absurd i
from_filter p (y ∷ ys) x i = from_filter_case p x y ys (from_filter p ys x) (p y) refl i

pub at_numbers : {X : Type 0} (f : ℕ → X) (n k : ℕ) (d : X) → k < n → get_or (map f (range_with_len 0 n)) k d ≡ f k
at_numbers f n k d h = get_or-map-range_with_len f 0 n k k d h (omega arith)

pub All-from_In : {X : Type 0} (P : X → Type 0) (xs : List X) → ((x : X) → In x xs → P x) → All P xs
All-from_In {X} P xs h k d below = h (get_or xs k d) (In_at xs k d below)
  where
    In_at : (ys : List X) (i : ℕ) (e : X) → i < length ys → In (get_or ys i e) ys
    In_at [] i e q = absurd (omega (arith, q))
    In_at (y ∷ ys) zero e q = inl refl
    In_at (y ∷ ys) (suc i) e q = inr (In_at ys i e (omega (arith, q)))

pub In-append_left : {X : Type 0} (xs ys : List X) (x : X) → In x xs → In x (xs ++ ys)
In-append_left [] ys x i = absurd i
In-append_left (y ∷ xs) ys x (inl e) = inl e
In-append_left (y ∷ xs) ys x (inr i) = inr (In-append_left xs ys x i)

pub In-append_right : {X : Type 0} (xs ys : List X) (x : X) → In x ys → In x (xs ++ ys)
In-append_right [] ys x i = i
In-append_right (y ∷ xs) ys x i = inr (In-append_right xs ys x i)

pub from_In-append : {X : Type 0} (xs ys : List X) (x : X) → In x (xs ++ ys) → In x xs ⊎ In x ys
from_In-append [] ys x i = inr i
from_In-append (y ∷ xs) ys x (inl e) = inl (inl e)
from_In-append (y ∷ xs) ys x (inr i) = elim (from_In-append xs ys x i) [ inl a ↦ inl (inr a) | inr b ↦ inr b ]

pub In-flat_map : {X Y : Type 0} (f : X → List Y) (xs : List X) (x : X) (y : Y) → In x xs → In y (f x) → In y (flat_map f xs)
In-flat_map f [] x y i j = absurd i
In-flat_map {X} {Y} f (z ∷ xs) x y (inl e) j = In-append_left (f z) (flat_map f xs) y (subst (λ (v : X). In y (f v)) e j)
In-flat_map f (z ∷ xs) x y (inr i) j = In-append_right (f z) (flat_map f xs) y (In-flat_map f xs x y i j)

pub from_In-flat_map : {X Y : Type 0} (f : X → List Y) (xs : List X) (y : Y) → In y (flat_map f xs) → (x : X) × In x xs × In y (f x)
from_In-flat_map f [] y i = absurd i
from_In-flat_map {X} {Y} f (z ∷ xs) y i = elim (from_In-append (f z) (flat_map f xs) y i) [
  | inl a ↦ (z, inl refl, a)
  | inr b ↦ (let r = from_In-flat_map f xs y b in (r.0, inr r.1, r.2))
]

pub In_of_has : (xs : List ℕ) (x : ℕ) → has xs x ≡ true → In x xs
In_of_has xs x h = let r = from_any (nat_eq x) xs h in subst (λ (y : ℕ). In y xs) (same_number x r.0 r.2) r.1

pub has_of_In : (xs : List ℕ) (x : ℕ) → In x xs → has xs x ≡ true
has_of_In xs x i = any_from (nat_eq x) xs x i (equal_self x)

pub not_In_of_has : (xs : List ℕ) (x : ℕ) → has xs x ≡ false → In x xs → ⊥
not_In_of_has xs x h i = both_ways (has xs x) h (has_of_In xs x i)

pub above_range : (a n y : ℕ) → In y (range_with_len a n) → a ≤ y
above_range a zero y i = absurd i
above_range a (suc n) y (inl e) = omega (arith, e)
above_range a (suc n) y (inr i) = omega (arith, above_range (a + 1) n y i)

pub Each-In : (D : ℕ → Type 0) (w : List ℕ) → Each D w → (x : ℕ) → In x w → D x
Each-In D [] all x i = absurd i
Each-In D (y ∷ w) all x (inl e) = subst D (sym e) all.0
Each-In D (y ∷ w) all x (inr i) = Each-In D w all.1 x i

pub Each-from_In : (D : ℕ → Type 0) (w : List ℕ) → ((x : ℕ) → In x w → D x) → Each D w
Each-from_In D [] h = tt
Each-from_In D (y ∷ w) h = (h y (inl refl), Each-from_In D w (λ x i. h x (inr i)))

pub Each-map : (D : ℕ → Type 0) (f : ℕ → ℕ) (w : List ℕ) → Each (λ x. D (f x)) w → Each D (map f w)
Each-map D f [] all = tt
Each-map D f (x ∷ w) all = (all.0, Each-map D f w all.1)

pub from_Each-map : (D : ℕ → Type 0) (f : ℕ → ℕ) (w : List ℕ) → Each D (map f w) → Each (λ x. D (f x)) w
from_Each-map D f [] all = tt
from_Each-map D f (x ∷ w) all = (all.0, from_Each-map D f w all.1)

-- what stands at a place of a list is a member of it
pub In_place : (ws : List (List ℕ)) (i : ℕ) → i < length ws → In (slice_index_or ws i []) ws
In_place [] i h = absurd (omega (arith, h))
In_place (w ∷ ws) zero h = inl refl
In_place (w ∷ ws) (suc i) h = inr (In_place ws i (omega (arith, h)))

pub map_same : {X Y : Type 0} (f g : X → Y) (xs : List X) → ((x : X) → In x xs → f x ≡ g x) → map f xs ≡ map g xs
map_same f g [] h = refl
map_same {X} {Y} f g (x ∷ xs) h = ap (λ (y : Y). y ∷ map f xs) (h x (inl refl)) ∙ ap (λ (ys : List Y). g x ∷ ys) (map_same f g xs (λ y i. h y (inr i)))

pub map-map : {X Y Z : Type 0} (f : X → Y) (g : Y → Z) (xs : List X) → map g (map f xs) ≡ map (λ x. g (f x)) xs
map-map f g [] = refl
map-map f g (x ∷ xs) = ap (λ ys. g (f x) ∷ ys) (map-map f g xs)

pub list_any-map : {X Y : Type 0} (p : Y → Bool) (f : X → Y) (xs : List X) → list_any p (map f xs) ≡ list_any (λ x. p (f x)) xs
list_any-map p f [] = refl
list_any-map p f (x ∷ xs) = ap (λ b. p (f x) || b) (list_any-map p f xs)

pub map-range_more : {Y : Type 0} (f : ℕ → Y) (a n : ℕ) → map f (range_with_len (a + 1) n) ≡ map (λ i. f (i + 1)) (range_with_len a n)
map-range_more f a zero = refl
map-range_more f a (suc n) = ap (λ ys. f (a + 1) ∷ ys) (map-range_more f (a + 1) n)

pub same_head : (x y : List ℕ) (xs ys : List (List ℕ)) → x ∷ xs ≡ y ∷ ys → x ≡ y
same_head x y xs ys e = cc

pub even_all : (p : List ℕ) → ((i : ℕ) → i < length p → slice_index p i % 2 ≡ 0) → list_all (λ c. c % 2 == 0) p ≡ true
even_all [] h = refl
even_all (c ∷ p) h =
    let first : c % 2 ≡ 0 = h 0 (omega arith) in
    let rest : list_all (λ c. c % 2 == 0) p ≡ true = even_all p (λ i k. h (suc i) (omega (arith, k))) in
    rw (first, rest) refl

pub set_next : (f : ℕ → ℤ) (xs : List ℤ) (a n : ℕ) (v : ℤ) → length xs ≡ n → a < n → ((i : ℕ) → i < a → slice_index_or xs i (pos 0) ≡ f i) → v ≡ f a →
    (length (slice_set xs a v) ≡ n) × ((i : ℕ) → i < a + 1 → slice_index_or (slice_set xs a v) i (pos 0) ≡ f i)
set_next f xs a n v long inside before here =
    let at : a < length xs = omega (arith, long, inside) in (
      simp length-set long,
      below_more (λ i. slice_index_or (slice_set xs a v) i (pos 0) ≡ f i) a
          (λ i h. let apart : i ≢ a = omega (arith, h) in rw get_or-set_other (before i h))
          (rw get_or-set_same here),
    )

pub has_contains : (xs : List ℕ) (e : ℕ) → has xs e ≡ true → Contains xs e
has_contains xs e h = Contains_from xs e (In_of_has xs e h)

pub contains_has : (xs : List ℕ) (e : ℕ) → Contains xs e → has xs e ≡ true
contains_has xs e c = has_of_In xs e (In_from_place xs e c.0 c.1 c.2)

pub range-push : (a n : ℕ) → range_with_len a (n + 1) ≡ range_with_len a n ++ (a + n) ∷ []
range-push a zero = let e : a ≡ a + 0 = omega arith in ap (λ k. k ∷ []) e
range-push a (suc n) =
    let e : suc n + 1 ≡ suc (n + 1) = omega arith in
    let f : a + 1 + n ≡ a + suc n = omega arith in
    ap (range_with_len a) e ∙ ap (λ l. a ∷ l) (range-push (a + 1) n) ∙ ap (λ k. a ∷ (range_with_len (a + 1) n ++ k ∷ [])) f

pub mapped_from : (f : ℕ → ℕ) (xs ys : List ℕ) → length ys ≡ length xs → ((k : ℕ) → k < length xs → slice_index ys k ≡ f (slice_index xs k)) → ys ≡ map f xs
mapped_from f [] [] l h = refl
mapped_from f [] (y ∷ ys) l h = absurd (omega arith)
mapped_from f (x ∷ xs) [] l h = absurd (omega arith)
mapped_from f (x ∷ xs) (y ∷ ys) l h =
    let a : y ≡ f x = h 0 (omega arith) in
    let b = mapped_from f xs ys (omega arith) (λ k p. h (suc k) (omega arith)) in
    cc

pub last_is : (o : Option ℕ) (x : ℕ) (xs : List ℕ) → last_or o (x ∷ xs) ≡ Some (get_or (x ∷ xs) (length xs) 0)
last_is o x [] = refl
last_is o x (y ∷ ys) = last_is (Some x) y ys

pub pass_head : {X : Type 0} (p : X → Bool) (x : X) (xs : List X) → AllPass p (x ∷ xs) → p x ≡ true
pass_head p x xs a = a 0 x (omega arith)

pub pass_tail : {X : Type 0} (p : X → Bool) (x : X) (xs : List X) → AllPass p (x ∷ xs) → AllPass p xs
pass_tail p x xs a = λ k d h. a (suc k) d (omega arith)

pub lists_equal : (xs ys : List ℕ) → same_list xs ys ≡ true → xs ≡ ys
lists_equal xs ys h = (bytes_eq-Decides xs ys).0 h

pub length_map : {X Y : Type 0} (f : X → Y) (xs : List X) → length (map f xs) ≡ length xs
length_map f [] = refl
length_map f (x ∷ xs) = ap suc (length_map f xs)

pub list_of_two : (xs : List ℤ) → length xs ≡ 2 → xs ≡ (get_or xs 0 (pos 0) ∷ get_or xs 1 (pos 0) ∷ [])
list_of_two (x ∷ y ∷ []) e = refl
list_of_two [] e = absurd (omega arith)
list_of_two (x ∷ []) e = absurd (omega arith)
list_of_two (x ∷ y ∷ z ∷ xs) e = absurd (omega arith)

pub list_of_three : (xs : List ℤ) → length xs ≡ 3 → xs ≡ (get_or xs 0 (pos 0) ∷ get_or xs 1 (pos 0) ∷ get_or xs 2 (pos 0) ∷ [])
list_of_three (x ∷ y ∷ z ∷ []) e = refl
list_of_three [] e = absurd (omega arith)
list_of_three (x ∷ []) e = absurd (omega arith)
list_of_three (x ∷ y ∷ []) e = absurd (omega arith)
list_of_three (x ∷ y ∷ z ∷ w ∷ xs) e = absurd (omega arith)

pub list_of_four : (xs : List ℤ) → length xs ≡ 4 → xs ≡ (get_or xs 0 (pos 0) ∷ get_or xs 1 (pos 0) ∷ get_or xs 2 (pos 0) ∷ get_or xs 3 (pos 0) ∷ [])
list_of_four (x ∷ y ∷ z ∷ w ∷ []) e = refl
list_of_four [] e = absurd (omega arith)
list_of_four (x ∷ []) e = absurd (omega arith)
list_of_four (x ∷ y ∷ []) e = absurd (omega arith)
list_of_four (x ∷ y ∷ z ∷ []) e = absurd (omega arith)
list_of_four (x ∷ y ∷ z ∷ w ∷ v ∷ xs) e = absurd (omega arith)

pub by_two : (P : List ℤ → Type 0) → ((a b : ℤ) → P (a ∷ b ∷ [])) → (xs : List ℤ) → length xs ≡ 2 → P xs
by_two P h xs e = subst P (sym (list_of_two xs e)) (h (get_or xs 0 (pos 0)) (get_or xs 1 (pos 0)))

pub by_three : (P : List ℤ → Type 0) → ((a b c : ℤ) → P (a ∷ b ∷ c ∷ [])) → (xs : List ℤ) → length xs ≡ 3 → P xs
by_three P h xs e = subst P (sym (list_of_three xs e)) (h (get_or xs 0 (pos 0)) (get_or xs 1 (pos 0)) (get_or xs 2 (pos 0)))

pub by_four : (P : List ℤ → Type 0) → ((a b c d : ℤ) → P (a ∷ b ∷ c ∷ d ∷ [])) → (xs : List ℤ) → length xs ≡ 4 → P xs
by_four P h xs e = subst P (sym (list_of_four xs e)) (h (get_or xs 0 (pos 0)) (get_or xs 1 (pos 0)) (get_or xs 2 (pos 0)) (get_or xs 3 (pos 0)))

-- where none passes, the test of any fails
pub any_none : {X : Type 0} (p : X → Bool) (xs : List X) → ((x : X) → p x ≡ false) → list_any p xs ≡ false
any_none p [] h = refl
any_none p (x ∷ xs) h = ap (λ b. b || list_any p xs) (h x) ∙ any_none p xs h

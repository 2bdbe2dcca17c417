-- A simplex has a face where it has all numbers of it; the sign of the face is told by the number that the face leaves out.
use Rattle.std.proofs.Common.{◌≡◌, ℕ, zero, suc, ◌+◌, ◌<◌, ◌≤◌, Bool, true, false, List, [], ◌∷◌, length, take, get_or, ℤ, pos, negsuc}
use Rattle.std.proofs.Common.{unsigned_abs, ◌+ℤ◌, refl, ap, sym, ◌∙◌, subst, arith, inl, inr}
use Rattle.std.specs.Prelude.{map, count_by, ◌≢◌, ◌%◌, ◌==◌, nat_eq, nat_lt, ◌⊎◌, if◌then◌else◌}
use Rattle.std.specs.List.{list_any, range_with_len}
use Rattle.std.proofs.lemmas.Int.{ints}
use Rattle.std.proofs.lemmas.List.{take_more, map-append}
use Rattle.std.proofs.lemmas.Bool.Decides.{nat_tests}
use Rattle.std.proofs.lemmas.Slice.Eq.{bytes_eq-Decides}
use Rattle.lists.specs.Orders.{numbers, without, inversions, is_odd, sorted, has, is_distinct, same_list}
use Rattle.iso_model.specs.Turns.{total, signed}
use Rattle.iso_model.specs.Faces.{face_without, sign_without, has_face, sign_of_face}
use Rattle.mesh_laws.proofs.TakenMembers.{Takes, here, later, Takes-In, Takes-In_left, Takes-In_taken, Takes-count, Takes-apart, In-sorted}
use Rattle.mesh_laws.proofs.TakenMembers.{from_In-sorted, one_more}
use Rattle.lists.specs.Members.{In, Distinct, Ascends}
use Rattle.lists.proofs.Tests.{and_true, and_left, and_right}
use Rattle.lists.proofs.Contained.{any_default}
use Rattle.lists.proofs.MemberLaws.{Contains_from, from_any, any_from, In_of_has, In-numbers, from_In-numbers}
use Rattle.lists.proofs.Sorting.{bit, count_by-cons}
use Rattle.lists.proofs.DistinctLists.{from_distinct_test}
use Rattle.std.proofs.lemmas.Bool.{false_from_ne_true, both_ways}
use Rattle.lists.proofs.Counts.{not_there}
use Rattle.iso_model.proofs.PointLaws.{total-append}

-- ---- tests of members

eq_self : (x : ℕ) → nat_eq x x ≡ true
eq_self x = grind (arith, nat_tests)

-- ---- places

pub place_takes : (w : List ℕ) (k : ℕ) → k < length w → Takes (get_or w k 0) (without k w) w
place_takes [] k h = absurd (omega arith)
place_takes (x ∷ xs) zero h = here
place_takes (x ∷ xs) (suc k) h = later (place_takes xs k (omega arith))

pub takes_place : {g : ℕ} {l w : List ℕ} → Takes g l w → (k : ℕ) × (k < length w) × (without k w ≡ l)
takes_place here = (0, omega arith, refl)
takes_place (later {x = x} t) = let r = takes_place t in (suc r.0, omega (arith, r.1), ap (λ (v : List ℕ). x ∷ v) r.2)

-- another place is not left out
pub In-without : (w : List ℕ) (k i : ℕ) → k < length w → i ≢ k → In (get_or w k 0) (without i w)
In-without [] k i h n = absurd (omega arith)
In-without (x ∷ xs) zero zero h n = absurd (n refl)
In-without (x ∷ xs) zero (suc i) h n = inl refl
In-without (x ∷ xs) (suc k) zero h n = Takes-In_taken (place_takes xs k (omega arith))
In-without (x ∷ xs) (suc k) (suc i) h n = inr (In-without xs k i (omega arith) (λ e. n (ap suc e)))

-- ---- a simplex has a face

is_face : List ℕ → List ℕ → ℕ → Bool
is_face face w i = same_list (face_without w i) face

-- at one of its places
pub face_place : (face w : List ℕ) → has_face face w ≡ true → (k : ℕ) × (k < length w) × (sorted (without k w) ≡ face)
face_place face w h =
    let any = and_right (is_distinct w) (list_any (λ i. same_list (face_without w i) face) (numbers (length w))) h in
    let r = from_any (λ i. same_list (face_without w i) face) (numbers (length w)) any in
    (r.0, from_In-numbers (length w) r.0 r.1, (bytes_eq-Decides (face_without w r.0) face).0 r.2)

pub any_place : (face w : List ℕ) (k : ℕ) → k < length w → sorted (without k w) ≡ face
    → list_any (λ i. same_list (face_without w i) face) (numbers (length w)) ≡ true
any_place face w k h e =
    any_from (λ i. same_list (face_without w i) face) (numbers (length w)) k (In-numbers (length w) k h)
    ((bytes_eq-Decides (face_without w k) face).1 e)

pub has_face_all : (face w : List ℕ) → Ascends face → length w ≡ length face + 1 → ((f : ℕ) → In f face → In f w) → has_face face w ≡ is_distinct w
has_face_all face w a n all =
    let r = one_more face w a n all in
    let p = takes_place r.2 in
    rw (any_place face w p.0 p.1 (ap sorted p.2 ∙ r.3)) (and_true (is_distinct w))

pub has_face_lacks : (face w : List ℕ) (f : ℕ) → In f face → (In f w → ⊥) → has_face face w ≡ false
has_face_lacks face w f i lacks = false_from_ne_true (has_face face w) (λ h.
    let r = face_place face w h in
    lacks (Takes-In_left (place_takes w r.0 r.1) f (from_In-sorted f (without r.0 w) (subst (λ (v : List ℕ). In f v) (sym r.2) i))))

-- the place that a face leaves out has a number that is not in the face, and the simplex has no other such number
pub place_left_out : (face w : List ℕ) (k : ℕ) → is_distinct w ≡ true → k < length w → sorted (without k w) ≡ face → In (get_or w k 0) face → ⊥
place_left_out face w k d h e i =
    let t = place_takes w k h in
    let apart = Takes-apart t (from_distinct_test w d) in
    not_there (get_or w k 0) (without k w) apart.0 (from_In-sorted (get_or w k 0) (without k w) (subst (λ (v : List ℕ). In (get_or w k 0) v) (sym e) i))

pub the_left_out : (face w : List ℕ) (k x : ℕ) → k < length w → sorted (without k w) ≡ face → In x w → (In x face → ⊥) → x ≡ get_or w k 0
the_left_out face w k x h e i free = elim (Takes-In (place_takes w k h) x i) as (λ _. x ≡ get_or w k 0) [
  | inl same ↦ same
  | inr j ↦ absurd (free (subst (λ (v : List ℕ). In x v) e (In-sorted x (without k w) j)))
]

pub some_free : (face w : List ℕ) → has_face face w ≡ true → (x : ℕ) × In x w × (In x face → ⊥)
some_free face w h =
    let r = face_place face w h in
    let d = and_left (is_distinct w) (list_any (λ i. same_list (face_without w i) face) (numbers (length w))) h in
    (get_or w r.0 0, Takes-In_taken (place_takes w r.0 r.1), place_left_out face w r.0 d r.1 r.2)

-- ---- its sign

zero_right : (x : ℤ) → x +ℤ pos 0 ≡ x
zero_right x = omega (arith, ints)

zero_left : (x y : ℤ) → x ≡ pos 0 → x +ℤ y ≡ y
zero_left x y e = omega (arith, ints)

total_none : (h : ℕ → ℤ) (a n : ℕ) → ((i : ℕ) → a ≤ i → i < a + n → h i ≡ pos 0) → total (map h (range_with_len a n)) ≡ pos 0
total_none h a zero none = refl
total_none h a (suc n) none =
    zero_left (h a) (total (map h (range_with_len (a + 1) n))) (none a (omega arith) (omega arith))
    ∙ total_none h (a + 1) n (λ i low high. none i (omega arith) (omega arith))

first_or_later : (a k : ℕ) → a ≤ k → (a ≡ k) ⊎ (a + 1 ≤ k)
first_or_later a k h = grind arith

total_one : (h : ℕ → ℤ) (a n k : ℕ) → a ≤ k → k < a + n → ((i : ℕ) → a ≤ i → i < a + n → i ≢ k → h i ≡ pos 0) → total (map h (range_with_len a n)) ≡ h k
total_one h a zero k low high others = absurd (omega arith)
total_one h a (suc n) k low high others = elim (first_or_later a k low) as (λ _. h a +ℤ total (map h (range_with_len (a + 1) n)) ≡ h k) [
  | inl e ↦
      ap (λ (z : ℤ). h a +ℤ z) (total_none h (a + 1) n (λ i l m. others i (omega (arith, l)) (omega (arith, m)) (λ f. omega (arith, l, e, f))))
      ∙ zero_right (h a) ∙ ap h e
  | inr more ↦ zero_left (h a) (total (map h (range_with_len (a + 1) n))) (others a (omega arith) (omega arith) (λ f. omega (arith, f, more)))
      ∙ total_one h (a + 1) n k more (omega (arith, high)) (λ i l m. others i (omega (arith, l)) (omega (arith, m)))
]

-- the place and the order of the others, by the order of all and by how many are below the number at the place
pub rank : (w : List ℕ) (k : ℕ) → k < length w → Distinct w
    → (k + inversions (without k w)) % 2 ≡ (inversions w + count_by (λ y. nat_lt y (get_or w k 0)) w) % 2
rank [] k h d = absurd (omega arith)
rank (x ∷ xs) zero h d =
    let none : bit (nat_lt x x) ≡ 0 = grind (arith, nat_tests) in
    omega (arith, none, count_by-cons (λ y. nat_lt y x) x xs)
rank (x ∷ xs) (suc k) h d =
    let inside : k < length xs = omega arith in
    let g = get_or xs k 0 in
    let t = place_takes xs k inside in
    let apart : get_or xs k 0 ≢ x = λ e. not_there x xs d.0 (subst (λ (y : ℕ). In y xs) e (Takes-In_taken t)) in
    let one : bit (nat_lt (get_or xs k 0) x) + bit (nat_lt x (get_or xs k 0)) ≡ 1 = grind (arith, nat_tests) in
    omega (arith, one, rank xs k inside d.1, Takes-count (λ y. nat_lt y x) t, count_by-cons (λ y. nat_lt y g) x xs)

odd_same : (a b : ℕ) → a % 2 ≡ b % 2 → is_odd a ≡ is_odd b
odd_same a b e = ap (λ (n : ℕ). n == 1) e

abbrev sign_at : List ℕ → List ℕ → ℕ → ℤ
sign_at face w i = if same_list (face_without w i) face then sign_without w i else pos 0

sign_elsewhere : (face w : List ℕ) (i : ℕ) → (sorted (without i w) ≡ face → ⊥) → sign_at face w i ≡ pos 0
sign_elsewhere face w i differs =
    let e : same_list (face_without w i) face ≡ false =
    false_from_ne_true (same_list (face_without w i) face) (λ h. differs ((bytes_eq-Decides (face_without w i) face).0 h)) in
    rw e refl

sign_here : (face w : List ℕ) (i : ℕ) → sorted (without i w) ≡ face → sign_at face w i ≡ sign_without w i
sign_here face w i same = let e : same_list (face_without w i) face ≡ true = (bytes_eq-Decides (face_without w i) face).1 same in rw e refl

sign_total : (face w : List ℕ) → is_distinct w ≡ true → sign_of_face face w ≡ total (map (sign_at face w) (numbers (length w)))
sign_total face w d = rw d refl

-- the sign is that at the one place that the face leaves out
pub sign_of_place : (face w : List ℕ) (k : ℕ) → is_distinct w ≡ true → k < length w → sorted (without k w) ≡ face → sign_of_face face w ≡ sign_without w k
sign_of_place face w k d h e =
    let one = total_one (sign_at face w) 0 (length w) k (omega arith) (omega (arith, h)) (λ j l m n. sign_elsewhere face w j (λ f.
    place_left_out face w k d h e (subst (λ (v : List ℕ). In (get_or w k 0) v) f (In-sorted (get_or w k 0) (without j w) (In-without w k j h n))))) in
    sign_total face w d ∙ one ∙ sign_here face w k e

pub sign_of_free : (face w : List ℕ) (x : ℕ) → has_face face w ≡ true → In x w → (In x face → ⊥)
    → sign_of_face face w ≡ signed (is_odd (inversions w + count_by (λ y. nat_lt y x) w)) (pos 1)
sign_of_free face w x h i free =
    let r = face_place face w h in
    let k = r.0 in
    let d = and_left (is_distinct w) (list_any (λ i. same_list (face_without w i) face) (numbers (length w))) h in
    let same : x ≡ get_or w k 0 = the_left_out face w k x r.1 r.2 i free in
    let odd = odd_same (k + inversions (without k w)) (inversions w + count_by (λ y. nat_lt y (get_or w k 0)) w) (rank w k r.1 (from_distinct_test w d)) in
    sign_of_place face w k d r.1 r.2
    ∙ ap (λ (b : Bool). signed b (pos 1)) (odd ∙ ap (λ (y : ℕ). is_odd (inversions w + count_by (λ z. nat_lt z y) w)) (sym same))

pub sign_none : (face w : List ℕ) → has_face face w ≡ false → sign_of_face face w ≡ pos 0
sign_none face w h = go (is_distinct w) refl
  where
    go : (b : Bool) → is_distinct w ≡ b → sign_of_face face w ≡ pos 0
    go false d = rw d refl
    go true d = sign_total face w d ∙ total_none (sign_at face w) 0 (length w) (λ i l m. sign_elsewhere face w i (λ e.
        both_ways (has_face face w) h (rw (d, any_place face w i (omega (arith, m)) e) refl)))

-- ---- ascending by neighbours

-- ---- of simplices one by one

pub total_more : {X : Type 0} (f : X → ℤ) (xs : List X) (i : ℕ) (x : X) → i < length xs → x ≡ get_or xs i x
    → total (map f (take (i + 1) xs)) ≡ total (map f (take i xs)) +ℤ f x
total_more f xs i x h e =
    ap (λ ys. total (map f ys)) (take_more xs i x h) ∙ ap total (map-append f (take i xs) (get_or xs i x ∷ []))
    ∙ total-append (map f (take i xs)) (f (get_or xs i x) ∷ [])
    ∙ ap (λ (z : ℤ). total (map f (take i xs)) +ℤ z) (zero_right (f (get_or xs i x)) ∙ ap f (sym e))

pub size_more : (x y : ℤ) (n : ℕ) → unsigned_abs x ≤ n → unsigned_abs y ≤ 1 → unsigned_abs (x +ℤ y) ≤ n + 1
size_more x y n h k = omega (arith, ints)

-- ---- as the code finds it

pub In-at : (xs : List ℕ) (k : ℕ) → k < length xs → In (get_or xs k 0) xs
In-at xs k h = Takes-In_taken (place_takes xs k h)

-- what is said of each place is said of each member
pub each_of_places : (xs ys : List ℕ) (n : ℕ) → length xs ≤ n → ((k : ℕ) → k < n → has ys (get_or xs k 0) ≡ true) → (x : ℕ) → In x xs → In x ys
each_of_places xs ys n h each x i =
    let c = Contains_from xs x i in
    let same : get_or xs c.0 0 ≡ x = any_default xs c.0 0 x c.1 ∙ c.2 in
    subst (λ (y : ℕ). In y ys) same (In_of_has ys (get_or xs c.0 0) (each c.0 (omega (arith, c.1))))

pub some_place_free : (face w : List ℕ) (n : ℕ) → has_face face w ≡ true → length w ≤ n → ((k : ℕ) → k < n → has face (get_or w k 0) ≡ true) → ⊥
some_place_free face w n h long each = let r = some_free face w h in r.2 (each_of_places w face n long each r.0 r.1)

-- the sign by the parities of both numbers
pub sign_odd : (m n : ℕ) → (m % 2 + n % 2) % 2 ≡ 1 → signed (is_odd (m + n)) (pos 1) ≡ negsuc 0
sign_odd m n h = let e : (m + n) % 2 ≡ 1 = omega arith in rw e refl

pub sign_even : (m n : ℕ) → ((m % 2 + n % 2) % 2 ≡ 1 → ⊥) → signed (is_odd (m + n)) (pos 1) ≡ pos 1
sign_even m n h = let e : (m + n) % 2 ≡ 0 = omega arith in rw e refl

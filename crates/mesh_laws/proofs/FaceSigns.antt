-- How the faces of a simplex and their signs follow an exchange of its last two places, and a map of its numbers.
use Rattle.std.proofs.Common.{◌≡◌, ℕ, ◌+◌, ◌-◌, ◌<◌, ◌≤◌, Bool, true, false, not, ◌&&◌, ◌||◌, List, [], ◌∷◌, length, refl, ap, sym, ◌∙◌, subst, arith, inl, inr}
use Rattle.std.specs.Prelude.{map, count_by, ◌≢◌, ◌%◌, nat_eq, nat_lt, nat_le, if◌then◌else◌, ◌⊎◌}
use Rattle.std.specs.List.{list_any}
use Rattle.std.proofs.lemmas.Bool.Decides.{nat_tests, same_from_decides}
use Rattle.std.proofs.lemmas.Slice.Eq.{bytes_eq-Decides}
use Rattle.lists.specs.Orders.{inversions, put_in, sorted, is_odd, is_distinct, same_list, exchange_last}
use Rattle.lists.specs.Members.{In, Each, Distinct}
use Rattle.lists.proofs.Tests.{and_left}
use Rattle.lists.proofs.MemberLaws.{from_In-map, from_any, list_any-map}
use Rattle.lists.proofs.Sorting.{bit, count_by-cons, count-sorted, count-map, put_in_comm, sorted-map-sorted, image_order}
use Rattle.lists.proofs.Counts.{count_none, count_some}
use Rattle.lists.proofs.DistinctLists.{from_distinct_test}
use Rattle.std.proofs.lemmas.Bool.{false_from_ne_true}

-- for each place of a simplex, the place and the numbers at the others
abbrev pub left_out : List ℕ → List (ℕ × List ℕ)
left_out [] = []
left_out (x ∷ xs) = (0, xs) ∷ map (λ f. (f.0 + 1, x ∷ f.1)) (left_out xs)

-- the numbers at the other places are those of the face
abbrev pub is_face : List ℕ → ℕ × List ℕ → Bool
is_face face f = same_list (sorted f.1) face

-- and its sign there is (-1)^m
abbrev pub is_signed_face : ℕ → List ℕ → ℕ × List ℕ → Bool
is_signed_face m face f = is_face face f && not (is_odd (f.0 + inversions f.1 + m))

-- the simplex has the face at some place, and with the sign (-1)^m
abbrev pub has_at_a_place : List ℕ → List ℕ → Bool
has_at_a_place face w = is_distinct w && list_any (is_face face) (left_out w)

abbrev pub has_signed : ℕ → List ℕ → List ℕ → Bool
has_signed m face w = is_distinct w && list_any (is_signed_face m face) (left_out w)

-- l is the list w without one place
pub data Part : List ℕ → List ℕ → Type 0 where
  rest : {x : ℕ} {xs : List ℕ} → Part xs (x ∷ xs)
  after : {x : ℕ} {l xs : List ℕ} → Part l xs → Part (x ∷ l) (x ∷ xs)

pub Part-Each : (D : ℕ → Type 0) {l w : List ℕ} → Part l w → Each D w → Each D l
Part-Each D rest all = all.1
Part-Each D (after p) all = (all.0, Part-Each D p all.1)

pub Part-count : (p : ℕ → Bool) {l w : List ℕ} → Part l w → count_by p l ≤ count_by p w
Part-count p (rest {x = x} {xs = xs}) = omega (arith, count_by-cons p x xs)
Part-count p (after {x = x} {l = l} {xs = xs} q) = omega (arith, count_by-cons p x xs, count_by-cons p x l, Part-count p q)

pub Part-Distinct : {l w : List ℕ} → Part l w → Distinct w → Distinct l
Part-Distinct rest d = d.1
Part-Distinct (after {x = x} q) d =
    let few = Part-count (nat_eq x) q in
    (omega (arith, few, d.0), Part-Distinct q d.1)

-- two tests that agree at each part find the same
pub any_part : (t u : ℕ × List ℕ → Bool) (w : List ℕ) → ((i : ℕ) (l : List ℕ) → Part l w → t (i, l) ≡ u (i, l))
    → list_any t (left_out w) ≡ list_any u (left_out w)
any_part t u [] same = refl
any_part t u (x ∷ xs) same =
    let first : t (0, xs) ≡ u (0, xs) = same 0 xs rest in
    let more : list_any (λ (f : ℕ × List ℕ). t (f.0 + 1, x ∷ f.1)) (left_out xs) ≡ list_any (λ (f : ℕ × List ℕ). u (f.0 + 1, x ∷ f.1)) (left_out xs) =
    any_part (λ f. t (f.0 + 1, x ∷ f.1)) (λ f. u (f.0 + 1, x ∷ f.1)) xs (λ i l p. same (i + 1) (x ∷ l) (after p)) in
    rw (first, list_any-map t (λ f. (f.0 + 1, x ∷ f.1)) (left_out xs), list_any-map u (λ f. (f.0 + 1, x ∷ f.1)) (left_out xs), more) refl

-- ---- a map of the numbers

abbrev image : (ℕ → ℕ) → ℕ × List ℕ → ℕ × List ℕ
image f h = (h.0, map f h.1)

abbrev one_more : ℕ → ℕ × List ℕ → ℕ × List ℕ
one_more x h = (h.0 + 1, x ∷ h.1)

image-one_more : (f : ℕ → ℕ) (x : ℕ) (hs : List (ℕ × List ℕ)) → map (one_more (f x)) (map (image f) hs) ≡ map (image f) (map (one_more x) hs)
image-one_more f x [] = refl
image-one_more f x (h ∷ hs) = ap (λ (t : List (ℕ × List ℕ)). one_more (f x) (image f h) ∷ t) (image-one_more f x hs)

module _ (f g : ℕ → ℕ) (D : ℕ → Type 0) (back : (x : ℕ) → D x → g (f x) ≡ x) where
  pub map_back : (l : List ℕ) → Each D l → map g (map f l) ≡ l
  map_back [] all = refl
  map_back (x ∷ l) all = rw (back x all.0, map_back l all.1) refl

  pub sorted_back : (l : List ℕ) → Each D l → sorted (map g (sorted (map f l))) ≡ sorted l
  sorted_back l all = sorted-map-sorted g (map f l) ∙ ap sorted (map_back l all)

  count_at : (x : ℕ) → D x → (l : List ℕ) → Each D l → count_by (nat_eq x) l ≡ 0 → count_by (nat_eq (f x)) (map f l) ≡ 0
  count_at x in_x [] all none = refl
  count_at x in_x (y ∷ l) all none =
      let apart : x ≢ y = grind (arith, nat_tests, count_by-cons (nat_eq x) y l, none) in
      let images : f x ≢ f y = λ e. apart (sym (back x in_x) ∙ ap g e ∙ back y all.0) in
      let zero_bit : bit (nat_eq (f x) (f y)) ≡ 0 = grind (arith, nat_tests) in
      let none' : count_by (nat_eq x) l ≡ 0 = omega (arith, count_by-cons (nat_eq x) y l) in
      omega (arith, count_by-cons (nat_eq (f x)) (f y) (map f l), zero_bit, count_at x in_x l all.1 none')

  pub Distinct-map : (l : List ℕ) → Each D l → Distinct l → Distinct (map f l)
  Distinct-map [] all d = d
  Distinct-map (x ∷ l) all d = (count_at x all.0 l all.1 d.0, Distinct-map l all.1 d.1)

  -- the image of a part is the image of a face exactly where the part has the face
  pub face_image : (face l : List ℕ) → sorted face ≡ face → Each D face → Each D l
      → same_list (sorted (map f l)) (sorted (map f face)) ≡ same_list (sorted l) face
  face_image face l ascends in_face in_l =
      same_from_decides _ _ (bytes_eq-Decides (sorted (map f l)) (sorted (map f face))) (
        λ e. let h = (bytes_eq-Decides (sorted l) face).0 e in sym (sorted-map-sorted f l) ∙ ap (λ (v : List ℕ). sorted (map f v)) h,
        λ h. (bytes_eq-Decides (sorted l) face).1 (sym (sorted_back l in_l) ∙ ap (λ (v : List ℕ). sorted (map g v)) h ∙ sorted_back face in_face ∙ ascends),
      )

  even_same : (a b : ℕ) → a % 2 ≡ b % 2 → not (is_odd a) ≡ not (is_odd b)
  even_same a b same = ap (λ (n : ℕ). not (nat_eq n 1)) same

  and_same : (a a' b b' : Bool) → a ≡ a' → (a' ≡ true → b ≡ b') → (a && b) ≡ (a' && b')
  and_same a true b b' e h = rw (e, h refl) refl
  and_same a false b b' e h = rw e refl

  pub signed_image : (m : ℕ) (face : List ℕ) (i : ℕ) (l : List ℕ) → sorted face ≡ face → Each D face → Each D l → Distinct l →
      is_signed_face m (sorted (map f face)) (i, map f l) ≡ is_signed_face (m + inversions (map f face)) face (i, l)
  signed_image m face i l ascends in_face in_l apart =
      and_same _ _ _ _ (face_image face l ascends in_face in_l) (λ has.
      let same : sorted l ≡ face = (bytes_eq-Decides (sorted l) face).0 has in
      let order : (inversions l + inversions (map f l)) % 2 ≡ inversions (map f face) % 2 =
      subst (λ (v : List ℕ). (inversions l + inversions (map f l)) % 2 ≡ inversions (map f v) % 2) same
      (image_order f l (Distinct-map l in_l apart)) in
      even_same (i + inversions (map f l) + m) (i + inversions l + (m + inversions (map f face))) (omega (arith, order)))

  left_out-map : (w : List ℕ) → left_out (map f w) ≡ map (image f) (left_out w)
  left_out-map [] = refl
  left_out-map (x ∷ xs) =
      ap (λ (hs : List (ℕ × List ℕ)). (0, map f xs) ∷ map (one_more (f x)) hs) (left_out-map xs)
      ∙ ap (λ (hs : List (ℕ × List ℕ)). (0, map f xs) ∷ hs) (image-one_more f x (left_out xs))

  pub any_signed_image : (m : ℕ) (face w : List ℕ) → sorted face ≡ face → Each D face → Each D w → Distinct w →
      list_any (is_signed_face m (sorted (map f face))) (left_out (map f w)) ≡ list_any (is_signed_face (m + inversions (map f face)) face) (left_out w)
  any_signed_image m face w ascends in_face in_w apart =
      rw (left_out-map w, list_any-map (is_signed_face m (sorted (map f face))) (image f) (left_out w))
      (any_part _ _ w (λ i l p. signed_image m face i l ascends in_face (Part-Each D p in_w) (Part-Distinct p apart)))

-- ---- the last two places exchanged

pub sorted-exchange : (w : List ℕ) → sorted (exchange_last w) ≡ sorted w
sorted-exchange [] = refl
sorted-exchange (x ∷ []) = refl
sorted-exchange (x ∷ y ∷ []) = put_in_comm y x []
sorted-exchange (x ∷ y ∷ z ∷ w) = ap (put_in x) (sorted-exchange (y ∷ z ∷ w))

pub count-exchange : (p : ℕ → Bool) (w : List ℕ) → count_by p (exchange_last w) ≡ count_by p w
count-exchange p [] = refl
count-exchange p (x ∷ []) = refl
count-exchange p (x ∷ y ∷ []) = omega (arith, count_by-cons p x (y ∷ []), count_by-cons p y (x ∷ []), count_by-cons p x [], count_by-cons p y [])
count-exchange p (x ∷ y ∷ z ∷ w) = omega (arith, count_by-cons p x (exchange_last (y ∷ z ∷ w)), count_by-cons p x (y ∷ z ∷ w), count-exchange p (y ∷ z ∷ w))

pub Distinct-exchange : (w : List ℕ) → Distinct w → Distinct (exchange_last w)
Distinct-exchange [] d = d
Distinct-exchange (x ∷ []) d = d
Distinct-exchange (x ∷ y ∷ []) d =
    let apart : bit (nat_eq y x) ≡ bit (nat_eq x y) = grind (arith, nat_tests) in
    (omega (arith, d.0, apart, count_by-cons (nat_eq x) y [], count_by-cons (nat_eq y) x []), (refl, tt))
Distinct-exchange (x ∷ y ∷ z ∷ w) d = (count-exchange (nat_eq x) (y ∷ z ∷ w) ∙ d.0, Distinct-exchange (y ∷ z ∷ w) d.1)

pub inversions-exchange : (w : List ℕ) → Distinct w → 2 ≤ length w → inversions (exchange_last w) % 2 ≡ (inversions w + 1) % 2
inversions-exchange [] d long = absurd (omega arith)
inversions-exchange (x ∷ []) d long = absurd (omega arith)
inversions-exchange (x ∷ y ∷ []) d long =
    let apart : bit (nat_lt y x) + bit (nat_lt x y) ≡ 1 = grind (arith, nat_tests, d.0, count_by-cons (nat_eq x) y []) in
    omega (arith, apart, count_by-cons (λ v. nat_lt v x) y [], count_by-cons (λ v. nat_lt v y) x [])
inversions-exchange (x ∷ y ∷ z ∷ w) d long =
    let shorter : 2 ≤ length (y ∷ z ∷ w) = omega arith in
    omega (arith, inversions-exchange (y ∷ z ∷ w) d.1 shorter, count-exchange (λ v. nat_lt v x) (y ∷ z ∷ w))

-- the exchange turns each test round
pub any-exchange : (t : ℕ → List ℕ → Bool) → ((i : ℕ) (l : List ℕ) → t (i + 2) l ≡ t i l) → (w : List ℕ) →
    ((i : ℕ) (l : List ℕ) → Part l w → 2 ≤ length l → t i (exchange_last l) ≡ t (i + 1) l) → 2 ≤ length w →
    list_any (λ h. t h.0 h.1) (left_out (exchange_last w)) ≡ list_any (λ h. t (h.0 + 1) h.1) (left_out w)
any-exchange t period [] turns long = absurd (omega arith)
any-exchange t period (x ∷ []) turns long = absurd (omega arith)
any-exchange t period (x ∷ y ∷ []) turns long = rw (period 0 (x ∷ [])) (swapped (t 0 (x ∷ [])) (t 1 (y ∷ [])))
  where
    swapped : (a b : Bool) → (a || (b || false)) ≡ (b || (a || false))
    swapped true true = refl
    swapped true false = refl
    swapped false true = refl
    swapped false false = refl
any-exchange t period (x ∷ y ∷ z ∷ w) turns long =
    let shorter : 2 ≤ length (y ∷ z ∷ w) = omega arith in
    let first : t 0 (exchange_last (y ∷ z ∷ w)) ≡ t 1 (y ∷ z ∷ w) = turns 0 (y ∷ z ∷ w) rest shorter in
    let more : list_any (λ (h : ℕ × List ℕ). t (h.0 + 1) (x ∷ h.1)) (left_out (exchange_last (y ∷ z ∷ w)))
    ≡ list_any (λ (h : ℕ × List ℕ). t (h.0 + 1 + 1) (x ∷ h.1)) (left_out (y ∷ z ∷ w)) =
    any-exchange (λ i l. t (i + 1) (x ∷ l)) (λ i l. more_period i l) (y ∷ z ∷ w) (λ i l p q. more_turns i l p q) shorter in
    rw (
      list_any-map (λ (h : ℕ × List ℕ). t h.0 h.1) (one_more x) (left_out (exchange_last (y ∷ z ∷ w))),
      list_any-map (λ (h : ℕ × List ℕ). t (h.0 + 1) h.1) (one_more x) (left_out (y ∷ z ∷ w)),
      first,
      more,
    )
    refl
  where
    more_period : (i : ℕ) (l : List ℕ) → t (i + 2 + 1) (x ∷ l) ≡ t (i + 1) (x ∷ l)
    more_period i l = let e : i + 2 + 1 ≡ i + 1 + 2 = omega arith in rw e (period (i + 1) (x ∷ l))

    more_turns : (i : ℕ) (l : List ℕ) → Part l (y ∷ z ∷ w) → 2 ≤ length l → t (i + 1) (x ∷ exchange_last l) ≡ t (i + 1 + 1) (x ∷ l)
    more_turns i [] p q = absurd (omega arith)
    more_turns i (a ∷ []) p q = absurd (omega arith)
    more_turns i (a ∷ b ∷ l) p q = turns (i + 1) (x ∷ a ∷ b ∷ l) (after p) (omega arith)

signed-period : (m : ℕ) (face : List ℕ) (i : ℕ) (l : List ℕ) → is_signed_face m face (i + 2, l) ≡ is_signed_face m face (i, l)
signed-period m face i l = ap (λ (b : Bool). same_list (sorted l) face && b) (even (i + 2 + inversions l + m) (i + inversions l + m) (omega arith))
  where
    even : (a b : ℕ) → a % 2 ≡ b % 2 → not (is_odd a) ≡ not (is_odd b)
    even a b same = ap (λ (n : ℕ). not (nat_eq n 1)) same

signed-exchange : (m : ℕ) (face : List ℕ) (i : ℕ) (l : List ℕ) → Distinct l → 2 ≤ length l
    → is_signed_face m face (i, exchange_last l) ≡ is_signed_face m face (i + 1, l)
signed-exchange m face i l d long =
    rw (sorted-exchange l)
    (ap (λ (b : Bool). same_list (sorted l) face && b)
    (even (i + inversions (exchange_last l) + m) (i + 1 + inversions l + m) (omega (arith, inversions-exchange l d long))))
  where
    even : (a b : ℕ) → a % 2 ≡ b % 2 → not (is_odd a) ≡ not (is_odd b)
    even a b same = ap (λ (n : ℕ). not (nat_eq n 1)) same

signed-next : (m : ℕ) (face : List ℕ) (i : ℕ) (l : List ℕ) → is_signed_face m face (i + 1, l) ≡ is_signed_face (m + 1) face (i, l)
signed-next m face i l = ap (λ (b : Bool). same_list (sorted l) face && b) (ap (λ (n : ℕ). not (is_odd n)) (omega arith))

pub any_signed-exchange : (m : ℕ) (face w : List ℕ) → Distinct w → 2 ≤ length w →
    list_any (is_signed_face m face) (left_out (exchange_last w)) ≡ list_any (is_signed_face (m + 1) face) (left_out w)
any_signed-exchange m face w d long =
    any-exchange (λ i l. is_signed_face m face (i, l)) (signed-period m face) w (λ i l p. signed-exchange m face i l (Part-Distinct p d)) long
    ∙ any_part (λ h. is_signed_face m face (h.0 + 1, h.1)) (is_signed_face (m + 1) face) w (λ i l p. signed-next m face i l)

-- ---- members

Each-put_in_case : (D : ℕ → Type 0) (x y : ℕ) (w : List ℕ) → D x → D y × Each D w → Each D (put_in x w) → (b : Bool)
    → Each D (if b then x ∷ y ∷ w else y ∷ put_in x w)
Each-put_in_case D x y w dx all later true = (dx, all)
Each-put_in_case D x y w dx all later false = (all.0, later)

pub Each-put_in : (D : ℕ → Type 0) (x : ℕ) (w : List ℕ) → D x → Each D w → Each D (put_in x w)
Each-put_in D x [] dx all = (dx, tt)
Each-put_in D x (y ∷ w) dx all = Each-put_in_case D x y w dx all (Each-put_in D x w dx all.1) (nat_le x y)

from_Each-put_in_case : (D : ℕ → Type 0) (x y : ℕ) (w : List ℕ) → (Each D (put_in x w) → D x × Each D w) → (b : Bool)
    → Each D (if b then x ∷ y ∷ w else y ∷ put_in x w) → D x × (D y × Each D w)
from_Each-put_in_case D x y w later true all = all
from_Each-put_in_case D x y w later false all = let r = later all.1 in (r.0, (all.0, r.1))

from_Each-put_in : (D : ℕ → Type 0) (x : ℕ) (w : List ℕ) → Each D (put_in x w) → D x × Each D w
from_Each-put_in D x [] all = all
from_Each-put_in D x (y ∷ w) all = from_Each-put_in_case D x y w (from_Each-put_in D x w) (nat_le x y) all

pub Each-sorted : (D : ℕ → Type 0) (w : List ℕ) → Each D w → Each D (sorted w)
Each-sorted D [] all = tt
Each-sorted D (x ∷ w) all = Each-put_in D x (sorted w) all.0 (Each-sorted D w all.1)

pub from_Each-sorted : (D : ℕ → Type 0) (w : List ℕ) → Each D (sorted w) → Each D w
from_Each-sorted D [] all = tt
from_Each-sorted D (x ∷ w) all = let r = from_Each-put_in D x (sorted w) all in (r.0, from_Each-sorted D w r.1)

-- what is left out of a list is a part of it
pub left_out-Part : (w : List ℕ) (h : ℕ × List ℕ) → In h (left_out w) → Part h.1 w
left_out-Part [] h i = absurd i
left_out-Part (x ∷ xs) h (inl e) = subst (λ (g : ℕ × List ℕ). Part g.1 (x ∷ xs)) (sym e) rest
left_out-Part (x ∷ xs) h (inr i) =
    let r = from_In-map (one_more x) (left_out xs) h i in
    subst (λ (g : ℕ × List ℕ). Part g.1 (x ∷ xs)) (sym r.2) (after (left_out-Part xs r.0 r.1))

pub Part-case : {l : List ℕ} {x : ℕ} {xs : List ℕ} → Part l (x ∷ xs) → (l ≡ xs) ⊎ ((k : List ℕ) × Part k xs × (l ≡ x ∷ k))
Part-case rest = inl refl
Part-case (after {l = k} p) = inr (k, p, refl)

pub Part-map : (f : ℕ → ℕ) (w : List ℕ) {l : List ℕ} → Part l (map f w) → (k : List ℕ) × Part k w × (l ≡ map f k)
Part-map f [] {l} p = none l [] p refl
  where
    none : (k v : List ℕ) → Part k v → v ≡ [] → (j : List ℕ) × Part j [] × (l ≡ map f j)
    none _ _ rest e = absurd (cc)
    none _ _ (after q) e = absurd (cc)
Part-map f (x ∷ w) {l} p = elim (Part-case p) [
  | inl e ↦ (w, rest, e)
  | inr k ↦ (let r = Part-map f w k.1 in (x ∷ r.0, after r.1, k.2 ∙ ap (λ (v : List ℕ). f x ∷ v) r.2))
]

-- a part of an exchanged list is a part of the list, in another order
pub Part-exchange : (w : List ℕ) {l : List ℕ} → Part l (exchange_last w) → (k : List ℕ) × Part k w × (sorted l ≡ sorted k)
Part-exchange [] {l} p = (l, p, refl)
Part-exchange (x ∷ []) {l} p = (l, p, refl)
Part-exchange (x ∷ y ∷ []) {l} p = elim (Part-case p) [
  | inl e ↦ (x ∷ [], after rest, ap sorted e)
  | inr k ↦ (elim (Part-case k.1) [
    | inl e ↦ (y ∷ [], rest, ap sorted (k.2 ∙ ap (λ (v : List ℕ). y ∷ v) e))
    | inr j ↦ absurd (nothing j.0 j.1)
  ])
]
  where
    nothing_at : (k v : List ℕ) → Part k v → v ≡ [] → ⊥
    nothing_at _ _ rest e = cc
    nothing_at _ _ (after q) e = cc

    nothing : (k : List ℕ) → Part k [] → ⊥
    nothing k q = nothing_at k [] q refl
Part-exchange (x ∷ y ∷ z ∷ w) {l} p = elim (Part-case p) [
  | inl e ↦ (y ∷ z ∷ w, rest, ap sorted e ∙ sorted-exchange (y ∷ z ∷ w))
  | inr k ↦ (let r = Part-exchange (y ∷ z ∷ w) k.1 in (x ∷ r.0, after r.1, ap sorted k.2 ∙ ap (put_in x) r.2))
]

-- ---- distinct numbers

-- ---- a simplex has a face at one place at most

-- all lists that pass the test have the same members, as many times
abbrev pub FixesCounts : (List ℕ → Bool) → (ℕ → ℕ) → Type 0
FixesCounts t n = (l : List ℕ) → t l ≡ true → (x : ℕ) → count_by (nat_eq x) l ≡ n x

one_place_case : (t : List ℕ → Bool) (n : ℕ → ℕ) → FixesCounts t n → (x : ℕ) (xs : List ℕ) → Distinct (x ∷ xs)
    → count_by (λ h. t (x ∷ h.1)) (left_out xs) ≤ 1 → (b : Bool) → t xs ≡ b →
    bit (t xs) + count_by (λ h. t (x ∷ h.1)) (left_out xs) ≤ 1
one_place_case t n fixes x xs d few true e =
    let none : count_by (λ (h : ℕ × List ℕ). t (x ∷ h.1)) (left_out xs) ≡ 0 =
    count_none (λ (h : ℕ × List ℕ). t (x ∷ h.1)) (left_out xs) (λ h i f.
    let once : count_by (nat_eq x) (x ∷ h.1) ≡ n x = fixes (x ∷ h.1) f x in
    let never : count_by (nat_eq x) xs ≡ n x = fixes xs e x in
    let self : bit (nat_eq x x) ≡ 1 = grind (arith, nat_tests) in
    omega (arith, once, never, d.0, self, count_by-cons (nat_eq x) x h.1)) in
    let one : bit (t xs) ≡ 1 = ap bit e in
    omega (arith, none, one)
one_place_case t n fixes x xs d few false e =
    let zero_one : bit (t xs) ≡ 0 = ap bit e in
    omega (arith, few, zero_one)

pub one_place : (t : List ℕ → Bool) (n : ℕ → ℕ) → FixesCounts t n → (w : List ℕ) → Distinct w → count_by (λ h. t h.1) (left_out w) ≤ 1
one_place t n fixes [] d = omega arith
one_place t n fixes (x ∷ xs) d =
    let rest_few : count_by (λ (h : ℕ × List ℕ). t (x ∷ h.1)) (left_out xs) ≤ 1 =
    one_place (λ l. t (x ∷ l)) (λ y. n y - bit (nat_eq y x)) (λ l e y. omega (arith, fixes (x ∷ l) e y, count_by-cons (nat_eq y) x l)) xs d.1 in
    omega (
      arith,
      one_place_case t n fixes x xs d rest_few (t xs) refl,
      count_by-cons (λ (h : ℕ × List ℕ). t h.1) (0, xs) (map (one_more x) (left_out xs)),
      count-map (λ (h : ℕ × List ℕ). t h.1) (one_more x) (left_out xs),
    )

-- a face that stands at one place has one sign
abbrev SplitsAt : List ℕ → ℕ → List (ℕ × List ℕ) → Type 0
SplitsAt face m hs = bit (list_any (is_face face) hs) ≡ bit (list_any (is_signed_face m face) hs) + bit (list_any (is_signed_face (m + 1) face) hs)

pub parity_sum : (a b : ℕ) → b % 2 ≡ (a + 1) % 2 → bit (not (is_odd a)) + bit (not (is_odd b)) ≡ 1
parity_sum a b next =
    let two : (a % 2 ≡ 0) × (b % 2 ≡ 1) ⊎ (a % 2 ≡ 1) × (b % 2 ≡ 0) = cases (a % 2) (b % 2) (omega arith) (omega (arith, next)) in
    elim two [
      | inl c ↦ (let e : bit (not (nat_eq (a % 2) 1)) ≡ 1 = rw c.0 refl in let f : bit (not (nat_eq (b % 2) 1)) ≡ 0 = rw c.1 refl in omega (arith, e, f))
      | inr c ↦ (let e : bit (not (nat_eq (a % 2) 1)) ≡ 0 = rw c.0 refl in let f : bit (not (nat_eq (b % 2) 1)) ≡ 1 = rw c.1 refl in omega (arith, e, f))
    ]
  where
    cases : (x y : ℕ) → x < 2 → x + y ≡ 1 → (x ≡ 0) × (y ≡ 1) ⊎ (x ≡ 1) × (y ≡ 0)
    cases x y h e = grind arith

signed_none : (face : List ℕ) (m : ℕ) (hs : List (ℕ × List ℕ)) → count_by (is_face face) hs ≡ 0 → list_any (is_signed_face m face) hs ≡ false
signed_none face m hs none = false_from_ne_true (list_any (is_signed_face m face) hs) (λ h.
    let r = from_any (is_signed_face m face) hs h in
    let some : 1 ≤ count_by (is_face face) hs = count_some (is_face face) hs r.0 r.1 (and_left (is_face face r.0) _ r.2) in
    absurd (omega (arith, some, none)))

-- where the first part is the face, no later one is
splits_case : (face : List ℕ) (m : ℕ) (h : ℕ × List ℕ) (hs : List (ℕ × List ℕ)) → count_by (is_face face) (h ∷ hs) ≤ 1 → SplitsAt face m hs
    → (a : Bool) → is_face face h ≡ a → SplitsAt face m (h ∷ hs)
splits_case face m h hs few later true e =
    let one : bit (is_face face h) ≡ 1 = ap bit e in
    let none : count_by (is_face face) hs ≡ 0 = omega (arith, count_by-cons (is_face face) h hs, one, few) in
    rw (e, signed_none face m hs none, signed_none face (m + 1) hs none)
    (sym
    (ends (not (is_odd (h.0 + inversions h.1 + m))) (not (is_odd (h.0 + inversions h.1 + (m + 1))))
    (parity_sum (h.0 + inversions h.1 + m) (h.0 + inversions h.1 + (m + 1)) (omega arith))))
  where
    ends : (a b : Bool) → bit a + bit b ≡ 1 → bit (a || false) + bit (b || false) ≡ 1
    ends true true s = s
    ends true false s = s
    ends false true s = s
    ends false false s = s
splits_case face m h hs few later false e = rw e later

pub splits : (face : List ℕ) (m : ℕ) (hs : List (ℕ × List ℕ)) → count_by (is_face face) hs ≤ 1 → SplitsAt face m hs
splits face m [] few = refl
splits face m (h ∷ hs) few = splits_case face m h hs few (splits face m hs (omega (arith, few, count_by-cons (is_face face) h hs))) (is_face face h) refl

-- a simplex has a face with one sign or the other
pub face_signs_at : (m : ℕ) (face w : List ℕ) → bit (has_at_a_place face w) ≡ bit (has_signed m face w) + bit (has_signed (m + 1) face w)
face_signs_at m face w = go (is_distinct w) refl
  where
    few : Distinct w → count_by (is_face face) (left_out w) ≤ 1
    few d = one_place (λ l. same_list (sorted l) face) (λ x. count_by (nat_eq x) face)
        (λ l e x. sym (count-sorted (nat_eq x) l) ∙ ap (λ (v : List ℕ). count_by (nat_eq x) v) ((bytes_eq-Decides (sorted l) face).0 e)) w d

    go : (b : Bool) → is_distinct w ≡ b
        → bit (is_distinct w && list_any (is_face face) (left_out w))
        ≡ bit (is_distinct w && list_any (is_signed_face m face) (left_out w))
        + bit (is_distinct w && list_any (is_signed_face (m + 1) face) (left_out w))
    go true e = rw e (splits face m (left_out w) (few (from_distinct_test w e)))
    go false e = rw e refl

pub face_signs : (face w : List ℕ) → bit (has_at_a_place face w) ≡ bit (has_signed 0 face w) + bit (has_signed 1 face w)
face_signs face w = face_signs_at 0 face w

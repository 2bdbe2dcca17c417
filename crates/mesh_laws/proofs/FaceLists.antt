-- Ascending lists, the faces of a simplex among them, and counts and sums of faces over lists of simplices.
use Rattle.std.proofs.Common.{◌≡◌, ℕ, zero, suc, ◌+◌, ◌<◌, ◌≤◌, Bool, true, false, List, [], ◌∷◌, length, refl, ap, ◌∙◌, subst, arith, ℤ, inl, inr}
use Rattle.std.specs.Prelude.{map, count_by, nat_lt, nat_le, slice_index, pos, ◌+ℤ◌, neg_ℤ, ◌⊎◌, if◌then◌else◌}
use Rattle.std.specs.List.Sorted.{IsStrictlyIncreasing}
use Rattle.std.proofs.lemmas.Int.{ints}
use Rattle.std.proofs.lemmas.Bool.Decides.{nat_tests}
use Rattle.lists.specs.Orders.{without, inversions, sorted, put_in, is_odd, is_distinct, exchange_last}
use Rattle.iso_model.specs.Turns.{signed}
use Rattle.iso_model.specs.Faces.{face_without, has_face, sign_of_face, face_count, face_sum}
use Rattle.mesh_laws.proofs.FaceSigns.{Each-put_in}
use Rattle.mesh_laws.proofs.TakenMembers.{enters_first, from_In-sorted, Takes-apart, Takes-length}
use Rattle.mesh_laws.proofs.FaceOf.{place_takes, sign_none}
use Rattle.mesh_laws.proofs.SignedFaces.{sign-exchange, sign-map}
use Rattle.lists.specs.Members.{In, Each, Distinct, Ascends}
use Rattle.lists.proofs.MemberLaws.{Each-In, Each-from_In}
use Rattle.lists.proofs.Sorting.{bit, count_by-cons, leb_or}
use Rattle.lists.proofs.Counts.{count_none, not_there}
use Rattle.lists.proofs.DistinctLists.{from_distinct_test}

-- ---- ascending lists

-- they are sorted
pub ascends_sorted : (xs : List ℕ) → Ascends xs → sorted xs ≡ xs
ascends_sorted [] a = refl
ascends_sorted (x ∷ xs) a = ap (put_in x) (ascends_sorted xs a.1) ∙ enters_first x xs a.0

pub ascends_inversions : (xs : List ℕ) → Ascends xs → inversions xs ≡ 0
ascends_inversions [] a = refl
ascends_inversions (x ∷ xs) a =
    let none : count_by (λ y. nat_lt y x) xs ≡ 0 = count_none (λ y. nat_lt y x) xs (λ y i t. let less : x < y = a.0 y i in not_below x y less t) in
    omega (arith, none, ascends_inversions xs a.1)
  where
    not_below : (x y : ℕ) → x < y → nat_lt y x ≡ true → ⊥
    not_below x y h t = grind (arith, nat_tests)

-- each number is below the next
pub ascends_by_steps : (xs : List ℕ) → Ascends xs → IsStrictlyIncreasing xs
ascends_by_steps [] a k h = absurd (omega arith)
ascends_by_steps (x ∷ []) a k h = absurd (omega arith)
ascends_by_steps (x ∷ y ∷ ys) a zero h = a.0 y (inl refl)
ascends_by_steps (x ∷ y ∷ ys) a (suc k) h =
    let next : suc (k + 1) ≡ suc k + 1 = omega arith in
    subst (λ (n : ℕ). slice_index (y ∷ ys) k < slice_index (x ∷ y ∷ ys) n) next (ascends_by_steps (y ∷ ys) a.1 k (omega (arith, h)))

enters_case : (x y : ℕ) (ys : List ℕ) → (In x (y ∷ ys) → ⊥) → Ascends (y ∷ ys) → Ascends (put_in x ys)
    → ((nat_le x y ≡ true) × (x ≤ y)) ⊎ ((nat_le x y ≡ false) × (y < x)) → Ascends (put_in x (y ∷ ys))
enters_case x y ys free a more (inl low) =
    let apart : x ≡ y → ⊥ = λ e. free (inl e) in
    let less : x < y = grind arith in
    rw low.0 ((λ z i. elim i as (λ _. x < z) [ inl e ↦ omega (arith, e) | inr j ↦ omega (arith, a.0 z j) ]), a)
enters_case x y ys free a more (inr high) =
    rw high.0 (Each-In (λ z. y < z) (put_in x ys) (Each-put_in (λ z. y < z) x ys high.1 (Each-from_In (λ z. y < z) ys a.0)), more)

enters_ascending : (x : ℕ) (ys : List ℕ) → (In x ys → ⊥) → Ascends ys → Ascends (put_in x ys)
enters_ascending x [] free a = (λ y i. absurd i, tt)
enters_ascending x (y ∷ ys) free a = enters_case x y ys free a (enters_ascending x ys (λ i. free (inr i)) a.1) (leb_or x y)

pub sorted_ascends : (xs : List ℕ) → Distinct xs → Ascends (sorted xs)
sorted_ascends [] d = tt
sorted_ascends (x ∷ xs) d = enters_ascending x (sorted xs) (λ i. not_there x xs d.0 (from_In-sorted x xs i)) (sorted_ascends xs d.1)

-- each face of a simplex ascends
pub face_ascends : (w : List ℕ) (i : ℕ) → is_distinct w ≡ true → i < length w → Ascends (face_without w i)
face_ascends w i d h = sorted_ascends (without i w) (Takes-apart (place_takes w i h) (from_distinct_test w d)).1

pub length_face : (w : List ℕ) (i : ℕ) → i < length w → length (face_without w i) + 1 ≡ length w
length_face w i h = omega (arith, length-sorted (without i w), Takes-length (place_takes w i h))
  where
    length-put_in : (x : ℕ) (ys : List ℕ) → length (put_in x ys) ≡ length ys + 1
    length-put_in x [] = refl
    length-put_in x (y ∷ ys) = elim (nat_le x y) as (λ b. length (if b then x ∷ y ∷ ys else y ∷ put_in x ys) ≡ length (y ∷ ys) + 1) [
      | true ↦ omega arith
      | false ↦ omega (arith, length-put_in x ys)
    ]

    length-sorted : (xs : List ℕ) → length (sorted xs) ≡ length xs
    length-sorted [] = refl
    length-sorted (x ∷ xs) = omega (arith, length-put_in x (sorted xs), length-sorted xs)

-- ---- lists of simplices

-- each has two places or more
abbrev pub AreLong : List (List ℕ) → Type 0
AreLong ws = (w : List ℕ) → In w ws → 2 ≤ length w

pub face_sum-exchange : (ws : List (List ℕ)) (face : List ℕ) → AreLong ws → face_sum (map exchange_last ws) face ≡ neg_ℤ (face_sum ws face)
face_sum-exchange [] face long = refl
face_sum-exchange (w ∷ ws) face long = omega (arith, ints, sign-exchange face w (long w (inl refl)), face_sum-exchange ws face (λ v i. long v (inr i)))

signed_sum : (b : Bool) (x y z : ℤ) → z ≡ signed b y → signed b x +ℤ z ≡ signed b (x +ℤ y)
signed_sum true x y z e = omega (arith, ints)
signed_sum false x y z e = omega (arith, ints)

-- a map of the numbers that can be undone
module _ (f g : ℕ → ℕ) (D : ℕ → Type 0) (back : (x : ℕ) → D x → g (f x) ≡ x) where
  pub face_sum-map : (ws : List (List ℕ)) (face : List ℕ) → sorted face ≡ face → Each D face → ((w : List ℕ) → In w ws → Each D w)
      → face_sum (map (λ w. map f w) ws) (sorted (map f face)) ≡ signed (is_odd (inversions (map f face))) (face_sum ws face)
  face_sum-map [] face ascends in_face in_ws = zero (is_odd (inversions (map f face)))
    where
      zero : (b : Bool) → pos 0 ≡ signed b (pos 0)
      zero true = refl
      zero false = refl
  face_sum-map (w ∷ ws) face ascends in_face in_ws =
      ap (λ (z : ℤ). z +ℤ face_sum (map (λ v. map f v) ws) (sorted (map f face))) (sign-map f g D back face w ascends in_face (in_ws w (inl refl)))
      ∙ signed_sum (is_odd (inversions (map f face))) (sign_of_face face w) (face_sum ws face)
      (face_sum (map (λ v. map f v) ws) (sorted (map f face))) (face_sum-map ws face ascends in_face (λ v i. in_ws v (inr i)))

pub zero_sum : (x y : ℤ) → x ≡ pos 0 → y ≡ pos 0 → x +ℤ y ≡ pos 0
zero_sum x y e f = omega (arith, ints)

pub no_faces : (ws : List (List ℕ)) (face : List ℕ) → face_count ws face ≡ 0 → face_sum ws face ≡ pos 0
no_faces [] face h = refl
no_faces (w ∷ ws) face h =
    let first : has_face face w ≡ false = zero_bit (has_face face w) (omega (arith, h, count_by-cons (has_face face) w ws)) in
    zero_sum (sign_of_face face w) (face_sum ws face) (sign_none face w first) (no_faces ws face (omega (arith, h, count_by-cons (has_face face) w ws)))
  where
    zero_bit : (b : Bool) → bit b ≡ 0 → b ≡ false
    zero_bit true e = absurd (omega (arith, e))
    zero_bit false e = refl

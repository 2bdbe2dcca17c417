-- Faces and the numbers of their sets.
use Rattle.std.specs.Prelude.{◌≡◌, ◌≢◌, ◌⊎◌, ℕ, ◌+◌, ◌*◌, ◌^◌, ◌<◌, ◌≤◌, ◌%◌, Bool, true, false, ◌||◌, ◌==◌, nat_lt, List, [], ◌∷◌}
use Rattle.std.specs.Prelude.{length, count_by, pos, negsuc}
use Rattle.std.specs.Int.{bit_at}
use Rattle.std.proofs.Common.{get_or, refl, sym, ap, ◌∙◌, arith, inl, inr}
use Rattle.std.proofs.lemmas.Bool.{cases_eq, cases_lt, eq-eqb, ne_eqb, false_from_ne_true}
use Rattle.std.proofs.lemmas.Nat.Bits.{bit_at-zero, bit_at-lt, bit_at-pow_same, bit_at-pow_other, bit_at_cat_low, bit_at_cat_high, same_from_bits}
use Rattle.std.proofs.lemmas.List.Sums.{sum_by-cons}
use Rattle.std.proofs.Math.Pow.{pow-lt}
use Rattle.lists.specs.Orders.{has, is_distinct, inversions, is_odd, without}
use Rattle.iso_model.specs.Turns.{signed}
use Rattle.iso_model.specs.Faces.{face_without, sign_without}
use Rattle.mesh_laws.proofs.TakenMembers.{Takes-In, Takes-In_left, Takes-apart, In-sorted, from_In-sorted}
use Rattle.mesh_laws.proofs.FaceOf.{place_takes, rank, sign_odd, sign_even}
use Rattle.mesh_laws.proofs.FaceLists.{face_ascends}
use Rattle.edge_sets.specs.Sets.{IsSetOf}
use Rattle.lists.specs.Bits.{is_set, set_number}
use Rattle.lists.specs.Members.{In, IsStrict, AscendsBy, Ascends}
use Rattle.lists.proofs.MemberLaws.{In_from_place, In_of_has, has_of_In}
use Rattle.lists.proofs.DistinctLists.{from_distinct_test}
use Rattle.lists.proofs.Bits.{same_bit, multiple}
use Rattle.lists.proofs.Counts.{not_there}

-- ---- the bits of a set's number

not_member : (e : ℕ) (xs : List ℕ) → (In e xs → ⊥) → has xs e ≡ false
not_member e xs h = false_from_ne_true (has xs e) (λ t. h (In_of_has xs e t))

has_other : (e x : ℕ) (xs : List ℕ) → e ≢ x → has (x ∷ xs) e ≡ has xs e
has_other e x xs n = ap (λ (b : Bool). b || has xs e) (ne_eqb e x n)

has_first : (e x : ℕ) (xs : List ℕ) → e ≡ x → has (x ∷ xs) e ≡ true
has_first e x xs s = ap (λ (b : Bool). b || has xs e) (eq-eqb e x s)

-- bit e is set where edge e is a member
pub face_bits : (xs : List ℕ) → Ascends xs → IsSetOf (set_number xs) xs
face_bits [] a e = ap (λ n. n == 1) (bit_at-zero e)
face_bits (x ∷ xs) a e =
    let r = multiple (x + 1) xs (λ y i. let less : x < y = a.0 y i in omega arith) in
    let whole : set_number (x ∷ xs) ≡ r.0 * 2 ^ (x + 1) + 2 ^ x = omega (arith, sum_by-cons (λ i. 2 ^ i) x xs, r.1) in
    ap (λ n. is_set n e) whole ∙ by_place r.0 r.1 (face_bits xs a.1 e) (cases_lt e (x + 1))
  where
    low : (m : ℕ) → e < x + 1 → (e ≡ x) ⊎ (e ≢ x) → is_set (m * 2 ^ (x + 1) + 2 ^ x) e ≡ has (x ∷ xs) e
    low m h (inl s) =
        ap (λ n. n == 1) (bit_at_cat_low m (x + 1) (2 ^ x) e h ∙ ap (λ k. bit_at (2 ^ x) k) s ∙ bit_at-pow_same x) ∙ sym (has_first e x xs s)
    low m h (inr n) =
        ap (λ k. k == 1) (bit_at_cat_low m (x + 1) (2 ^ x) e h ∙ bit_at-pow_other x e n)
        ∙ sym (has_other e x xs n ∙ not_member e xs (λ i. let less : x < e = a.0 e i in omega (arith, h, less)))

    high : (m : ℕ) → set_number xs ≡ m * 2 ^ (x + 1) → is_set (set_number xs) e ≡ has xs e → x + 1 ≤ e → is_set (m * 2 ^ (x + 1) + 2 ^ x) e ≡ has (x ∷ xs) e
    high m whole others h =
        let n : e ≢ x = omega arith in
        let power : 2 ^ x < 2 ^ (x + 1) = pow-lt (omega arith) in
        let some : 0 < 2 ^ (x + 1) = omega (arith, power) in
        let more : set_number xs ≡ m * 2 ^ (x + 1) + 0 = omega (arith, whole) in
        ap (λ k. k == 1) (bit_at_cat_high m (x + 1) (2 ^ x) e power h ∙ sym (bit_at_cat_high m (x + 1) 0 e some h) ∙ ap (λ k. bit_at k e) (sym more))
        ∙ others ∙ sym (has_other e x xs n)

    by_place : (m : ℕ) → set_number xs ≡ m * 2 ^ (x + 1) → is_set (set_number xs) e ≡ has xs e → (e < x + 1) ⊎ (x + 1 ≤ e)
        → is_set (m * 2 ^ (x + 1) + 2 ^ x) e ≡ has (x ∷ xs) e
    by_place m whole others (inl h) = low m h (cases_eq e x)
    by_place m whole others (inr h) = high m whole others h

-- a set has the number of the ascending list of its members
pub number_of_set : (set : ℕ) (xs : List ℕ) → Ascends xs → IsSetOf set xs → set ≡ set_number xs
number_of_set set xs a s =
    same_from_bits set (set_number xs)
    (λ i. same_bit (bit_at set i) (bit_at (set_number xs) i) (bit_at-lt set i) (bit_at-lt (set_number xs) i) (s i ∙ sym (face_bits xs a i)))

-- ---- faces with one number are one face

below_strict : IsStrict (λ (x y : ℕ). x < y)
below_strict = record { irreflexive = λ x h. omega (arith, h); transitive = λ x y z h k. omega (arith, h, k) }

ascends_by : (xs : List ℕ) → Ascends xs → AscendsBy (λ (x y : ℕ). x < y) xs
ascends_by [] a = tt
ascends_by (x ∷ xs) a = (λ y c. a.0 y (In_from_place xs y c.0 c.1 c.2), ascends_by xs a.1)

-- ---- the face without a place

members_without : (w : List ℕ) (k e : ℕ) → k < length w → e ≢ get_or w k 0 → has w e ≡ has (face_without w k) e
members_without w k e h n =
    same (has w e) (has (face_without w k) e)
    (λ t. elim (Takes-In (place_takes w k h) e (In_of_has w e t)) as (λ _. has (face_without w k) e ≡ true) [
      | inl s ↦ absurd (n s)
      | inr i ↦ has_of_In (face_without w k) e (In-sorted e (without k w) i)
    ])
    (λ t. has_of_In w e (Takes-In_left (place_takes w k h) e (from_In-sorted e (without k w) (In_of_has (face_without w k) e t))))
  where
    same : (a b : Bool) → (a ≡ true → b ≡ true) → (b ≡ true → a ≡ true) → a ≡ b
    same true b p q = sym (p refl)
    same false true p q = q refl
    same false false p q = refl

left_out_of : (w : List ℕ) (k : ℕ) → is_distinct w ≡ true → k < length w → has (face_without w k) (get_or w k 0) ≡ false
left_out_of w k d h =
    not_member (get_or w k 0) (face_without w k) (λ i.
    not_there (get_or w k 0) (without k w) (Takes-apart (place_takes w k h) (from_distinct_test w d)).0 (from_In-sorted (get_or w k 0) (without k w) i))

-- the set of a tuple's edges but the one at a place is that of the face without this place
pub face_set : (w : List ℕ) (k set less : ℕ) → is_distinct w ≡ true → k < length w → IsSetOf set w → is_set less (get_or w k 0) ≡ false
    → ((e : ℕ) → e ≢ get_or w k 0 → is_set less e ≡ is_set set e) → less ≡ set_number (face_without w k)
face_set w k set less d h s here others =
    number_of_set less (face_without w k) (face_ascends w k d h) (λ e. by_edge e (cases_eq e (get_or w k 0)))
  where
    by_edge : (e : ℕ) → (e ≡ get_or w k 0) ⊎ (e ≢ get_or w k 0) → is_set less e ≡ has (face_without w k) e
    by_edge e (inl same) = ap (is_set less) same ∙ here ∙ sym (left_out_of w k d h) ∙ ap (has (face_without w k)) (sym same)
    by_edge e (inr n) = others e n ∙ s e ∙ members_without w k e h n

-- its sign, by the parities of the order of the edges and of how many are below the one at the place
same_sign : (w : List ℕ) (k : ℕ) → is_distinct w ≡ true → k < length w
    → sign_without w k ≡ signed (is_odd (inversions w + count_by (λ y. nat_lt y (get_or w k 0)) w)) (pos 1)
same_sign w k d h = ap (λ (n : ℕ). signed (n == 1) (pos 1)) (rank w k h (from_distinct_test w d))

pub sign_at_odd : (w : List ℕ) (k : ℕ) → is_distinct w ≡ true → k < length w
    → (inversions w % 2 + count_by (λ y. nat_lt y (get_or w k 0)) w % 2) % 2 ≡ 1 → sign_without w k ≡ negsuc 0
sign_at_odd w k d h odd = same_sign w k d h ∙ sign_odd (inversions w) (count_by (λ y. nat_lt y (get_or w k 0)) w) odd

pub sign_at_even : (w : List ℕ) (k : ℕ) → is_distinct w ≡ true → k < length w
    → ((inversions w % 2 + count_by (λ y. nat_lt y (get_or w k 0)) w % 2) % 2 ≡ 1 → ⊥) → sign_without w k ≡ pos 1
sign_at_even w k d h even = same_sign w k d h ∙ sign_even (inversions w) (count_by (λ y. nat_lt y (get_or w k 0)) w) even

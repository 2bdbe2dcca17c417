-- Count and sum of a face by its signs, and what an exchange of the last two places and a map of the numbers make of both.
use Rattle.std.proofs.Common.{◌≡◌, ℕ, zero, suc, ◌+◌, ◌<◌, ◌≤◌, Bool, true, false, not, ◌&&◌, ◌||◌, List, [], ◌∷◌, length, get_or, refl, ap, sym, ◌∙◌}
use Rattle.std.proofs.Common.{subst, arith, ℤ, inl, inr}
use Rattle.std.specs.Prelude.{map, count_by, ◌%◌, ◌==◌, nat_eq, pos, negsuc, ◌+ℤ◌, neg_ℤ, if◌then◌else◌}
use Rattle.std.specs.List.{list_any}
use Rattle.std.proofs.lemmas.Int.{ints}
use Rattle.std.proofs.lemmas.Slice.Eq.{bytes_eq-Decides}
use Rattle.std.proofs.lemmas.Bool.{cases_eq, and_from, false_from_ne_true, both_ways}
use Rattle.lists.specs.Orders.{numbers, without, inversions, sorted, is_odd, is_distinct, same_list, exchange_last}
use Rattle.iso_model.specs.Turns.{signed}
use Rattle.iso_model.specs.Faces.{face_without, has_face, sign_of_face, face_count, face_sum}
use Rattle.mesh_laws.proofs.TakenMembers.{In-sorted}
use Rattle.mesh_laws.proofs.FaceSigns.{left_out, is_face, is_signed_face, has_at_a_place, has_signed, face_signs, face_signs_at, count-exchange}
use Rattle.mesh_laws.proofs.FaceSigns.{Distinct-map, Distinct-exchange, any_signed_image, any_signed-exchange}
use Rattle.mesh_laws.proofs.FaceOf.{face_place, any_place, In-without, place_left_out, sign_of_place, sign_none}
use Rattle.lists.specs.Members.{In, Each, Distinct}
use Rattle.lists.proofs.Tests.{and_left, and_right, same_tests, same_number}
use Rattle.lists.proofs.MemberLaws.{In-map, from_In-map, from_any, any_from}
use Rattle.lists.proofs.Sorting.{bit, count_by-cons}
use Rattle.lists.proofs.Counts.{count_none, not_there}
use Rattle.lists.proofs.DistinctLists.{distinct_test, from_distinct_test}

-- ---- places

left_out-In : (w : List ℕ) (k : ℕ) → k < length w → In {X = ℕ × List ℕ} (k, without k w) (left_out w)
left_out-In [] k h = absurd (omega arith)
left_out-In (x ∷ xs) zero h = inl refl
left_out-In (x ∷ xs) (suc k) h =
    let next : k + 1 ≡ suc k = omega arith in
    let more = In-map (λ (f : ℕ × List ℕ). (f.0 + 1, x ∷ f.1)) (left_out xs) (k, without k xs) (left_out-In xs k (omega arith)) in
    inr (subst (λ (n : ℕ). In {X = ℕ × List ℕ} (n, x ∷ without k xs) (map (λ (f : ℕ × List ℕ). (f.0 + 1, x ∷ f.1)) (left_out xs))) next more)

from_left_out : (w : List ℕ) (h : ℕ × List ℕ) → In h (left_out w) → (k : ℕ) × (k < length w) × (h ≡ (k, without k w))
from_left_out [] h i = absurd i
from_left_out (x ∷ xs) h (inl e) = (0, omega arith, e)
from_left_out (x ∷ xs) h (inr i) =
    let r = from_In-map (λ (f : ℕ × List ℕ). (f.0 + 1, x ∷ f.1)) (left_out xs) h i in
    let s = from_left_out xs r.0 r.1 in
    let next : s.0 + 1 ≡ suc s.0 = omega arith in
    (suc s.0, omega (arith, s.1), r.2 ∙ ap (λ (f : ℕ × List ℕ). (f.0 + 1, x ∷ f.1)) s.2 ∙ ap (λ (n : ℕ). (n, x ∷ without s.0 xs)) next)

-- the face is found at a place or by the list of places
pub has_face_is : (face w : List ℕ) → has_face face w ≡ has_at_a_place face w
has_face_is face w = same_tests (has_face face w) (has_at_a_place face w)
    (λ h.
    let r = face_place face w h in
    and_from (is_distinct w) (list_any (is_face face) (left_out w))
    (and_left (is_distinct w) (list_any (λ i. same_list (face_without w i) face) (numbers (length w))) h)
    (any_from (is_face face) (left_out w) (r.0, without r.0 w) (left_out-In w r.0 r.1) ((bytes_eq-Decides (sorted (without r.0 w)) face).1 r.2)))
    (λ h.
    let r = from_any (is_face face) (left_out w) (and_right (is_distinct w) (list_any (is_face face) (left_out w)) h) in
    let s = from_left_out w r.0 r.1 in
    let e : sorted (without s.0 w) ≡ face = ap (λ (f : ℕ × List ℕ). sorted f.1) (sym s.2) ∙ (bytes_eq-Decides (sorted r.0.1) face).0 r.2 in
    and_from (is_distinct w) (list_any (λ i. same_list (face_without w i) face) (numbers (length w)))
    (and_left (is_distinct w) (list_any (is_face face) (left_out w)) h) (any_place face w s.0 s.1 e))

-- ---- signs

place_is : (face w : List ℕ) (k i : ℕ) → is_distinct w ≡ true → k < length w → sorted (without k w) ≡ face → sorted (without i w) ≡ face → i ≡ k
place_is face w k i d h e f = elim (cases_eq i k) as (λ _. i ≡ k) [
  | inl same ↦ same
  | inr apart ↦
      absurd
      (place_left_out face w k d h e
      (subst (λ (v : List ℕ). In (get_or w k 0) v) f (In-sorted (get_or w k 0) (without i w) (In-without w k i h apart))))
]

-- the sign is that at the place
pub signed_place : (m : ℕ) (face w : List ℕ) (k : ℕ) → is_distinct w ≡ true → k < length w → sorted (without k w) ≡ face
    → list_any (is_signed_face m face) (left_out w) ≡ not (is_odd (k + inversions (without k w) + m))
signed_place m face w k d h e = same_tests (list_any (is_signed_face m face) (left_out w)) (not (is_odd (k + inversions (without k w) + m)))
    (λ t.
    let r = from_any (is_signed_face m face) (left_out w) t in
    let s = from_left_out w r.0 r.1 in
    let f : sorted (without s.0 w) ≡ face =
    ap (λ (f : ℕ × List ℕ). sorted f.1) (sym s.2)
    ∙ (bytes_eq-Decides (sorted r.0.1) face).0 (and_left (is_face face r.0) (not (is_odd (r.0.0 + inversions r.0.1 + m))) r.2) in
    let same : s.0 ≡ k = place_is face w k s.0 d h e f in
    ap (λ (i : ℕ). not (is_odd (i + inversions (without i w) + m))) (sym same)
    ∙ ap (λ (f : ℕ × List ℕ). not (is_odd (f.0 + inversions f.1 + m))) (sym s.2)
    ∙ and_right (is_face face r.0) (not (is_odd (r.0.0 + inversions r.0.1 + m))) r.2)
    (λ t. any_from (is_signed_face m face) (left_out w) (k, without k w) (left_out-In w k h)
    (and_from (is_face face (k, without k w)) (not (is_odd (k + inversions (without k w) + m))) ((bytes_eq-Decides (sorted (without k w)) face).1 e) t))

pub no_sign : (m : ℕ) (face w : List ℕ) → has_face face w ≡ false → has_signed m face w ≡ false
no_sign m face w h = false_from_ne_true (has_signed m face w) (λ t.
    let any = and_right (is_distinct w) (list_any (is_signed_face m face) (left_out w)) t in
    let r = from_any (is_signed_face m face) (left_out w) any in
    let f = and_left (is_face face r.0) (not (is_odd (r.0.0 + inversions r.0.1 + m))) r.2 in
    let found : has_at_a_place face w ≡ true =
    and_from (is_distinct w) (list_any (is_face face) (left_out w)) (and_left (is_distinct w) (list_any (is_signed_face m face) (left_out w)) t)
    (any_from (is_face face) (left_out w) r.0 r.1 f) in
    both_ways (has_face face w) h (has_face_is face w ∙ found))

-- 1 where the face is had with this sign, -1 where it is had with the other, and else 0
abbrev pub sign_by : Bool → Bool → ℤ
sign_by even odd = if even then pos 1 else (if odd then negsuc 0 else pos 0)

next_odd : (n : ℕ) → is_odd (n + 1) ≡ not (is_odd n)
next_odd n = go (n % 2) (omega arith) refl
  where
    go : (r : ℕ) → r < 2 → n % 2 ≡ r → is_odd (n + 1) ≡ not (is_odd n)
    go zero h e =
        let next : (n + 1) % 2 ≡ 1 = omega arith in
        ap (λ (r : ℕ). r == 1) next ∙ sym (ap (λ (r : ℕ). not (r == 1)) e)
    go (suc zero) h e =
        let next : (n + 1) % 2 ≡ 0 = omega arith in
        ap (λ (r : ℕ). r == 1) next ∙ sym (ap (λ (r : ℕ). not (r == 1)) e)
    go (suc (suc r)) h e = absurd (omega arith)

sign_by_bits : (x y z : Bool) → y ≡ x → z ≡ not x → signed x (pos 1) ≡ sign_by (not y) (not z)
sign_by_bits true true true p q = absurd (cc)
sign_by_bits true true false p q = refl
sign_by_bits true false z p q = absurd (cc)
sign_by_bits false true z p q = absurd (cc)
sign_by_bits false false true p q = refl
sign_by_bits false false false p q = absurd (cc)

sign_by_parity : (n : ℕ) → signed (is_odd n) (pos 1) ≡ sign_by (not (is_odd (n + 0))) (not (is_odd (n + 1)))
sign_by_parity n = let same : n + 0 ≡ n = omega arith in sign_by_bits (is_odd n) (is_odd (n + 0)) (is_odd (n + 1)) (ap is_odd same) (next_odd n)

pub sign_is_signed : (face w : List ℕ) → sign_of_face face w ≡ sign_by (has_signed 0 face w) (has_signed 1 face w)
sign_is_signed face w = go (has_face face w) refl
  where
    go : (b : Bool) → has_face face w ≡ b → sign_of_face face w ≡ sign_by (has_signed 0 face w) (has_signed 1 face w)
    go false h =
        sign_none face w h
        ∙ sym (ap (λ (b : Bool). sign_by b (has_signed 1 face w)) (no_sign 0 face w h) ∙ ap (λ (b : Bool). sign_by false b) (no_sign 1 face w h))
    go true h =
        let r = face_place face w h in
        let k = r.0 in
        let d = and_left (is_distinct w) (list_any (λ i. same_list (face_without w i) face) (numbers (length w))) h in
        let at = λ (m : ℕ). ap (λ (b : Bool). b && list_any (is_signed_face m face) (left_out w)) d ∙ signed_place m face w k d r.1 r.2 in
        sign_of_place face w k d r.1 r.2 ∙ sign_by_parity (k + inversions (without k w))
        ∙ sym
        (ap (λ (b : Bool). sign_by b (has_signed 1 face w)) (at 0)
        ∙ ap (λ (b : Bool). sign_by (not (is_odd (k + inversions (without k w) + 0))) b) (at 1))

-- ---- count and sum of a face by its signs

pub has_face_signs : (face w : List ℕ) → bit (has_face face w) ≡ bit (has_signed 0 face w) + bit (has_signed 1 face w)
has_face_signs face w = ap bit (has_face_is face w) ∙ face_signs face w

pub face_count_is : (ws : List (List ℕ)) (face : List ℕ) → face_count ws face ≡ count_by (has_signed 0 face) ws + count_by (has_signed 1 face) ws
face_count_is [] face = refl
face_count_is (w ∷ ws) face =
    omega (
      arith,
      face_count_is ws face,
      has_face_signs face w,
      count_by-cons (has_face face) w ws,
      count_by-cons (has_signed 0 face) w ws,
      count_by-cons (has_signed 1 face) w ws,
    )

sign_is : (face w : List ℕ) → sign_of_face face w +ℤ pos (bit (has_signed 1 face w)) ≡ pos (bit (has_signed 0 face w))
sign_is face w =
    ap (λ (z : ℤ). z +ℤ pos (bit (has_signed 1 face w))) (sign_is_signed face w)
    ∙ go (has_signed 0 face w) (has_signed 1 face w) (has_face face w) (has_face_signs face w)
  where
    go : (a b c : Bool) → bit c ≡ bit a + bit b → sign_by a b +ℤ pos (bit b) ≡ pos (bit a)
    go true true true h = absurd (omega (arith, h))
    go true true false h = absurd (omega (arith, h))
    go true false c h = refl
    go false true c h = refl
    go false false c h = refl

pub face_sum_is : (ws : List (List ℕ)) (face : List ℕ) → face_sum ws face +ℤ pos (count_by (has_signed 1 face) ws) ≡ pos (count_by (has_signed 0 face) ws)
face_sum_is [] face = refl
face_sum_is (w ∷ ws) face =
    omega (arith, ints, face_sum_is ws face, sign_is face w, count_by-cons (has_signed 0 face) w ws, count_by-cons (has_signed 1 face) w ws)

-- ---- the last two places exchanged

from_Distinct-exchange : (w : List ℕ) → Distinct (exchange_last w) → Distinct w
from_Distinct-exchange [] d = d
from_Distinct-exchange (x ∷ []) d = d
from_Distinct-exchange (x ∷ y ∷ []) d = Distinct-exchange (y ∷ x ∷ []) d
from_Distinct-exchange (x ∷ y ∷ z ∷ w) d = (sym (count-exchange (nat_eq x) (y ∷ z ∷ w)) ∙ d.0, from_Distinct-exchange (y ∷ z ∷ w) d.1)

is_distinct-exchange : (w : List ℕ) → is_distinct (exchange_last w) ≡ is_distinct w
is_distinct-exchange w = same_tests (is_distinct (exchange_last w)) (is_distinct w)
    (λ h. distinct_test w (from_Distinct-exchange w (from_distinct_test (exchange_last w) h)))
    (λ h. distinct_test (exchange_last w) (Distinct-exchange w (from_distinct_test w h)))

has_signed-exchange : (m : ℕ) (face w : List ℕ) → 2 ≤ length w → has_signed m face (exchange_last w) ≡ has_signed (m + 1) face w
has_signed-exchange m face w long = go (is_distinct w) refl
  where
    go : (b : Bool) → is_distinct w ≡ b → has_signed m face (exchange_last w) ≡ has_signed (m + 1) face w
    go true d =
        ap (λ (b : Bool). b && list_any (is_signed_face m face) (left_out (exchange_last w))) (is_distinct-exchange w ∙ d)
        ∙ any_signed-exchange m face w (from_distinct_test w d) long
        ∙ sym (ap (λ (b : Bool). b && list_any (is_signed_face (m + 1) face) (left_out w)) d)
    go false d =
        ap (λ (b : Bool). b && list_any (is_signed_face m face) (left_out (exchange_last w))) (is_distinct-exchange w ∙ d)
        ∙ sym (ap (λ (b : Bool). b && list_any (is_signed_face (m + 1) face) (left_out w)) d)

-- only the parity of the turns matters
pub has_signed_parity : (m n : ℕ) (face w : List ℕ) → m % 2 ≡ n % 2 → has_signed m face w ≡ has_signed n face w
has_signed_parity m n face w same = ap (λ (b : Bool). is_distinct w && b) (any_same (is_signed_face m face) (is_signed_face n face) (left_out w) (λ h.
    let parity : (h.0 + inversions h.1 + m) % 2 ≡ (h.0 + inversions h.1 + n) % 2 = omega arith in
    ap (λ (r : ℕ). is_face face h && not (r == 1)) parity))
  where
    any_same : (p q : ℕ × List ℕ → Bool) (hs : List (ℕ × List ℕ)) → ((h : ℕ × List ℕ) → p h ≡ q h) → list_any p hs ≡ list_any q hs
    any_same p q [] e = refl
    any_same p q (h ∷ hs) e = ap (λ (b : Bool). b || list_any p hs) (e h) ∙ ap (λ (b : Bool). q h || b) (any_same p q hs e)

same_bit : (a b : Bool) → bit a ≡ bit b → a ≡ b
same_bit true true h = refl
same_bit true false h = absurd (omega (arith, h))
same_bit false true h = absurd (omega (arith, h))
same_bit false false h = refl

turned : (a b c : Bool) → bit c ≡ bit a + bit b → sign_by b a ≡ neg_ℤ (sign_by a b)
turned true true true h = absurd (omega (arith, h))
turned true true false h = absurd (omega (arith, h))
turned true false c h = refl
turned false true c h = refl
turned false false c h = refl

-- the sign after some turns
sign_after : (m : ℕ) (face w : List ℕ) → sign_by (has_signed m face w) (has_signed (m + 1) face w) ≡ signed (is_odd m) (sign_of_face face w)
sign_after m face w = go (m % 2) (omega arith) refl
  where
    go : (r : ℕ) → r < 2 → m % 2 ≡ r → sign_by (has_signed m face w) (has_signed (m + 1) face w) ≡ signed (is_odd m) (sign_of_face face w)
    go zero h e =
        ap (λ (b : Bool). sign_by b (has_signed (m + 1) face w)) (has_signed_parity m 0 face w (omega arith))
        ∙ ap (λ (b : Bool). sign_by (has_signed 0 face w) b) (has_signed_parity (m + 1) 1 face w (omega arith))
        ∙ sym (sign_is_signed face w) ∙ sym (ap (λ (r : ℕ). signed (r == 1) (sign_of_face face w)) e)
    go (suc zero) h e =
        ap (λ (b : Bool). sign_by b (has_signed (m + 1) face w)) (has_signed_parity m 1 face w (omega arith))
        ∙ ap (λ (b : Bool). sign_by (has_signed 1 face w) b) (has_signed_parity (m + 1) 0 face w (omega arith))
        ∙ turned (has_signed 0 face w) (has_signed 1 face w) (has_face face w) (has_face_signs face w) ∙ sym (ap neg_ℤ (sign_is_signed face w))
        ∙ sym (ap (λ (r : ℕ). signed (r == 1) (sign_of_face face w)) e)
    go (suc (suc r)) h e = absurd (omega arith)

-- the exchange turns the sign
pub sign-exchange : (face w : List ℕ) → 2 ≤ length w → sign_of_face face (exchange_last w) ≡ neg_ℤ (sign_of_face face w)
sign-exchange face w long =
    sign_is_signed face (exchange_last w) ∙ ap (λ (b : Bool). sign_by b (has_signed 1 face (exchange_last w))) (has_signed-exchange 0 face w long)
    ∙ ap (λ (b : Bool). sign_by (has_signed 1 face w) b) (has_signed-exchange 1 face w long) ∙ sign_after 1 face w

-- ---- a map of the numbers that can be undone

module _ (f g : ℕ → ℕ) (D : ℕ → Type 0) (back : (x : ℕ) → D x → g (f x) ≡ x) where
  pub is_distinct-map : (w : List ℕ) → Each D w → is_distinct (map f w) ≡ is_distinct w
  is_distinct-map w all = same_tests (is_distinct (map f w)) (is_distinct w)
      (λ h. distinct_test w (from_Distinct-map w (from_distinct_test (map f w) h)))
      (λ h. distinct_test (map f w) (Distinct-map f g D back w all (from_distinct_test w h)))
    where
      from_Distinct-map : (w : List ℕ) → Distinct (map f w) → Distinct w
      from_Distinct-map [] d = tt
      from_Distinct-map (x ∷ w) d = (
        count_none (nat_eq x) w (λ y i e.
            let same : y ≡ x = same_number x y e in
            let in_map : In (f x) (map f w) = subst (λ (z : ℕ). In (f z) (map f w)) same (In-map f w y i) in
            not_there (f x) (map f w) d.0 in_map),
        from_Distinct-map w d.1,
      )

  pub has_signed-map : (m : ℕ) (face w : List ℕ) → sorted face ≡ face → Each D face → Each D w
      → has_signed m (sorted (map f face)) (map f w) ≡ has_signed (m + inversions (map f face)) face w
  has_signed-map m face w ascends in_face in_w = go (is_distinct w) refl
    where
      go : (b : Bool) → is_distinct w ≡ b → has_signed m (sorted (map f face)) (map f w) ≡ has_signed (m + inversions (map f face)) face w
      go true d =
          ap (λ (b : Bool). b && list_any (is_signed_face m (sorted (map f face))) (left_out (map f w))) (is_distinct-map w in_w ∙ d)
          ∙ any_signed_image f g D back m face w ascends in_face in_w (from_distinct_test w d)
          ∙ sym (ap (λ (b : Bool). b && list_any (is_signed_face (m + inversions (map f face)) face) (left_out w)) d)
      go false d =
          ap (λ (b : Bool). b && list_any (is_signed_face m (sorted (map f face))) (left_out (map f w))) (is_distinct-map w in_w ∙ d)
          ∙ sym (ap (λ (b : Bool). b && list_any (is_signed_face (m + inversions (map f face)) face) (left_out w)) d)

  -- the image of a face has the sign of the face, turned by the order of its numbers' images
  pub sign-map : (face w : List ℕ) → sorted face ≡ face → Each D face → Each D w
      → sign_of_face (sorted (map f face)) (map f w) ≡ signed (is_odd (inversions (map f face))) (sign_of_face face w)
  sign-map face w ascends in_face in_w =
      let n = inversions (map f face) in
      sign_is_signed (sorted (map f face)) (map f w)
      ∙ ap (λ (b : Bool). sign_by b (has_signed 1 (sorted (map f face)) (map f w)))
      (has_signed-map 0 face w ascends in_face in_w ∙ has_signed_parity (0 + n) n face w (omega arith))
      ∙ ap (λ (b : Bool). sign_by (has_signed n face w) b)
      (has_signed-map 1 face w ascends in_face in_w ∙ has_signed_parity (1 + n) (n + 1) face w (omega arith))
      ∙ sign_after n face w

-- only the parity of the sign matters
pub count_parity : (m n : ℕ) (face : List ℕ) (ws : List (List ℕ)) → m % 2 ≡ n % 2 → count_by (has_signed m face) ws ≡ count_by (has_signed n face) ws
count_parity m n face [] same = refl
count_parity m n face (w ∷ ws) same =
    omega (
      arith,
      count_by-cons (has_signed m face) w ws,
      count_by-cons (has_signed n face) w ws,
      ap bit (has_signed_parity m n face w same),
      count_parity m n face ws same,
    )

-- The faces of simplices as sorted keys, and how often each of them stands among them.
use Rattle.std.proofs.Common.{Bool, List, [], ap, arith, false, inl, inr, length, refl, subst, suc, sym, true, zero, ℕ, ◌++◌, ◌+◌, ◌*◌, ◌<◌, ◌≤◌, ◌∙◌, ◌∷◌, ◌≡◌}
use Rattle.std.specs.Prelude.{cond, count_by, map, nat_le, slice_index_or, slice_set, take, ◌==◌}
use Rattle.std.specs.List.{list_any}
use Rattle.std.specs.List.Sorted.{IsNonDecreasing, IsPermutation}
use Rattle.std.proofs.lemmas.Bool.{cases_eq}
use Rattle.std.proofs.lemmas.Bool.Decides.{nat_tests}
use Rattle.std.proofs.lemmas.List.{length-append, take_more, append-nil}
use Rattle.std.proofs.lemmas.List.FromFn.{length-map-range_with_len}
use Rattle.std.proofs.lemmas.List.Sums.{sum_by-append}
use Rattle.std.proofs.lemmas.Grind.{flat_map-append}
use Rattle.std.proofs.lemmas.Slice.Eq.{bytes_eq-Decides}
use Rattle.lists.specs.Members.{Distinct, In}
use Rattle.lists.specs.Orders.{is_distinct, numbers, put_in, same_list, without}
use Rattle.lists.proofs.Counts.{count_none, not_there}
use Rattle.lists.proofs.DistinctLists.{Distinct-range}
use Rattle.lists.proofs.MemberLaws.{any_from, from_In-numbers, map-map}
use Rattle.lists.proofs.Sorting.{bit, count_by-cons, count-map}
use Rattle.lists.proofs.Tests.{same_tests}
use Rattle.iso_model.specs.Faces.{face_count, face_without, faces_of, free_face_count, has_face}
use Rattle.mesh_laws.specs.FaceKeys.{all_faces, is_once, padded}
use Rattle.mesh_laws.specs.FaceGroups.{once_count}
use Rattle.mesh_laws.proofs.FaceOf.{In-without, place_left_out}
use Rattle.mesh_laws.proofs.OnceInLists.{is_sorted}
use Rattle.mesh_laws.proofs.TakenMembers.{Takes, here, later, Takes-sorted, In-sorted}

-- ---- counts where one passes at most

pub at_most_one : (p : ℕ → Bool) (xs : List ℕ) → Distinct xs → ((x y : ℕ) → In x xs → In y xs → p x ≡ true → p y ≡ true → x ≡ y)
    → count_by p xs ≡ bit (list_any p xs)
at_most_one p [] d one = refl
at_most_one p (x ∷ xs) d one = by_test (at_most_one p xs d.1 (λ y z i j. one y z (inr i) (inr j))) (p x) refl
  where
    by_test : count_by p xs ≡ bit (list_any p xs) → (b : Bool) → p x ≡ b → count_by p (x ∷ xs) ≡ bit (list_any p (x ∷ xs))
    by_test later_one true e =
        let none : count_by p xs ≡ 0 =
        count_none p xs (λ y i f. not_there x xs d.0 (subst (λ (z : ℕ). In z xs) (sym (one x y (inl refl) (inr i) e f)) i)) in
        let any : list_any p (x ∷ xs) ≡ true = any_from p (x ∷ xs) x (inl refl) e in
        omega (arith, count_by-cons p x xs, ap bit e, none, ap bit any)
    by_test later_one false e =
        let any : list_any p (x ∷ xs) ≡ list_any p xs = rw e refl in
        omega (arith, count_by-cons p x xs, ap bit e, later_one, ap bit any)

-- ---- the faces of a simplex

same_turned : (f g : List ℕ) → same_list f g ≡ same_list g f
same_turned f g = same_tests (same_list f g) (same_list g f) (λ e. (bytes_eq-Decides g f).1 (sym ((bytes_eq-Decides f g).0 e)))
    (λ e. (bytes_eq-Decides f g).1 (sym ((bytes_eq-Decides g f).0 e)))

pub one_place : (face w : List ℕ) → is_distinct w ≡ true → (i j : ℕ) → i < length w → j < length w → face_without w i ≡ face → face_without w j ≡ face → i ≡ j
one_place face w d i j h l e f = elim (cases_eq i j) as (λ _. i ≡ j) [
  | inl s ↦ s
  | inr n ↦
      absurd (place_left_out face w i d h e
      (subst (λ (v : List ℕ). In (slice_index_or w i 0) v) f (In-sorted (slice_index_or w i 0) (without j w) (In-without w i j h (λ s. n (sym s))))))
]

-- a face stands once among those of a simplex that has it
pub faces_count : (face w : List ℕ) → is_distinct w ≡ true → count_by (same_list face) (faces_of w) ≡ bit (has_face face w)
faces_count face w d =
    let test : ℕ → Bool = λ i. same_list face (face_without w i) in
    let listed : faces_of w ≡ map (face_without w) (numbers (length w)) = rw d refl in
    let has : has_face face w ≡ list_any (λ i. same_list (face_without w i) face) (numbers (length w)) = rw d refl in
    ap (count_by (same_list face)) listed ∙ count-map (same_list face) (face_without w) (numbers (length w))
    ∙ at_most_one test (numbers (length w)) (Distinct-range 0 (length w)) (λ i j a b e f.
    one_place face w d i j (from_In-numbers (length w) i a) (from_In-numbers (length w) j b) (sym ((bytes_eq-Decides face (face_without w i)).0 e))
    (sym ((bytes_eq-Decides face (face_without w j)).0 f)))
    ∙ ap bit (any_same test (λ i. same_list (face_without w i) face) (λ i. same_turned face (face_without w i)) (numbers (length w))) ∙ sym (ap bit has)
  where
    any_same : (p q : ℕ → Bool) → ((i : ℕ) → p i ≡ q i) → (xs : List ℕ) → list_any p xs ≡ list_any q xs
    any_same p q same [] = refl
    any_same p q same (x ∷ xs) = rw (same x, any_same p q same xs) refl

-- ---- the faces of all simplices

pub all_count : (face : List ℕ) (ws : List (List ℕ)) → ((w : List ℕ) → In w ws → is_distinct w ≡ true)
    → count_by (same_list face) (all_faces ws) ≡ face_count ws face
all_count face [] d = refl
all_count face (w ∷ ws) d =
    omega (
      arith,
      sum_by-append (λ f. cond (same_list face f) 1 0) (faces_of w) (all_faces ws),
      faces_count face w (d w (inl refl)),
      count_by-cons (has_face face) w ws,
      all_count face ws (λ v i. d v (inr i)),
    )

pub count_same : {X : Type 0} (p q : X → Bool) → ((x : X) → p x ≡ q x) → (xs : List X) → count_by p xs ≡ count_by q xs
count_same p q same [] = refl
count_same p q same (x ∷ xs) = omega (arith, count_by-cons p x xs, count_by-cons q x xs, ap bit (same x), count_same p q same xs)

padded_same : (f g : List ℕ) → same_list (padded f) (padded g) ≡ same_list f g
padded_same f g = same_tests (same_list (padded f) (padded g)) (same_list f g)
    (λ e. (bytes_eq-Decides f g).1 (unpadded f g ((bytes_eq-Decides (padded f) (padded g)).0 e)))
    (λ e. (bytes_eq-Decides (padded f) (padded g)).1 (ap padded ((bytes_eq-Decides f g).0 e)))
  where
    unpadded : (f g : List ℕ) → padded f ≡ padded g → f ≡ g
    unpadded f g e = cc

-- the keys that stand once are as many as the faces of one simplex alone
pub once_is_free : (ws : List (List ℕ)) → ((w : List ℕ) → In w ws → is_distinct w ≡ true) → once_count (map padded (all_faces ws)) ≡ free_face_count ws
once_is_free ws d =
    let keys = map padded (all_faces ws) in
    count-map (is_once keys) padded (all_faces ws)
    ∙ count_same (λ f. is_once keys (padded f)) (λ f. face_count ws f == 1) (λ f. ap (λ (n : ℕ). n == 1)
    (count-map (same_list (padded f)) padded (all_faces ws)
    ∙ count_same (λ g. same_list (padded f) (padded g)) (same_list f) (padded_same f) (all_faces ws)
    ∙ all_count f ws d)) (all_faces ws)

-- a simplex has at most as many faces as numbers
pub few_faces : (w : List ℕ) → length (faces_of w) ≤ length w
few_faces w = by_test (is_distinct w)
  where
    by_test : (b : Bool) → length (cond b (map (face_without w) (numbers (length w))) []) ≤ length w
    by_test true = omega (arith, length-map-range_with_len (face_without w) 0 (length w))
    by_test false = omega arith

-- one simplex more
pub all_more : (ws : List (List ℕ)) (i : ℕ) (w : List ℕ) → i < length ws → w ≡ slice_index_or ws i w
    → all_faces (take (i + 1) ws) ≡ all_faces (take i ws) ++ faces_of w
all_more ws i w h e =
    ap all_faces (take_more ws i w h ∙ ap (λ (v : List ℕ). take i ws ++ v ∷ []) (sym e)) ∙ flat_map-append faces_of (take i ws) (w ∷ [])
    ∙ ap (λ (fs : List (List ℕ)). all_faces (take i ws) ++ fs) (append-nil (faces_of w))

-- at most d for each
pub few_more : (ws : List (List ℕ)) (i d : ℕ) (w : List ℕ) → i < length ws → w ≡ slice_index_or ws i w → length (all_faces (take i ws)) ≤ i * d
    → length (faces_of w) ≤ d → length (all_faces (take (i + 1) ws)) ≤ (i + 1) * d
few_more ws i d w h e before one =
    rw (all_more ws i w h e, length-append (all_faces (take i ws)) (faces_of w)) (added i (length (all_faces (take i ws))) one before)
  where
    added : (n m : ℕ) {k : ℕ} → k ≤ d → m ≤ n * d → m + k ≤ (n + 1) * d
    added n m low rest = grind (arith, low, rest)

-- ---- a key

replaced : (w : List ℕ) (k m : ℕ) → k < length w → Takes m (without k w) (slice_set w k m)
replaced [] k m h = absurd (omega arith)
replaced (x ∷ w) zero m h = here
replaced (x ∷ w) (suc k) m h = later (replaced w k m (omega arith))

first_put : (xs : List ℕ) → put_in 0 xs ≡ 0 ∷ xs
first_put [] = refl
first_put (x ∷ xs) = ap (λ (b : Bool). cond b (0 ∷ x ∷ xs) (x ∷ put_in 0 xs)) (least x)
  where
    least : (x : ℕ) → nat_le 0 x ≡ true
    least x = grind (arith, nat_tests)

-- a simplex of which the number at a place became 0, sorted, is the key of the face without that place
pub key_is : (w : List ℕ) (k : ℕ) (ys : List ℕ) → k < length w → IsPermutation (slice_set w k 0) ys → IsNonDecreasing ys → ys ≡ padded (face_without w k)
key_is w k ys h moved up =
    is_sorted (slice_set w k 0) ys moved up ∙ Takes-sorted (replaced w k 0 h) ∙ first_put (face_without w k)

-- ---- the lists of keys

pub keys_all : (w : List ℕ) (n : ℕ) → is_distinct w ≡ true → n ≡ length w
    → map (λ i. padded (face_without w i)) (numbers n) ≡ map padded (faces_of w)
keys_all w n d e =
    let listed : faces_of w ≡ map (face_without w) (numbers (length w)) = rw d refl in
    ap (λ (k : ℕ). map (λ i. padded (face_without w i)) (numbers k)) e
    ∙ sym (ap (map padded) listed ∙ map-map (face_without w) padded (numbers (length w)))

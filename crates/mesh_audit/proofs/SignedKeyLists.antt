-- The faces of simplices with their signs as sorted keys: how often a key stands among them, and what that says of faces.
use Rattle.std.proofs.Common.{Bool, List, [], ap, arith, drop, false, get_or, inl, inr, length, not, refl, subst, suc, sym, take, true, zero, ℕ}
use Rattle.std.proofs.Common.{◌++◌, ◌+◌, ◌-◌, ◌<◌, ◌∙◌, ◌∷◌, ◌≡◌, ◌≤◌}
use Rattle.std.specs.Prelude.{cond, count_by, map, nat_lt, slice_index_or, slice_set, ◌%◌, ◌&&◌, ◌==◌, ◌≢◌}
use Rattle.std.specs.Cmp.Lexicographic.{slice_cmp}
use Rattle.std.specs.declared.cmp.Ordering.TheVariants.{Equal}
use Rattle.std.specs.List.{list_all, list_any}
use Rattle.std.specs.List.Sorted.{IsBinarySearchResult, IsSorted, IsStrictlyIncreasing}
use Rattle.std.specs.Ordering.{is_eq, nat_cmp}
use Rattle.std.specs.Prelude.{Err}
use Rattle.std.proofs.lemmas.Cmp.{nat_list_cmp_total, tied_itself}
use Rattle.std.proofs.lemmas.Map.Text.{is_eq-slice_cmp}
use Rattle.std.proofs.lemmas.Bool.{and_from, both_ways, false_from_ne_true}
use Rattle.std.proofs.lemmas.Bool.Decides.{nat_tests}
use Rattle.std.proofs.lemmas.List.{append_assoc, append-nil, length-append, take_more}
use Rattle.std.proofs.lemmas.Grind.{flat_map-append}
use Rattle.std.proofs.lemmas.List.FromFn.{map-range_with_len_more}
use Rattle.std.proofs.lemmas.List.Sums.{sum_by-append}
use Rattle.std.proofs.lemmas.List.Sorted.{searchable_from_sorted, sum_by-IsPermutation}
use Rattle.std.proofs.lemmas.Slice.Eq.{bytes_eq-Decides}
use Rattle.lists.specs.Members.{In}
use Rattle.lists.specs.Orders.{inversions, is_distinct, is_odd, numbers, same_list, without}
use Rattle.lists.proofs.Contained.{any_default}
use Rattle.lists.proofs.Counts.{count_some, from_count}
use Rattle.lists.proofs.DistinctLists.{Distinct-range, from_distinct_test}
use Rattle.lists.proofs.MemberLaws.{all_from, all_In, any_from, Contains_from, from_any, from_In-numbers, In-numbers, In_place}
use Rattle.lists.proofs.Sorting.{bit, count_by-cons, count-map}
use Rattle.lists.proofs.Tests.{equal_of, lt_of, same_tests}
use Rattle.iso_model.specs.Faces.{face_count, face_without, has_face}
use Rattle.mesh_laws.specs.FaceKeys.{is_once, is_once_at, padded}
use Rattle.mesh_laws.proofs.FaceKeyLists.{at_most_one, one_place}
use Rattle.mesh_laws.proofs.FaceLists.{ascends_by_steps, face_ascends}
use Rattle.mesh_laws.proofs.FaceOf.{any_place, face_place, rank}
use Rattle.mesh_laws.proofs.FaceSigns.{has_signed, is_signed_face, left_out}
use Rattle.mesh_laws.proofs.OnceInLists.{counted_some, never_counted}
use Rattle.std.proofs.lemmas.Bool.{cases_lt}
use Rattle.mesh_laws.proofs.SignedFaces.{no_sign, signed_place}
use Rattle.mesh_audit.specs.Findings.{AllGlued, face_at, has_wrong_face, is_glued, is_wrong_at, IsLeast, NonePasses, NoneRepeats, simplex_at}
use Rattle.mesh_audit.specs.SignedKeys.{all_signed_faces, AreSignedFaces, sign_bit, signed_face, signed_faces_of, signed_key}
use Rattle.mesh_audit.proofs.GluedBySigns.{glued_of_signs, signs_of_glued}

-- ---- the keys of a simplex

-- a sign, as it is found from the parity of the simplex
pub sign_found : (w : List ℕ) (k : ℕ) → is_distinct w ≡ true → k < length w
    → (inversions w % 2 + count_by (λ y. nat_lt y (get_or w k 0)) w % 2) % 2 ≡ sign_bit w k
sign_found w k d h = let r = rank w k h (from_distinct_test w d) in omega (arith, r)

-- one place more
pub signed_more : (w : List ℕ) (n : ℕ) (old : List (List ℕ)) (key : List ℕ) → key ≡ signed_face w n
    → (old ++ map (signed_face w) (numbers n)) ++ key ∷ [] ≡ old ++ map (signed_face w) (numbers (n + 1))
signed_more w n old key e =
    let list = map (signed_face w) (numbers n) in
    append_assoc old list (key ∷ [])
    ∙ ap (λ (ks : List (List ℕ)). old ++ ks) (ap (λ (k : List ℕ). list ++ k ∷ []) e
    ∙ sym (map-range_with_len_more (signed_face w) 0 n n (omega arith)))

-- one simplex more
pub all_signed_more : (ws : List (List ℕ)) (i : ℕ) (w : List ℕ) → i < length ws → w ≡ slice_index_or ws i w
    → all_signed_faces (take (i + 1) ws) ≡ all_signed_faces (take i ws) ++ signed_faces_of w
all_signed_more ws i w h e =
    ap all_signed_faces (take_more ws i w h ∙ ap (λ (v : List ℕ). take i ws ++ v ∷ []) (sym e))
    ∙ flat_map-append signed_faces_of (take i ws) (w ∷ [])
    ∙ ap (λ (fs : List (List ℕ)). all_signed_faces (take i ws) ++ fs) (append-nil (signed_faces_of w))

-- ---- how often a key stands among them

-- lists that are the same with one member more have the same members
pub last_same : (xs ys : List ℕ) (a b : ℕ) → xs ++ a ∷ [] ≡ ys ++ b ∷ [] → (a ≡ b) × (xs ≡ ys)
last_same [] [] a b e = (cc, refl)
last_same [] (y ∷ ys) a b e = absurd (let n = ap length e in omega (arith, n, length-append ys (b ∷ [])))
last_same (x ∷ xs) [] a b e = absurd (let n = ap length e in omega (arith, n, length-append xs (a ∷ [])))
last_same (x ∷ xs) (y ∷ ys) a b e =
    let first : x ≡ y = cc in
    let rest : xs ++ a ∷ [] ≡ ys ++ b ∷ [] = cc in
    let same = last_same xs ys a b rest in
    let equal = same.1 in
    (same.0, cc)

key_parts : (s : ℕ) (face w : List ℕ) (i : ℕ) → same_list (signed_key s face) (signed_face w i) ≡ true → (s ≡ sign_bit w i) × (face_without w i ≡ face)
key_parts s face w i t =
    let e = last_same face (face_without w i) s (sign_bit w i) ((bytes_eq-Decides (signed_key s face) (signed_face w i)).0 t) in
    (e.0, sym e.1)

even_sum : (n s : ℕ) → s ≡ n % 2 → not (is_odd (n + s)) ≡ true
even_sum n s e = let none : (n + s) % 2 ≡ 0 = omega (arith, e) in ap (λ (r : ℕ). not (r == 1)) none

from_even_sum : (n s : ℕ) → s < 2 → not (is_odd (n + s)) ≡ true → s ≡ n % 2
from_even_sum n s l t = by_rest ((n + s) % 2) refl (omega arith)
  where
    by_rest : (r : ℕ) → (n + s) % 2 ≡ r → r < 2 → s ≡ n % 2
    by_rest zero e h = omega (arith, e, l)
    by_rest (suc zero) e h = absurd (let f : not (is_odd (n + s)) ≡ false = ap (λ (r : ℕ). not (r == 1)) e in cc)
    by_rest (suc (suc r)) e h = absurd (omega (arith, h))

any_key : (s : ℕ) (face w : List ℕ) → s < 2 → is_distinct w ≡ true
    → list_any (λ i. same_list (signed_key s face) (signed_face w i)) (numbers (length w)) ≡ has_signed s face w
any_key s face w two d = same_tests (list_any (λ i. same_list (signed_key s face) (signed_face w i)) (numbers (length w))) (has_signed s face w)
    (λ t.
    let r = from_any (λ i. same_list (signed_key s face) (signed_face w i)) (numbers (length w)) t in
    let parts = key_parts s face w r.0 r.2 in
    let sign = signed_place s face w r.0 d (from_In-numbers (length w) r.0 r.1) parts.1 in
    and_from (is_distinct w) (list_any (is_signed_face s face) (left_out w)) d (sign ∙ even_sum (r.0 + inversions (without r.0 w)) s parts.0))
    (λ t.
    let place = face_place face w (has_it t) in
    let sign = signed_place s face w place.0 d place.1 place.2 in
    let any : list_any (is_signed_face s face) (left_out w) ≡ true = sym (ap (λ (b : Bool). b && list_any (is_signed_face s face) (left_out w)) d) ∙ t in
    let same = from_even_sum (place.0 + inversions (without place.0 w)) s two (sym sign ∙ any) in
    any_from (λ i. same_list (signed_key s face) (signed_face w i)) (numbers (length w)) place.0 (In-numbers (length w) place.0 place.1)
    ((bytes_eq-Decides (signed_key s face) (signed_face w place.0)).1 (key_same same (sym place.2))))
  where
    has_it : has_signed s face w ≡ true → has_face face w ≡ true
    has_it t = go (has_face face w) refl
      where
        go : (b : Bool) → has_face face w ≡ b → b ≡ true
        go true e = refl
        go false e = absurd (both_ways (has_signed s face w) (no_sign s face w e) t)

    key_same : {a b : ℕ} {f g : List ℕ} → a ≡ b → f ≡ g → signed_key a f ≡ signed_key b g
    key_same e f = cc

key_count : (s : ℕ) (face w : List ℕ) → s < 2 → is_distinct w ≡ true → count_by (same_list (signed_key s face)) (signed_faces_of w) ≡ bit (has_signed s face w)
key_count s face w two d =
    count-map (same_list (signed_key s face)) (signed_face w) (numbers (length w))
    ∙ at_most_one (λ i. same_list (signed_key s face) (signed_face w i)) (numbers (length w)) (Distinct-range 0 (length w)) (λ i j a b e f.
    one_place face w d i j (from_In-numbers (length w) i a) (from_In-numbers (length w) j b) (key_parts s face w i e).1 (key_parts s face w j f).1)
    ∙ ap bit (any_key s face w two d)

all_key_count : (s : ℕ) (face : List ℕ) (ws : List (List ℕ)) → s < 2 → ((w : List ℕ) → In w ws → is_distinct w ≡ true)
    → count_by (same_list (signed_key s face)) (all_signed_faces ws) ≡ count_by (has_signed s face) ws
all_key_count s face [] two d = refl
all_key_count s face (w ∷ ws) two d =
    omega (
      arith,
      sum_by-append (λ f. cond (same_list (signed_key s face) f) 1 0) (signed_faces_of w) (all_signed_faces ws),
      key_count s face w two (d w (inl refl)),
      count_by-cons (has_signed s face) w ws,
      all_key_count s face ws two (λ v i. d v (inr i)),
    )

-- where no simplex has a repeated number each is distinct
pub distinct_at : (ws : List (List ℕ)) → NoneRepeats ws → (i : ℕ) → i < length ws → is_distinct (simplex_at ws i) ≡ true
distinct_at ws none i h = by_test (is_distinct (simplex_at ws i)) refl
  where
    by_test : (b : Bool) → is_distinct (simplex_at ws i) ≡ b → b ≡ true
    by_test true e = refl
    by_test false e = absurd (let f = none i h in let g : not (is_distinct (simplex_at ws i)) ≡ true = ap not e in cc)

pub distinct_all : (ws : List (List ℕ)) → NoneRepeats ws → (w : List ℕ) → In w ws → is_distinct w ≡ true
distinct_all ws none w i =
    let c = Contains_from ws w i in
    subst (λ (v : List ℕ). is_distinct v ≡ true) (any_default ws c.0 [] w c.1 ∙ c.2) (distinct_at ws none c.0 c.1)

-- a key stands as often among the keys as there are simplices that have the face with the sign
keys_count : (ws keys : List (List ℕ)) (s : ℕ) (face : List ℕ) → s < 2 → NoneRepeats ws → AreSignedFaces ws keys
    → count_by (same_list (signed_key s face)) keys ≡ count_by (has_signed s face) ws
keys_count ws keys s face two none are =
    sum_by-IsPermutation (λ k. cond (same_list (signed_key s face) k) 1 0) (all_signed_faces ws) keys are.moved
    ∙ all_key_count s face ws two (distinct_all ws none)

-- ---- wrong faces

few_of : (n : ℕ) → nat_lt 1 n ≡ false → n ≤ 1
few_of n e = grind (arith, nat_tests)

module _ (ws keys : List (List ℕ)) (i place : ℕ) (none : NoneRepeats ws) (are : AreSignedFaces ws keys) (h : i < length ws)
    (l : place < length (simplex_at ws i)) where
  count_of : (s : ℕ) → s < 2 → count_by (same_list (signed_key s (face_at ws i place))) keys ≡ count_by (has_signed s (face_at ws i place)) ws
  count_of s two = keys_count ws keys s (face_at ws i place) two none are

  some : 1 ≤ face_count ws (face_at ws i place)
  some =
      let w = simplex_at ws i in
      count_some (has_face (face_at ws i place)) ws w (In_place ws i h)
      (and_from (is_distinct w) (list_any (λ j. same_list (face_without w j) (face_at ws i place)) (numbers (length w))) (distinct_at ws none i h)
      (any_place (face_at ws i place) w place l refl))

  -- a face is wrong where it stands twice with one sign
  wrong_of : (s : ℕ) → s < 2 → nat_lt 1 (count_by (same_list (signed_key s (face_at ws i place))) keys) ≡ true
      → ((is_glued ws (face_at ws i place) ≡ true) → count_by (has_signed s (face_at ws i place)) ws ≤ 1) → is_wrong_at ws i place ≡ true
  wrong_of s two t few = by_test (is_glued ws (face_at ws i place)) refl
    where
      by_test : (b : Bool) → is_glued ws (face_at ws i place) ≡ b → not b ≡ true
      by_test false e = refl
      by_test true e = absurd (omega (arith, lt_of 1 (count_by (same_list (signed_key s (face_at ws i place))) keys) t, count_of s two, few e))

  pub wrong_at_first : nat_lt 1 (count_by (same_list (signed_key 0 (face_at ws i place))) keys) ≡ true → is_wrong_at ws i place ≡ true
  wrong_at_first t = wrong_of 0 (omega arith) t (λ g. (signs_of_glued ws (face_at ws i place) g).0)

  pub wrong_at_second : nat_lt 1 (count_by (same_list (signed_key 0 (face_at ws i place))) keys) ≡ false
      → nat_lt 1 (count_by (same_list (signed_key 1 (face_at ws i place))) keys) ≡ is_wrong_at ws i place
  wrong_at_second e = by_test (nat_lt 1 (count_by (same_list (signed_key 1 (face_at ws i place))) keys)) refl
    where
      by_test : (b : Bool) → nat_lt 1 (count_by (same_list (signed_key 1 (face_at ws i place))) keys) ≡ b → b ≡ is_wrong_at ws i place
      by_test true t = sym (wrong_of 1 (omega arith) t (λ g. (signs_of_glued ws (face_at ws i place) g).1))
      by_test false t =
          let first = few_of (count_by (same_list (signed_key 0 (face_at ws i place))) keys) e in
          let second = few_of (count_by (same_list (signed_key 1 (face_at ws i place))) keys) t in
          sym
          (ap not
          (glued_of_signs ws (face_at ws i place) some (omega (arith, first, count_of 0 (omega arith))) (omega (arith, second, count_of 1 (omega arith)))))

-- ---- wrong simplices

pub none_wrong : (ws : List (List ℕ)) (i n : ℕ) → n ≡ length (simplex_at ws i) → NonePasses (is_wrong_at ws i) n → has_wrong_face ws i ≡ false
none_wrong ws i n e none = false_from_ne_true (has_wrong_face ws i) (λ t.
    let r = from_any (is_wrong_at ws i) (numbers (length (simplex_at ws i))) t in
    both_ways (is_wrong_at ws i r.0) (none r.0 (omega (arith, e, from_In-numbers (length (simplex_at ws i)) r.0 r.1))) r.2)

pub some_wrong : (ws : List (List ℕ)) (i n place : ℕ) → n ≡ length (simplex_at ws i) → IsLeast (is_wrong_at ws i) n place → has_wrong_face ws i ≡ true
some_wrong ws i n place e least =
    any_from (is_wrong_at ws i) (numbers (length (simplex_at ws i))) place
    (In-numbers (length (simplex_at ws i)) place (omega (arith, e, least.below))) least.passes

-- where each key stands once all faces are glued
once_few : (keys : List (List ℕ)) → list_all (is_once keys) keys ≡ true → (key : List ℕ) → nat_lt 1 (count_by (same_list key) keys) ≡ false
once_few keys once key = false_from_ne_true (nat_lt 1 (count_by (same_list key) keys)) (λ t.
    let more = lt_of 1 (count_by (same_list key) keys) t in
    let r = from_count (same_list key) keys (omega (arith, more)) in
    let same : key ≡ r.0 = (bytes_eq-Decides key r.0).0 r.2 in
    let one = equal_of (count_by (same_list r.0) keys) 1 (all_In (is_once keys) keys once r.0 r.1) in
    omega (arith, more, one, ap (λ (k : List ℕ). count_by (same_list k) keys) same))

pub once_glued : (ws keys : List (List ℕ)) → NoneRepeats ws → AreSignedFaces ws keys → list_all (is_once keys) keys ≡ true → AllGlued ws
once_glued ws keys none are once = λ i h.
    none_wrong ws i (length (simplex_at ws i)) refl (λ place l.
    sym (wrong_at_second ws keys i place none are h l (once_few keys once (signed_key 0 (face_at ws i place))))
    ∙ once_few keys once (signed_key 1 (face_at ws i place)))

-- ---- a search of a key

pub found_twice : (keys : List (List ℕ)) (key : List ℕ) (place : ℕ) → place < length keys → slice_index_or keys place [] ≡ key
    → not (is_once_at keys place) ≡ nat_lt 1 (count_by (same_list key) keys)
found_twice keys key place h e =
    ap (λ (k : List ℕ). not (is_once keys k)) e ∙ more (count_by (same_list key) keys) (counted_some key keys place h e)
  where
    more : (n : ℕ) → 1 ≤ n → not (n == 1) ≡ nat_lt 1 n
    more n l = grind (arith, nat_tests)

pub not_found : (keys : List (List ℕ)) (key : List ℕ) → ((j : ℕ) → j < length keys → slice_index_or keys j [] ≢ key)
    → nat_lt 1 (count_by (same_list key) keys) ≡ false
not_found keys key apart = ap (nat_lt 1) (never_counted key keys apart)

-- a key of which the first number became the sign, which then moved to the end
pub sign_moved : (key face now : List ℕ) (sign : ℕ) → key ≡ padded face → now ≡ drop 1 (slice_set key 0 sign) ++ take 1 (slice_set key 0 sign)
    → now ≡ signed_key sign face
sign_moved key face now sign e f = f ∙ ap (λ (k : List ℕ). drop 1 (slice_set k 0 sign) ++ take 1 (slice_set k 0 sign)) e

-- ---- a test of each place

pub not_all : (p : List ℕ → Bool) (xs : List (List ℕ)) (i : ℕ) → i < length xs → p (slice_index_or xs i []) ≡ false → list_all p xs ≡ false
not_all p xs i h e =
    let x = slice_index_or xs i [] in
    false_from_ne_true (list_all p xs) (λ t. both_ways (p x) e (all_In p xs t x (In_place xs i h)))

pub all_places : (p : List ℕ → Bool) (xs : List (List ℕ)) (n : ℕ) → length xs ≤ n → ((k : ℕ) → k < n → p (slice_index_or xs k []) ≡ true) → list_all p xs ≡ true
all_places p xs n long each = all_from p xs (λ x i.
    let c = Contains_from xs x i in
    subst (λ (v : List ℕ). p v ≡ true) (any_default xs c.0 [] x c.1 ∙ c.2) (each c.0 (omega (arith, c.1))))

-- ---- what a search of a key answers

pub same_of_equal : (x y : List ℕ) → slice_cmp nat_cmp x y ≡ Equal → x ≡ y
same_of_equal x y e = (bytes_eq-Decides x y).0 (sym (is_eq-slice_cmp x y) ∙ ap is_eq e)

pub never_at : (keys : List (List ℕ)) (key : List ℕ) (i : ℕ) → IsSorted (slice_cmp nat_cmp) keys
    → IsBinarySearchResult (λ y. slice_cmp nat_cmp y key) keys (Err i) → (j : ℕ) → j < length keys → slice_index_or keys j [] ≢ key
never_at keys key i up found j h e =
    let point = found (searchable_from_sorted nat_list_cmp_total (λ x. x) keys key up) in
    let equal : slice_cmp nat_cmp (slice_index_or keys j []) key ≡ Equal =
    ap (λ (x : List ℕ). slice_cmp nat_cmp x key) e ∙ tied_itself nat_list_cmp_total key in
    elim (cases_lt j i) as (λ _. ⊥) [
      | inl l ↦ (let less = point.0 j [] (omega arith) l in cc)
      | inr l ↦ (let more = point.1 j [] l h in cc)
    ]

-- the numbers behind the first one of a key are the face
pub face_of_key : (key face : List ℕ) → key ≡ padded face → take (length key - 1) (drop 1 key) ≡ face
face_of_key key face e =
    let all : length (padded face) - 1 ≡ length face = omega arith in
    ap (λ (k : List ℕ). take (length k - 1) (drop 1 k)) e ∙ ap (λ (n : ℕ). take n face) all ∙ take-all face
  where
    take-all : (xs : List ℕ) → take (length xs) xs ≡ xs
    take-all [] = refl
    take-all (x ∷ xs) = ap (λ (ys : List ℕ). x ∷ ys) (take-all xs)

-- the face of a simplex ascends
pub face_up : (ws : List (List ℕ)) (i place : ℕ) → NoneRepeats ws → i < length ws → place < length (simplex_at ws i) → IsStrictlyIncreasing (face_at ws i place)
face_up ws i place none h l = ascends_by_steps (face_at ws i place) (face_ascends (simplex_at ws i) place (distinct_at ws none i h) l)

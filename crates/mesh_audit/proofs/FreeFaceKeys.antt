-- The faces of all simplices by their keys without signs, and how many of these stand once.
use Rattle.std.proofs.Common.{List, [], ap, arith, drop, inl, inr, length, refl, suc, sym, take, true, zero, ℕ, ◌++◌, ◌+◌, ◌-◌, ◌<◌, ◌∙◌}
use Rattle.std.proofs.Common.{◌∷◌, ◌≡◌}
use Rattle.std.specs.Prelude.{map, slice_index_or, slice_set, ◌==◌}
use Rattle.std.specs.List.Sorted.{IsPermutation}
use Rattle.std.proofs.lemmas.List.{length-append, map-append}
use Rattle.std.proofs.lemmas.List.Sorted.{IsPermutation-map}
use Rattle.std.proofs.lemmas.Slice.Eq.{bytes_eq-Decides}
use Rattle.lists.specs.Members.{In}
use Rattle.lists.specs.Orders.{is_distinct, numbers, same_list}
use Rattle.lists.proofs.MemberLaws.{map-map}
use Rattle.lists.proofs.Sorting.{count-map}
use Rattle.lists.proofs.Tests.{same_tests}
use Rattle.iso_model.specs.Faces.{face_count, face_without, faces_of, free_face_count}
use Rattle.mesh_laws.specs.FaceKeys.{all_faces, is_once}
use Rattle.mesh_laws.specs.FaceGroups.{once_count}
use Rattle.mesh_laws.proofs.FaceGroupLaws.{once_moved}
use Rattle.mesh_laws.proofs.FaceKeyLists.{all_count, count_same}
use Rattle.mesh_audit.specs.SignedKeys.{all_signed_faces, sign_bit, signed_face, signed_faces_of, signed_key, unsigned}
use Rattle.mesh_audit.proofs.SignedKeyLists.{last_same}

-- ---- each member changed in turn

-- the first members of a list are changed, and one more
changed_more : {X : Type 0} (f : X → X) (xs : List X) (i : ℕ) (d : X) → i < length xs
    → slice_set (map f (take i xs) ++ drop i xs) i (f (slice_index_or (map f (take i xs) ++ drop i xs) i d)) ≡ map f (take (suc i) xs) ++ drop (suc i) xs
changed_more f [] i d h = absurd (omega (arith, h))
changed_more f (x ∷ xs) zero d h = refl
changed_more {X} f (x ∷ xs) (suc i) d h = ap (λ (l : List X). f x ∷ l) (changed_more f xs i d (omega (arith, h)))

pub cleared_more : (keys now : List (List ℕ)) (i : ℕ) (d new : List ℕ) → i < length keys → now ≡ map unsigned (take i keys) ++ drop i keys
    → new ≡ unsigned (slice_index_or now i d) → slice_set now i new ≡ map unsigned (take (i + 1) keys) ++ drop (i + 1) keys
cleared_more keys now i d new h e f =
    let more : suc i ≡ i + 1 = omega arith in
    ap (slice_set now i) f ∙ ap (λ (l : List (List ℕ)). slice_set l i (unsigned (slice_index_or l i d))) e ∙ changed_more unsigned keys i d h
    ∙ ap (λ (n : ℕ). map unsigned (take n keys) ++ drop n keys) more

-- ---- keys without signs

-- a key without its sign has a 0 in its place
unsigned_key : (face : List ℕ) (sign : ℕ) → unsigned (signed_key sign face) ≡ signed_key 0 face
unsigned_key face sign =
    let long : length (face ++ sign ∷ []) - 1 ≡ length face = omega (arith, length-append face (sign ∷ [])) in
    ap (λ (n : ℕ). slice_set (face ++ sign ∷ []) n 0) long ∙ at_end face
  where
    at_end : (xs : List ℕ) → slice_set (xs ++ sign ∷ []) (length xs) 0 ≡ xs ++ 0 ∷ []
    at_end [] = refl
    at_end (x ∷ xs) = ap (λ (l : List ℕ). x ∷ l) (at_end xs)

unsigned_of : (w : List ℕ) → is_distinct w ≡ true → map unsigned (signed_faces_of w) ≡ map (signed_key 0) (faces_of w)
unsigned_of w d =
    let listed : faces_of w ≡ map (face_without w) (numbers (length w)) = rw d refl in
    map-map (signed_face w) unsigned (numbers (length w)) ∙ each (numbers (length w))
    ∙ sym (ap (map (signed_key 0)) listed ∙ map-map (face_without w) (signed_key 0) (numbers (length w)))
  where
    each : (is : List ℕ) → map (λ i. unsigned (signed_face w i)) is ≡ map (λ i. signed_key 0 (face_without w i)) is
    each [] = refl
    each (i ∷ is) =
        let first = unsigned_key (face_without w i) (sign_bit w i) in
        let rest = each is in
        cc

all_unsigned : (ws : List (List ℕ)) → ((w : List ℕ) → In w ws → is_distinct w ≡ true)
    → map unsigned (all_signed_faces ws) ≡ map (signed_key 0) (all_faces ws)
all_unsigned [] d = refl
all_unsigned (w ∷ ws) d =
    map-append unsigned (signed_faces_of w) (all_signed_faces ws)
    ∙ ap (λ (l : List (List ℕ)). l ++ map unsigned (all_signed_faces ws)) (unsigned_of w (d w (inl refl)))
    ∙ ap (λ (l : List (List ℕ)). map (signed_key 0) (faces_of w) ++ l) (all_unsigned ws (λ v i. d v (inr i)))
    ∙ sym (map-append (signed_key 0) (faces_of w) (all_faces ws))

key_same : (f g : List ℕ) → same_list (signed_key 0 f) (signed_key 0 g) ≡ same_list f g
key_same f g = same_tests (same_list (signed_key 0 f) (signed_key 0 g)) (same_list f g)
    (λ e. (bytes_eq-Decides f g).1 (last_same f g 0 0 ((bytes_eq-Decides (signed_key 0 f) (signed_key 0 g)).0 e)).1)
    (λ e. (bytes_eq-Decides (signed_key 0 f) (signed_key 0 g)).1 (ap (signed_key 0) ((bytes_eq-Decides f g).0 e)))

-- the keys that stand once are as many as the faces of one simplex alone
once_is_free : (ws : List (List ℕ)) → ((w : List ℕ) → In w ws → is_distinct w ≡ true) → once_count (map (signed_key 0) (all_faces ws)) ≡ free_face_count ws
once_is_free ws d =
    let keys = map (signed_key 0) (all_faces ws) in
    count-map (is_once keys) (signed_key 0) (all_faces ws)
    ∙ count_same (λ f. is_once keys (signed_key 0 f)) (λ f. face_count ws f == 1) (λ f. ap (λ (n : ℕ). n == 1)
    (count-map (same_list (signed_key 0 f)) (signed_key 0) (all_faces ws)
    ∙ count_same (λ g. same_list (signed_key 0 f) (signed_key 0 g)) (same_list f) (key_same f) (all_faces ws)
    ∙ all_count f ws d)) (all_faces ws)

-- the same of the faces with signs in any order
pub unsigned_free : (ws keys : List (List ℕ)) → ((w : List ℕ) → In w ws → is_distinct w ≡ true) → IsPermutation (all_signed_faces ws) keys
    → once_count (map unsigned keys) ≡ free_face_count ws
unsigned_free ws keys d moved =
    once_moved (map unsigned (all_signed_faces ws)) (map unsigned keys) (IsPermutation-map unsigned (all_signed_faces ws) keys moved)
    ∙ ap once_count (all_unsigned ws d) ∙ once_is_free ws d

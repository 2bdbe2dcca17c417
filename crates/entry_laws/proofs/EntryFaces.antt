-- What the rule of faces says of the faces of a tuple: in how many facets a face lies, and how often the entry has it with each sign.
use Rattle.std.proofs.Common.{◌≡◌, ℕ, zero, suc, ◌+◌, ◌<◌, ◌≤◌, Bool, true, false, not, ◌||◌, ◌==◌, List, ◌∷◌, length, refl, ap, subst, sym, ◌∙◌}
use Rattle.std.proofs.Common.{arith, pos}
use Rattle.std.specs.Prelude.{count_by}
use Rattle.std.specs.List.{list_all}
use Rattle.std.proofs.lemmas.Bool.{and_parts, false≢true}
use Rattle.std.proofs.lemmas.Int.{ints}
use Rattle.iso_model.specs.declared.Kind.{Kind}
use Rattle.lists.specs.Orders.{numbers, without, sorted, is_distinct}
use Rattle.iso_model.specs.Turns.{same_int}
use Rattle.iso_model.specs.Cells.{facet_count, edge_in_facet, facets_with}
use Rattle.iso_model.specs.Faces.{face_without, face_count, face_sum}
use Rattle.iso_model.specs.Acceptance.{is_face_right, rule_faces}
use Rattle.mesh_laws.proofs.FaceSigns.{Each-sorted, from_Each-sorted, Part, rest, after, has_signed}
use Rattle.mesh_laws.proofs.SignedFaces.{face_count_is, face_sum_is}
use Rattle.entry_laws.proofs.KeptMembers.{each_from_all, some_member, no_member, only_member}
use Rattle.entry_laws.proofs.TupleLaws.{facet_found}
use Rattle.lists.specs.Members.{In, Each, Distinct}
use Rattle.lists.proofs.Tests.{equal_of}
use Rattle.lists.proofs.DistinctLists.{distinct_test}
use Rattle.lists.proofs.MemberLaws.{In-numbers, from_In-numbers, all_In, from_filter}
use Rattle.iso_model.proofs.PointLaws.{same_int-is}

-- a list without one place is the list without some place k
part_place : {l w : List ℕ} → Part l w → (k : ℕ) × (k < length w) × (without k w ≡ l)
part_place rest = (0, omega arith, refl)
part_place (after {x = x} p) = let r = part_place p in (suc r.0, omega (arith, r.1), ap (λ (v : List ℕ). x ∷ v) r.2)

-- ---- the rule at a face

-- each face of a tuple is as the rule asks
face_right : (kind : Kind) (d : ℕ) (ws : List (List ℕ)) (w l : List ℕ) → rule_faces kind d ws ≡ true → In w ws → Distinct w → Part l w
    → is_face_right ws (sorted l) (length (facets_with kind d (sorted l))) ≡ true
face_right kind d ws w l rule i distinct part =
    let place = part_place part in
    let test : ℕ → Bool = λ k. is_face_right ws (face_without w k) (length (facets_with kind d (face_without w k))) in
    let tuple =
    all_In
    (λ v.
    not (is_distinct v)
    || list_all (λ k. is_face_right ws (face_without v k) (length (facets_with kind d (face_without v k)))) (numbers (length v)))
    ws rule w i in
    let all = second (is_distinct w) (list_all test (numbers (length w))) (distinct_test w distinct) tuple in
    let at : test place.0 ≡ true = all_In test (numbers (length w)) all place.0 (In-numbers (length w) place.0 place.1) in
    subst (λ (v : List ℕ). is_face_right ws (sorted v) (length (facets_with kind d (sorted v))) ≡ true) place.2 at
  where
    second : (a b : Bool) → a ≡ true → (not a || b) ≡ true → b ≡ true
    second true b p q = q
    second false b p q = absurd (false≢true p)

-- a face in no facet has count 2 and sum 0
right_inside : (ws : List (List ℕ)) (face : List ℕ) (n : ℕ) → n ≡ 0 → is_face_right ws face n ≡ true → (face_count ws face ≡ 2) × (face_sum ws face ≡ pos 0)
right_inside ws face zero e h =
    let r = and_parts (face_count ws face == 2) (same_int (face_sum ws face) (pos 0)) h in
    (equal_of (face_count ws face) 2 r.0, same_int-is (face_sum ws face) (pos 0) r.1)
right_inside ws face (suc n) e h = absurd (omega (arith, e))

-- a face in some facet is in one and has count 1
right_in_one : (ws : List (List ℕ)) (face : List ℕ) (n : ℕ) → 1 ≤ n → is_face_right ws face n ≡ true → (n ≡ 1) × (face_count ws face ≡ 1)
right_in_one ws face zero some h = absurd (omega (arith, some))
right_in_one ws face (suc zero) some h = (refl, equal_of (face_count ws face) 1 h)
right_in_one ws face (suc (suc n)) some h = absurd (false≢true h)

-- ---- the facets of a face

-- a facet with all edges of a face, in any order of them
facet_of_face : (kind : Kind) (d f : ℕ) (l : List ℕ) → f < facet_count kind d → Each (λ e. edge_in_facet kind d f e ≡ true) l
    → In f (facets_with kind d (sorted l))
facet_of_face kind d f l less all = facet_found kind d f (sorted l) less (Each-sorted (λ e. edge_in_facet kind d f e ≡ true) l all)

-- a face that no facet has
in_none : (kind : Kind) (d : ℕ) (l : List ℕ) → ((f : ℕ) → f < facet_count kind d → ¬ Each (λ e. edge_in_facet kind d f e ≡ true) l)
    → length (facets_with kind d (sorted l)) ≡ 0
in_none kind d l off = no_member (facets_with kind d (sorted l)) (λ f i.
    let r = from_filter (λ g. list_all (edge_in_facet kind d g) (sorted l)) (numbers (facet_count kind d)) f i in
    off f (from_In-numbers (facet_count kind d) f r.0)
    (from_Each-sorted (λ e. edge_in_facet kind d f e ≡ true) l (each_from_all (edge_in_facet kind d f) (sorted l) r.1)))

-- ---- the laws

-- a face in no facet is had once with each sign
pub face_inside : (kind : Kind) (d : ℕ) (ws : List (List ℕ)) (w l : List ℕ) → rule_faces kind d ws ≡ true → In w ws → Distinct w → Part l w
    → ((f : ℕ) → f < facet_count kind d → ¬ Each (λ e. edge_in_facet kind d f e ≡ true) l)
    → (count_by (has_signed 0 (sorted l)) ws ≡ 1) × (count_by (has_signed 1 (sorted l)) ws ≡ 1)
face_inside kind d ws w l rule i distinct part off =
    let r = right_inside ws (sorted l) (length (facets_with kind d (sorted l))) (in_none kind d l off) (face_right kind d ws w l rule i distinct part) in (
      omega (arith, ints, r.0, r.1, face_count_is ws (sorted l), face_sum_is ws (sorted l)),
      omega (arith, ints, r.0, r.1, face_count_is ws (sorted l), face_sum_is ws (sorted l)),
    )

-- a face in a facet is in one, and has count 1
face_in_one : (kind : Kind) (d : ℕ) (ws : List (List ℕ)) (w l : List ℕ) (f : ℕ) → rule_faces kind d ws ≡ true → In w ws → Distinct w → Part l w
    → f < facet_count kind d → Each (λ e. edge_in_facet kind d f e ≡ true) l → (length (facets_with kind d (sorted l)) ≡ 1) × (face_count ws (sorted l) ≡ 1)
face_in_one kind d ws w l f rule i distinct part less all =
    right_in_one ws (sorted l) (length (facets_with kind d (sorted l)))
    (some_member f (facets_with kind d (sorted l)) (facet_of_face kind d f l less all)) (face_right kind d ws w l rule i distinct part)

-- a face in a facet is had once, with one sign or the other
pub face_once : (kind : Kind) (d : ℕ) (ws : List (List ℕ)) (w l : List ℕ) (f : ℕ) → rule_faces kind d ws ≡ true → In w ws → Distinct w → Part l w
    → f < facet_count kind d → Each (λ e. edge_in_facet kind d f e ≡ true) l → count_by (has_signed 0 (sorted l)) ws + count_by (has_signed 1 (sorted l)) ws ≡ 1
face_once kind d ws w l f rule i distinct part less all = sym (face_count_is ws (sorted l)) ∙ (face_in_one kind d ws w l f rule i distinct part less all).1

-- no face lies in two facets
pub face_one_facet : (kind : Kind) (d : ℕ) (ws : List (List ℕ)) (w l : List ℕ) (f g : ℕ) → rule_faces kind d ws ≡ true → In w ws → Distinct w → Part l w
    → f < facet_count kind d → g < facet_count kind d → Each (λ e. edge_in_facet kind d f e ≡ true) l → Each (λ e. edge_in_facet kind d g e ≡ true) l → f ≡ g
face_one_facet kind d ws w l f g rule i distinct part less_f less_g all_f all_g =
    only_member f g (facets_with kind d (sorted l)) (face_in_one kind d ws w l f rule i distinct part less_f all_f).0
    (facet_of_face kind d f l less_f all_f) (facet_of_face kind d g l less_g all_g)

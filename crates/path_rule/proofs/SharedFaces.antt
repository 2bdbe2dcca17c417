-- The rules of bipolar edges and of faces make the triangles at an edge share faces by two.
use Rattle.std.specs.Prelude.{◌≡◌, ◌≢◌, ◌<◌, ◌≤◌, ◌⊎◌, ℕ, zero, suc, Bool, true, false, not, ◌&&◌, ◌||◌, ◌==◌, nat_le, pos, List, [], ◌∷◌, count_by}
use Rattle.std.specs.Prelude.{length, slice_index_or, if◌then◌else◌}
use Rattle.std.specs.List.{list_any, list_all}
use Rattle.std.proofs.Common.{refl, sym, ap, ◌∙◌, subst, arith, inl, inr}
use Rattle.std.proofs.lemmas.Bool.{and_parts, and_from, cases_lt, eqb-true, false≢true}
use Rattle.std.proofs.lemmas.Bool.Decides.{nat_tests}
use Rattle.iso_model.specs.declared.Kind.{Kind}
use Rattle.iso_model.specs.Turns.{same_int}
use Rattle.lists.specs.Orders.{numbers, sorted, has, is_distinct}
use Rattle.iso_model.specs.Cells.{edge_count, facet_count, edge_in_facet, facets_with}
use Rattle.iso_model.specs.Faces.{face_without, has_face, face_count, face_sum}
use Rattle.iso_model.specs.Bipolar.{is_bipolar_in}
use Rattle.iso_model.specs.Acceptance.{is_sound_tuple, rule_edges, is_face_right, rule_faces}
use Rattle.mesh_laws.proofs.TakenMembers.{from_In-sorted}
use Rattle.mesh_laws.proofs.FaceOf.{has_face_all, face_place}
use Rattle.mesh_laws.proofs.FaceLists.{sorted_ascends}
use Rattle.edge_sets.specs.Sets.{Suits}
use Rattle.path_rule.specs.PathRule.{HasFace, SuitsEdge}
use Rattle.path_rule.proofs.WalkSteps.{count_others}
use Rattle.lists.specs.Bits.{is_set}
use Rattle.lists.specs.Members.{In, Ascends}
use Rattle.lists.proofs.MemberLaws.{from_any, In_of_has, In_place, In-filter, In-numbers}
use Rattle.lists.proofs.Sorting.{bit, count_by-cons}
use Rattle.lists.proofs.Counts.{count_some}
use Rattle.lists.proofs.DistinctLists.{from_distinct_test}
use Rattle.lists.proofs.Tests.{not_or}

-- ---- places that pass a test

count_at : (p : List ℕ → Bool) (ws : List (List ℕ)) (i : ℕ) → i < length ws → p (slice_index_or ws i []) ≡ true → 1 ≤ count_by p ws
count_at p [] i h t = absurd (omega arith)
count_at p (w ∷ ws) zero h t = let b = ap bit t in omega (arith, count_by-cons p w ws, b)
count_at p (w ∷ ws) (suc i) h t = let r = count_at p ws i (omega arith) t in omega (arith, count_by-cons p w ws, r)

-- a test that one member passes is passed at one place
one_place : (p : List ℕ → Bool) (ws : List (List ℕ)) (i j : ℕ) → i < length ws → j < length ws → p (slice_index_or ws i []) ≡ true
    → p (slice_index_or ws j []) ≡ true → count_by p ws ≤ 1 → i ≡ j
one_place p [] i j h k t u few = absurd (omega arith)
one_place p (w ∷ ws) zero zero h k t u few = refl
one_place p (w ∷ ws) zero (suc j) h k t u few =
    let b = ap bit t in let r = count_at p ws j (omega arith) u in absurd (omega (arith, count_by-cons p w ws, b, r))
one_place p (w ∷ ws) (suc i) zero h k t u few =
    let b = ap bit u in let r = count_at p ws i (omega arith) t in absurd (omega (arith, count_by-cons p w ws, b, r))
one_place p (w ∷ ws) (suc i) (suc j) h k t u few =
    ap suc (one_place p ws i j (omega arith) (omega arith) t u (omega (arith, count_by-cons p w ws)))

-- of three places two are the same, where two members pass
two_places : (p : List ℕ → Bool) (ws : List (List ℕ)) (i j k : ℕ) → i < length ws → j < length ws → k < length ws
    → p (slice_index_or ws i []) ≡ true → p (slice_index_or ws j []) ≡ true → p (slice_index_or ws k []) ≡ true → count_by p ws ≤ 2
    → (i ≡ j) ⊎ ((i ≡ k) ⊎ (j ≡ k))
two_places p [] i j k h m n t u v few = absurd (omega arith)
two_places p (w ∷ ws) zero zero k h m n t u v few = inl refl
two_places p (w ∷ ws) zero (suc j) zero h m n t u v few = inr (inl refl)
two_places p (w ∷ ws) (suc i) zero zero h m n t u v few = inr (inr refl)
two_places p (w ∷ ws) zero (suc j) (suc k) h m n t u v few =
    let b = ap bit t in inr (inr (ap suc (one_place p ws j k (omega arith) (omega arith) u v (omega (arith, count_by-cons p w ws, b)))))
two_places p (w ∷ ws) (suc i) zero (suc k) h m n t u v few =
    let b = ap bit u in inr (inl (ap suc (one_place p ws i k (omega arith) (omega arith) t v (omega (arith, count_by-cons p w ws, b)))))
two_places p (w ∷ ws) (suc i) (suc j) zero h m n t u v few =
    let b = ap bit v in inl (ap suc (one_place p ws i j (omega arith) (omega arith) t u (omega (arith, count_by-cons p w ws, b))))
two_places p (w ∷ ws) (suc i) (suc j) (suc k) h m n t u v few =
    elim (two_places p ws i j k (omega arith) (omega arith) (omega arith) t u v (omega (arith, count_by-cons p w ws))) as
    (λ _. (suc i ≡ suc j) ⊎ ((suc i ≡ suc k) ⊎ (suc j ≡ suc k))) [
      | inl s ↦ inl (ap suc s)
      | inr o ↦ elim o as (λ _. (suc i ≡ suc j) ⊎ ((suc i ≡ suc k) ⊎ (suc j ≡ suc k))) [ inl s ↦ inr (inl (ap suc s)) | inr s ↦ inr (inr (ap suc s)) ]
    ]

-- ---- the face of two edges

abbrev face_of : ℕ → ℕ → List ℕ
face_of e x = sorted (e ∷ x ∷ [])

two_long : (e x : ℕ) → length (face_of e x) ≡ 2
two_long e x = elim (nat_le e x) as (λ b. length (if b then e ∷ x ∷ [] else x ∷ e ∷ []) ≡ 2) [ true ↦ refl | false ↦ refl ]

two_apart : (e x : ℕ) → x ≢ e → is_distinct (e ∷ x ∷ []) ≡ true
two_apart e x off = grind (arith, nat_tests)

face_ascends : (e x : ℕ) → x ≢ e → Ascends (face_of e x)
face_ascends e x off = sorted_ascends (e ∷ x ∷ []) (from_distinct_test (e ∷ x ∷ []) (two_apart e x off))

face_members : (e x : ℕ) (P : ℕ → Type 0) → P e → P x → (y : ℕ) → In y (face_of e x) → P y
face_members e x P a b y i = by (from_In-sorted y (e ∷ x ∷ []) i)
  where
    by : In y (e ∷ x ∷ []) → P y
    by (inl s) = subst P (sym s) a
    by (inr (inl s)) = subst P (sym s) b
    by (inr (inr none)) = absurd none

-- a triangle with two edges has their face
has_face_of : (e x : ℕ) (w : List ℕ) → x ≢ e → length w ≡ 3 → is_distinct w ≡ true → has w e ≡ true → has w x ≡ true → has_face (face_of e x) w ≡ true
has_face_of e x w off long distinct a b =
    has_face_all (face_of e x) w (face_ascends e x off) (omega (arith, long, two_long e x))
    (face_members e x (λ y. In y w) (In_of_has w e a) (In_of_has w x b))
    ∙ distinct

-- ---- what the rule of faces says of it

pub all_In : {X : Type 0} (p : X → Bool) (xs : List X) (x : X) → list_all p xs ≡ true → In x xs → p x ≡ true
all_In p [] x all i = absurd i
all_In {X} p (y ∷ xs) x all (inl e) = subst (λ (z : X). p z ≡ true) (sym e) (and_parts (p y) (list_all p xs) all).0
all_In p (y ∷ xs) x all (inr i) = all_In p xs x (and_parts (p y) (list_all p xs) all).1 i

pub all_from_In : (p : ℕ → Bool) (xs : List ℕ) → ((x : ℕ) → In x xs → p x ≡ true) → list_all p xs ≡ true
all_from_In p [] all = refl
all_from_In p (x ∷ xs) all = and_from (p x) (list_all p xs) (all x (inl refl)) (all_from_In p xs (λ y i. all y (inr i)))

-- the facets in which the face of e and x lies
abbrev facets_of : Kind → ℕ → ℕ → ℕ
facets_of kind e x = length (facets_with kind 3 (face_of e x))

face_right : (kind : Kind) (e x : ℕ) (ws : List (List ℕ)) (w : List ℕ) → rule_faces kind 3 ws ≡ true → In w ws → is_distinct w ≡ true
    → has_face (face_of e x) w ≡ true
    → is_face_right ws (face_of e x) (facets_of kind e x) ≡ true
face_right kind e x ws w rule inside distinct has_it =
    let at : List ℕ → ℕ → Bool = λ v i. is_face_right ws (face_without v i) (length (facets_with kind 3 (face_without v i))) in
    let told =
    not_or (is_distinct w) (list_all (at w) (numbers (length w)))
    (all_In (λ v. not (is_distinct v) || list_all (at v) (numbers (length v))) ws w rule inside) distinct in
    let place = face_place (face_of e x) w has_it in
    subst (λ (face : List ℕ). is_face_right ws face (length (facets_with kind 3 face)) ≡ true) place.2
    (all_In (at w) (numbers (length w)) place.0 told (In-numbers (length w) place.0 place.1))

at_most_two : (ws : List (List ℕ)) (face : List ℕ) (n : ℕ) → is_face_right ws face n ≡ true → face_count ws face ≤ 2
at_most_two ws face zero h =
    let c = eqb-true (face_count ws face) 2 (and_parts (face_count ws face == 2) (same_int (face_sum ws face) (pos 0)) h).0 in omega (arith, c)
at_most_two ws face (suc zero) h = let c = eqb-true (face_count ws face) 1 h in omega (arith, c)
at_most_two ws face (suc (suc n)) h = absurd (false≢true h)

at_most_one : (ws : List (List ℕ)) (face : List ℕ) (n : ℕ) → is_face_right ws face n ≡ true → 0 < n → face_count ws face ≤ 1
at_most_one ws face zero h some = absurd (omega arith)
at_most_one ws face (suc zero) h some = let c = eqb-true (face_count ws face) 1 h in omega (arith, c)
at_most_one ws face (suc (suc n)) h some = absurd (false≢true h)

some_member : (f : ℕ) (xs : List ℕ) → In f xs → 0 < length xs
some_member f [] i = absurd i
some_member f (x ∷ xs) i = omega arith

lies_somewhere : (kind : Kind) (e x f : ℕ) → f < facet_count kind 3 → edge_in_facet kind 3 f e ≡ true → edge_in_facet kind 3 f x ≡ true → 0 < facets_of kind e x
lies_somewhere kind e x f inside a b =
    let in_all = all_from_In (edge_in_facet kind 3 f) (face_of e x) (face_members e x (λ y. edge_in_facet kind 3 f y ≡ true) a b) in
    some_member f (facets_with kind 3 (face_of e x))
    (In-filter (λ g. list_all (edge_in_facet kind 3 g) (face_of e x)) (numbers (facet_count kind 3)) f (In-numbers (facet_count kind 3) f inside) in_all)

-- ---- the triangles at an edge

sound_at : (kind : Kind) (label : ℕ) (ws : List (List ℕ)) (i : ℕ) → rule_edges kind 3 label ws ≡ true → i < length ws
    → is_sound_tuple kind 3 label (slice_index_or ws i []) ≡ true
sound_at kind label ws i rule inside =
    all_In (is_sound_tuple kind 3 label) ws (slice_index_or ws i [])
    (and_parts (list_all (is_sound_tuple kind 3 label) ws)
    (list_all (λ e. not (is_bipolar_in kind 3 label e) || list_any (λ w. has w e) ws) (numbers (edge_count kind 3))) rule).0
    (In_place ws i inside)

-- the parts of a sound tuple
sound_parts : (long distinct bipolar : Bool) → ((long && distinct) && bipolar) ≡ true → (long ≡ true) × (distinct ≡ true)
sound_parts true true bipolar h = (refl, refl)
sound_parts true false bipolar h = absurd (false≢true h)
sound_parts false distinct bipolar h = absurd (false≢true h)

any_default : (ws : List (List ℕ)) (i : ℕ) (d : List ℕ) → i < length ws → slice_index_or ws i [] ≡ slice_index_or ws i d
any_default [] i d h = absurd (omega arith)
any_default (w ∷ ws) zero d h = refl
any_default (w ∷ ws) (suc i) d h = any_default ws i d (omega arith)

pub edge_suits : (kind : Kind) (label bipolar e : ℕ) (ws : List (List ℕ)) → Suits kind 3 label bipolar ws → rule_edges kind 3 label ws ≡ true
    → rule_faces kind 3 ws ≡ true
    → is_set bipolar e ≡ true → SuitsEdge kind e ws
edge_suits kind label bipolar e ws suits edges faces member = record {
  is_edge = is_edge;
  shares = record {
    long = λ i d h. subst (λ (w : List ℕ). length w ≡ 3) (any_default ws i d h) (long i h);
    distinct = λ i d h. subst (λ (w : List ℕ). is_distinct w ≡ true) (any_default ws i d h) (distinct i h);
    two = λ x i j k off a b c.
        two_places (has_face (face_of e x)) ws i j k a.0 b.0 c.0 (shows x i off a) (shows x j off b) (shows x k off c)
        (at_most_two ws (face_of e x) (facets_of kind e x) (right x i off a));
  };
  outer = λ f x inside off lies lies_x i j a b.
      one_place (has_face (face_of e x)) ws i j a.0 b.0 (shows x i off a) (shows x j off b)
      (at_most_one ws (face_of e x) (facets_of kind e x) (right x i off a) (lies_somewhere kind e x f inside lies lies_x));
  some = omega (arith, count_others e ws, covered);
}
  where
    is_edge : e < edge_count kind 3
    is_edge = elim (cases_lt e (edge_count kind 3)) as (λ _. e < edge_count kind 3) [
      | inl inside ↦ inside
      | inr outside ↦ absurd (false≢true (sym (suits.others e outside) ∙ member))
    ]

    parts : (i : ℕ) → i < length ws → ((length (slice_index_or ws i []) == 3) ≡ true) × (is_distinct (slice_index_or ws i []) ≡ true)
    parts i h =
        sound_parts (length (slice_index_or ws i []) == 3) (is_distinct (slice_index_or ws i []))
        (list_all (is_bipolar_in kind 3 label) (slice_index_or ws i [])) (sound_at kind label ws i edges h)

    long : (i : ℕ) → i < length ws → length (slice_index_or ws i []) ≡ 3
    long i h = eqb-true (length (slice_index_or ws i [])) 3 (parts i h).0

    distinct : (i : ℕ) → i < length ws → is_distinct (slice_index_or ws i []) ≡ true
    distinct i h = (parts i h).1

    shows : (x i : ℕ) → x ≢ e → HasFace ws e x i → has_face (face_of e x) (slice_index_or ws i []) ≡ true
    shows x i off h = has_face_of e x (slice_index_or ws i []) off (long i h.0) (distinct i h.0) h.1 h.2

    right : (x i : ℕ) → x ≢ e → HasFace ws e x i → is_face_right ws (face_of e x) (facets_of kind e x) ≡ true
    right x i off h = face_right kind e x ws (slice_index_or ws i []) faces (In_place ws i h.0) (distinct i h.0) (shows x i off h)

    covered : 1 ≤ count_by (λ w. has w e) ws
    covered =
        let tests =
        (and_parts (list_all (is_sound_tuple kind 3 label) ws)
        (list_all (λ e. not (is_bipolar_in kind 3 label e) || list_any (λ w. has w e) ws) (numbers (edge_count kind 3))) edges).1 in
        let here =
        all_In (λ e. not (is_bipolar_in kind 3 label e) || list_any (λ w. has w e) ws) (numbers (edge_count kind 3)) e tests
        (In-numbers (edge_count kind 3) e is_edge) in
        let any = not_or (is_bipolar_in kind 3 label e) (list_any (λ w. has w e) ws) here (sym (suits.bipolar_is e is_edge) ∙ member) in
        let r = from_any (λ w. has w e) ws any in
        count_some (λ w. has w e) ws r.0 r.1 r.2

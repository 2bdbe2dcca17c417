-- The rule of faces, by tallies.
use Rattle.std.specs.Prelude.{◌≡◌, ℕ, zero, suc, ◌+◌, ◌<◌, ◌≤◌, min, pos, Bool, true, false, not, ◌&&◌, ◌||◌, ◌==◌, bit_and, List, [], ◌∷◌, cond}
use Rattle.std.specs.Prelude.{filter, length, count_by, slice_index_or, All}
use Rattle.std.specs.List.{list_all, range_with_len}
use Rattle.std.specs.Int.{bit_at}
use Rattle.std.proofs.Common.{get_or, refl, sym, ap, ◌∙◌, subst, arith}
use Rattle.std.proofs.lemmas.Bool.{and_from, eq-eqb, eqb-true, both_ways, false_from_ne_true}
use Rattle.std.proofs.lemmas.Nat.Bits.{bit_at_and, bit_at-lt, same_from_bits}
use Rattle.iso_model.specs.declared.Kind.{Kind}
use Rattle.lists.specs.Orders.{numbers, has, is_distinct, without}
use Rattle.iso_model.specs.Turns.{same_int}
use Rattle.iso_model.specs.Cells.{edge_count, facet_count, edge_in_facet, facets_with}
use Rattle.iso_model.specs.Faces.{face_without, has_face, face_count, face_sum}
use Rattle.iso_model.specs.Tables.{IsTuple}
use Rattle.iso_model.specs.Acceptance.{is_face_right, rule_faces}
use Rattle.mesh_laws.proofs.TakenMembers.{Takes-In_left, from_In-sorted}
use Rattle.mesh_laws.proofs.FaceOf.{place_takes, face_place, any_place}
use Rattle.edge_sets.specs.Sets.{SuitsFacets}
use Rattle.face_tallies.specs.declared.faces.FaceTally.{FaceTally}
use Rattle.face_tallies.specs.Tallies.{IsFace, IsTallyOf, AreTallies}
use Rattle.face_tallies.specs.Parts.{is_right_by, is_right_in}
use Rattle.face_tallies.proofs.SetNumbers.{face_bits}
use Rattle.face_tallies.proofs.TupleFaces.{face_of}
use Rattle.face_tallies.proofs.TallyLaws.{tally_of_face}
use Rattle.lists.specs.Bits.{is_set, set_number}
use Rattle.lists.specs.Members.{In, Ascends}
use Rattle.lists.proofs.Tests.{and_left, same_tests}
use Rattle.lists.proofs.Contained.{each-from_All}
use Rattle.lists.proofs.MemberLaws.{In_from_place, Contains_from, In_of_has, has_of_In, all_In, all_from, In-numbers, from_In-numbers}
use Rattle.lists.proofs.Sorting.{bit, count_by-cons}
use Rattle.lists.proofs.Counts.{count_some, from_count}
use Rattle.lists.proofs.Ascending.{ascends_of}
use Rattle.lists.proofs.Bits.{same_from_number, bit-set, bit-unset}

-- ---- tests of all members

-- ---- the facets in which a face lies

-- a set that lies within another is what both have
lies_within : (face : List ℕ) (facet : ℕ) → Ascends face → list_all (is_set facet) face ≡ (bit_and (set_number face) facet == set_number face)
lies_within face facet a = same_tests (list_all (is_set facet) face) (bit_and (set_number face) facet == set_number face)
    (λ h.
    eq-eqb (bit_and (set_number face) facet) (set_number face)
    (same_from_bits (bit_and (set_number face) facet) (set_number face)
    (λ i. bit_at_and (set_number face) facet i ∙ by_member h i (has face i) refl)))
    (λ h. all_from (is_set facet) face (λ e i. member (eqb-true (bit_and (set_number face) facet) (set_number face) h) e (has_of_In face e i)))
  where
    by_member : list_all (is_set facet) face ≡ true → (i : ℕ) (b : Bool) → has face i ≡ b
        → min (bit_at (set_number face) i) (bit_at facet i) ≡ bit_at (set_number face) i
    by_member h i true t =
        let first : bit_at (set_number face) i ≡ 1 = bit-set (set_number face) i (face_bits face a i ∙ t) in
        let other : bit_at facet i ≡ 1 = bit-set facet i (all_In (is_set facet) face h i (In_of_has face i t)) in
        omega (arith, first, other)
    by_member h i false t =
        let first : bit_at (set_number face) i ≡ 0 = bit-unset (set_number face) i (face_bits face a i ∙ t) in
        omega (arith, first)

    member : bit_and (set_number face) facet ≡ set_number face → (e : ℕ) → has face e ≡ true → is_set facet e ≡ true
    member s e t =
        let first : bit_at (set_number face) e ≡ 1 = bit-set (set_number face) e (face_bits face a e ∙ t) in
        let both : min (bit_at (set_number face) e) (bit_at facet e) ≡ bit_at (set_number face) e =
        sym (bit_at_and (set_number face) facet e) ∙ ap (λ n. bit_at n e) s in
        let small = bit_at-lt facet e in
        let other : bit_at facet e ≡ 1 = omega (arith, first, both, small) in
        eq-eqb (bit_at facet e) 1 other

count_places : (p q : ℕ → Bool) (a : ℕ) (xs : List ℕ) → ((k : ℕ) → k < length xs → p (a + k) ≡ q (get_or xs k 0))
    → length (filter p (range_with_len a (length xs))) ≡ count_by q xs
count_places p q a [] h = refl
count_places p q a (x ∷ xs) h =
    let first : p a ≡ q x = subst (λ m. p m ≡ q x) (let e : a + 0 ≡ a = omega arith in e) (h 0 (omega arith)) in
    let others =
    count_places p q (a + 1) xs
    (λ k less. let e : a + suc k ≡ a + 1 + k = omega arith in subst (λ m. p m ≡ q (get_or xs k 0)) e (h (suc k) (omega arith))) in
    omega (arith, kept (p a), ap bit first, others, count_by-cons q x xs)
  where
    kept : (b : Bool)
        → length (cond b (a ∷ filter p (range_with_len (a + 1) (length xs))) (filter p (range_with_len (a + 1) (length xs))))
        ≡ bit b + length (filter p (range_with_len (a + 1) (length xs)))
    kept true = omega arith
    kept false = omega arith

pub facets_count : (kind : Kind) (d : ℕ) (facets : List ℕ) (ws : List (List ℕ)) → SuitsFacets kind d facets ws → (face : List ℕ) → Ascends face
    → ((e : ℕ) → In e face → e < edge_count kind d)
    → length (facets_with kind d face) ≡ count_by (λ facet. bit_and (set_number face) facet == set_number face) facets
facets_count kind d facets ws s face a inside =
    let p : ℕ → Bool = λ f. list_all (edge_in_facet kind d f) face in
    let q : ℕ → Bool = λ facet. bit_and (set_number face) facet == set_number face in
    ap (λ n. length (filter p (range_with_len 0 n))) (sym s.count)
    ∙ count_places p q 0 facets (λ k h.
    let at : 0 + k ≡ k = omega arith in
    let there : k < facet_count kind d = omega (arith, h, s.count) in
    ap p at ∙ same_tests (list_all (edge_in_facet kind d k) face) (list_all (is_set (get_or facets k 0)) face)
    (λ t. all_from (is_set (get_or facets k 0)) face (λ e i. s.members k e there (inside e i) ∙ all_In (edge_in_facet kind d k) face t e i))
    (λ t. all_from (edge_in_facet kind d k) face (λ e i. sym (s.members k e there (inside e i)) ∙ all_In (is_set (get_or facets k 0)) face t e i))
    ∙ lies_within face (get_or facets k 0) a)

-- ---- what is asked of a face

right_same : (ws : List (List ℕ)) (face : List ℕ) (t : FaceTally) → t.count ≡ face_count ws face → t.sum ≡ face_sum ws face → (n : ℕ)
    → is_right_by n t ≡ is_face_right ws face n
right_same ws face t e f zero = ap (λ c. c == 2 && same_int t.sum (pos 0)) e ∙ ap (λ s. face_count ws face == 2 && same_int s (pos 0)) f
right_same ws face t e f (suc zero) = ap (λ c. c == 1) e
right_same ws face t e f (suc (suc n)) = refl

-- a face of a tuple has its edges from the tuple
edges_within : (face w : List ℕ) → has_face face w ≡ true → (e : ℕ) → In e face → In e w
edges_within face w h e i =
    let r = face_place face w h in
    Takes-In_left (place_takes w r.0 r.1) e (from_In-sorted e (without r.0 w) (subst (λ (v : List ℕ). In e v) (sym r.2) i))

-- some tuple has a face that counts
pub record IsHad (ws : List (List ℕ)) (face : List ℕ) : Type 0 where
  pub tuple : List ℕ
  pub member : In tuple ws
  pub has : has_face face tuple ≡ true

had : (ws : List (List ℕ)) (face : List ℕ) → 0 < face_count ws face → IsHad ws face
had ws face h = let r = from_count (has_face face) ws (omega (arith, h)) in record { tuple = r.0; member = r.1; has = r.2 }

tuple_of : (kind : Kind) (d : ℕ) (facets : List ℕ) (ws : List (List ℕ)) → SuitsFacets kind d facets ws → (w : List ℕ) → In w ws → IsTuple kind d w
tuple_of kind d facets ws s w i = each-from_All (IsTuple kind d) ws s.tuples w (Contains_from ws w i)

edge_of : (kind : Kind) (d : ℕ) (w : List ℕ) → IsTuple kind d w → (e : ℕ) → In e w → e < edge_count kind d
edge_of kind d w t e i = each-from_All (λ x. x < edge_count kind d) w t.1 e (Contains_from w e i)

-- a tally is right where its face is
pub tally_right : (kind : Kind) (d : ℕ) (facets : List ℕ) (ws : List (List ℕ)) → SuitsFacets kind d facets ws → (t : FaceTally) (h : IsTallyOf d ws t)
    → is_right_in facets t ≡ is_face_right ws h.face (length (facets_with kind d h.face))
tally_right kind d facets ws s t h =
    let some = had ws h.face h.some in
    let edges : (e : ℕ) → In e h.face → e < edge_count kind d =
    λ e i. edge_of kind d some.tuple (tuple_of kind d facets ws s some.tuple some.member) e (edges_within h.face some.tuple some.has e i) in
    let count : length (facets_with kind d h.face) ≡ count_by (λ facet. bit_and (set_number h.face) facet == set_number h.face) facets =
    facets_count kind d facets ws s h.face (ascends_of h.face h.is_face.ascending) edges in
    ap (λ n. is_right_by (count_by (λ facet. bit_and n facet == n) facets) t) h.set ∙ ap (λ n. is_right_by n t) (sym count)
    ∙ right_same ws h.face t h.count h.sum (length (facets_with kind d h.face))

-- ---- the rule

rule_each : (kind : Kind) (d : ℕ) (ws : List (List ℕ)) → rule_faces kind d ws ≡ true → (w : List ℕ) → In w ws → is_distinct w ≡ true → (i : ℕ) → i < length w
    → is_face_right ws (face_without w i) (length (facets_with kind d (face_without w i))) ≡ true
rule_each kind d ws h w j e i l =
    all_In (λ k. is_face_right ws (face_without w k) (length (facets_with kind d (face_without w k)))) (numbers (length w))
    (second (is_distinct w) _ e
    (all_In
    (λ v.
    not (is_distinct v)
    || list_all (λ k. is_face_right ws (face_without v k) (length (facets_with kind d (face_without v k)))) (numbers (length v)))
    ws h w j))
    i (In-numbers (length w) i l)
  where
    second : (a b : Bool) → a ≡ true → (not a || b) ≡ true → b ≡ true
    second true b p q = q
    second false b p q = absurd (cc)

rule_from : (kind : Kind) (d : ℕ) (ws : List (List ℕ))
    →
    ((w : List ℕ) → In w ws → is_distinct w ≡ true → (i : ℕ) → i < length w
    → is_face_right ws (face_without w i) (length (facets_with kind d (face_without w i))) ≡ true)
    → rule_faces kind d ws ≡ true
rule_from kind d ws h =
    all_from
    (λ v.
    not (is_distinct v)
    || list_all (λ k. is_face_right ws (face_without v k) (length (facets_with kind d (face_without v k)))) (numbers (length v)))
    ws
    (λ w j.
    either (is_distinct w) _
    (λ e.
    all_from (λ k. is_face_right ws (face_without w k) (length (facets_with kind d (face_without w k)))) (numbers (length w))
    (λ i m. h w j e i (from_In-numbers (length w) i m))))
  where
    either : (a b : Bool) → (a ≡ true → b ≡ true) → (not a || b) ≡ true
    either true b f = f refl
    either false b f = refl

-- a face of a tuple counts
counts : (ws : List (List ℕ)) (w : List ℕ) → In w ws → is_distinct w ≡ true → (i : ℕ) → i < length w → 0 < face_count ws (face_without w i)
counts ws w j e i l =
    let some : 1 ≤ count_by (has_face (face_without w i)) ws =
    count_some (has_face (face_without w i)) ws w j (and_from (is_distinct w) _ e (any_place (face_without w i) w i l refl)) in
    omega (arith, some)

-- where all tallies are right, so is each face
pub rule_kept : (kind : Kind) (d : ℕ) (facets : List ℕ) (ws : List (List ℕ)) (tallies : List FaceTally) → All (λ w. All (λ e. e < 32) w) ws
    → SuitsFacets kind d facets ws → AreTallies d ws tallies
    → list_all (is_right_in facets) tallies ≡ true → rule_faces kind d ws ≡ true
rule_kept kind d facets ws tallies small s a all = rule_from kind d ws (λ w j e i l. right w j e i l)
  where
    right : (w : List ℕ) → In w ws → is_distinct w ≡ true → (i : ℕ) → i < length w
        → is_face_right ws (face_without w i) (length (facets_with kind d (face_without w i))) ≡ true
    right w j e i l =
        let face = face_without w i in
        let f : IsFace d face =
        face_of d w i (tuple_of kind d facets ws s w j).0 (each-from_All (λ v. All (λ x. x < 32) v) ws small w (Contains_from ws w j)) e l in
        let r = tally_of_face d ws tallies a face f (counts ws w j e i l) in
        let h = each-from_All (IsTallyOf d ws) tallies a.each r.0 r.1 in
        let same : h.face ≡ face = same_from_number h.face face (ascends_of h.face h.is_face.ascending) (ascends_of face f.ascending) (sym h.set ∙ r.2) in
        subst (λ (v : List ℕ). is_face_right ws v (length (facets_with kind d v)) ≡ true) same
        (sym (tally_right kind d facets ws s r.0 h) ∙ all_In (is_right_in facets) tallies all r.0 (In_from_place tallies r.0 r.1.0 r.1.1 r.1.2))

-- a tally that is not right is of a face that is not
pub rule_broken : (kind : Kind) (d : ℕ) (facets : List ℕ) (ws : List (List ℕ)) (tallies : List FaceTally) (k : ℕ) (t : FaceTally)
    → SuitsFacets kind d facets ws → AreTallies d ws tallies
    → k < length tallies → t ≡ slice_index_or tallies k t → is_right_in facets t ≡ false → rule_faces kind d ws ≡ false
rule_broken kind d facets ws tallies k t s a inside read wrong =
    let h : IsTallyOf d ws t = subst (λ (u : FaceTally). IsTallyOf d ws u) (sym read) (a.each k t inside) in
    let some = had ws h.face h.some in
    let place = face_place h.face some.tuple some.has in
    false_from_ne_true (rule_faces kind d ws) (λ kept.
    both_ways (is_right_in facets t) wrong
    (tally_right kind d facets ws s t h
    ∙ subst (λ (v : List ℕ). is_face_right ws v (length (facets_with kind d v)) ≡ true) place.2
    (rule_each kind d ws kept some.tuple some.member (and_left (is_distinct some.tuple) _ some.has) place.0 place.1)))

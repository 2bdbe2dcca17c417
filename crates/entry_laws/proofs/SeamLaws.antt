-- What the rule of seams says of two entries that meet across a seam: the one has each list of edges of the seam's first facet with a sign as often
-- as the other has the image of the list.
use Rattle.std.proofs.Common.{◌≡◌, ℕ, zero, suc, ◌+◌, ◌-◌, ◌<◌, ◌≤◌, Bool, true, false, not, ◌&&◌, ◌||◌, ◌==◌, List, [], ◌∷◌, length, refl, ap, subst}
use Rattle.std.proofs.Common.{sym, ◌∙◌, arith, pos, ◌+ℤ◌}
use Rattle.std.specs.Prelude.{map, count_by, ◌%◌, nat_eq}
use Rattle.std.specs.List.{list_all}
use Rattle.std.proofs.lemmas.Bool.{and_parts, and_from, false≢true, both_ways}
use Rattle.std.proofs.lemmas.Int.{ints}
use Rattle.iso_model.specs.declared.Kind.{Kind}
use Rattle.lists.specs.Orders.{numbers, choices, sorted, is_distinct}
use Rattle.iso_model.specs.Cells.{edge_count, facet_edges, edge_in_facet, label_count}
use Rattle.iso_model.specs.Seams.{Seam, seams, edge_across}
use Rattle.iso_model.specs.Faces.{has_face, face_count, face_sum}
use Rattle.iso_model.specs.Tables.{Table, IsTable, entry_of}
use Rattle.iso_model.specs.Acceptance.{labels_meet, sums_match, entries_meet, meets_across, rule_seams, IsAccepted, IsAcceptedOver}
use Rattle.mesh_laws.proofs.FaceSigns.{has_signed}
use Rattle.mesh_laws.proofs.FaceOf.{face_place}
use Rattle.mesh_laws.proofs.FaceLists.{sorted_ascends, face_ascends, length_face}
use Rattle.mesh_laws.proofs.SignedFaces.{face_count_is, face_sum_is, count_parity}
use Rattle.entry_laws.proofs.TupleLaws.{tuple_of}
use Rattle.entry_laws.proofs.FacetChoices.{choice_of_facet}
use Rattle.lists.specs.Members.{In, Each, Distinct, Ascends}
use Rattle.lists.proofs.Tests.{and_left, equal_of, of_equal, same_number}
use Rattle.lists.proofs.MemberLaws.{In-map, In-numbers, all_In}
use Rattle.lists.proofs.Sorting.{bit}
use Rattle.lists.proofs.Counts.{count_none, from_count, not_there}
use Rattle.lists.proofs.DistinctLists.{distinct_test, from_distinct_test}
use Rattle.iso_model.proofs.PointLaws.{same_int-is}

-- ---- counts by signs

-- what holds of both signs holds of all
by_parity : (P : ℕ → Type 0) → ((m n : ℕ) → m % 2 ≡ n % 2 → P n → P m) → P 0 → P 1 → (m : ℕ) → P m
by_parity P step even odd m = go (m % 2) (omega arith) refl
  where
    go : (r : ℕ) → r < 2 → m % 2 ≡ r → P m
    go zero h e = step m 0 e even
    go (suc zero) h e = step m 1 e odd
    go (suc (suc r)) h e = absurd (omega (arith, h))

-- a face that no tuple has is had with no sign
counts_none : (ws : List (List ℕ)) (face : List ℕ) → face_count ws face ≡ 0 → (m : ℕ) → count_by (has_signed m face) ws ≡ 0
counts_none ws face none =
    by_parity (λ m. count_by (has_signed m face) ws ≡ 0) (λ m n same e. count_parity m n face ws same ∙ e)
    (omega (arith, none, face_count_is ws face)) (omega (arith, none, face_count_is ws face))

-- equal counts and sums that match: the parts with each sign are the same, or exchanged
parts_meet : (same : Bool) (here there : List (List ℕ)) (face other : List ℕ) → face_count here face ≡ face_count there other
    → sums_match same (face_sum here face) (face_sum there other) ≡ true
    → (count_by (has_signed 0 other) there ≡ count_by (has_signed (0 + bit same) face) here)
    × (count_by (has_signed 1 other) there ≡ count_by (has_signed (1 + bit same) face) here)
parts_meet true here there face other counts sums =
    let opposite = same_int-is (face_sum here face +ℤ face_sum there other) (pos 0) sums in
    let second = count_parity 2 0 face here refl in (
      omega (arith, ints, counts, opposite, face_count_is here face, face_sum_is here face, face_count_is there other, face_sum_is there other),
      omega (arith, ints, counts, opposite, second, face_count_is here face, face_sum_is here face, face_count_is there other, face_sum_is there other),
    )
parts_meet false here there face other counts sums =
    let equal = same_int-is (face_sum here face) (face_sum there other) sums in (
      omega (arith, ints, counts, equal, face_count_is here face, face_sum_is here face, face_count_is there other, face_sum_is there other),
      omega (arith, ints, counts, equal, face_count_is here face, face_sum_is here face, face_count_is there other, face_sum_is there other),
    )

counts_meet : (same : Bool) (here there : List (List ℕ)) (face other : List ℕ) → face_count here face ≡ face_count there other
    → sums_match same (face_sum here face) (face_sum there other) ≡ true
    → (m : ℕ) → count_by (has_signed m other) there ≡ count_by (has_signed (m + bit same) face) here
counts_meet same here there face other counts sums =
    let parts = parts_meet same here there face other counts sums in
    by_parity (λ m. count_by (has_signed m other) there ≡ count_by (has_signed (m + bit same) face) here)
    (λ m n parity e. count_parity m n other there parity ∙ e ∙ count_parity (n + bit same) (m + bit same) face here (omega (arith, parity))) parts.0 parts.1

-- ---- faces that a tuple may have

-- a face that some tuple has ascends, and is one shorter than the tuples
had_face : (d : ℕ) (ws : List (List ℕ)) (face : List ℕ) → ((w : List ℕ) → In w ws → length w ≡ d) → 1 ≤ face_count ws face
    → Ascends face × (length face + 1 ≡ d)
had_face d ws face wide some =
    let r = from_count (has_face face) ws some in
    let place = face_place face r.0 r.2 in
    let distinct = and_left (is_distinct r.0) _ r.2 in (
      subst (λ (v : List ℕ). Ascends v) place.2 (face_ascends r.0 place.0 distinct place.1),
      omega (arith, length_face r.0 place.0 place.1, ap length place.2, wide r.0 r.1),
    )

ascending_distinct : (xs : List ℕ) → Ascends xs → Distinct xs
ascending_distinct [] a = tt
ascending_distinct (x ∷ xs) a = (
  count_none (nat_eq x) xs (λ y i e. let less : x < y = a.0 y i in let same : y ≡ x = same_number x y e in omega (arith, less, same)),
  ascending_distinct xs a.1,
)

distinct_before : (f : ℕ → ℕ) (xs : List ℕ) → Distinct (map f xs) → Distinct xs
distinct_before f [] d = tt
distinct_before f (x ∷ xs) d = (
  count_none (nat_eq x) xs (λ y i e.
      let same : y ≡ x = same_number x y e in
      not_there (f x) (map f xs) d.0 (subst (λ (z : ℕ). In (f z) (map f xs)) same (In-map f xs y i))),
  distinct_before f xs d.1,
)

length_image : (f : ℕ → ℕ) (xs : List ℕ) → length (map f xs) ≡ length xs
length_image f [] = refl
length_image f (x ∷ xs) = omega (arith, length_image f xs)

-- the numbers of a face differ, and they are one fewer than a tuple has
abbrev fits : ℕ → List ℕ → Bool
fits d face = is_distinct face && (length face + 1 == d)

had_fits : (d : ℕ) (ws : List (List ℕ)) (face : List ℕ) → ((w : List ℕ) → In w ws → length w ≡ d) → 1 ≤ face_count ws face → fits d face ≡ true
had_fits d ws face wide some =
    let r = had_face d ws face wide some in
    and_from (is_distinct face) (length face + 1 == d) (distinct_test face (ascending_distinct face r.0)) (of_equal (length face + 1) d r.1)

had_image_fits : (d : ℕ) (f : ℕ → ℕ) (ws : List (List ℕ)) (face : List ℕ) → ((w : List ℕ) → In w ws → length w ≡ d) → 1 ≤ face_count ws (map f face)
    → fits d face ≡ true
had_image_fits d f ws face wide some =
    let r = had_face d ws (map f face) wide some in
    and_from (is_distinct face) (length face + 1 == d) (distinct_test face (distinct_before f face (ascending_distinct (map f face) r.0)))
    (of_equal (length face + 1) d (omega (arith, r.1, length_image f face)))

none_of : (n : ℕ) → (1 ≤ n → ⊥) → n ≡ 0
none_of zero h = refl
none_of (suc n) h = absurd (h (omega arith))

-- ---- the rule at a seam

-- the test of a face
abbrev face_meets : Kind → ℕ → Seam → List (List ℕ) → List (List ℕ) → List ℕ → Bool
face_meets kind d s here there face =
    face_count here face == face_count there (map (edge_across kind d s) face)
    && sums_match s.same_parity (face_sum here face) (face_sum there (map (edge_across kind d s) face))

seam_kept : (ss : List Seam) (t : Table) (s : Seam) (here there : ℕ) → IsAcceptedOver ss t → In s ss → here < label_count t.kind t.dimension
    → there < label_count t.kind t.dimension
    → labels_meet t.kind t.dimension s here there ≡ true → entries_meet t.kind t.dimension s (entry_of t here) (entry_of t there) ≡ true
seam_kept ss t s here there accepted i less_here less_there meet =
    let rule : rule_seams ss t here ≡ true = accepted here 6 less_here (omega arith) in
    let labels =
    all_In (λ (u : Seam). list_all (λ m. meets_across t u here m && meets_across t u m here) (numbers (label_count t.kind t.dimension)))
    ss rule s i in
    let both =
    all_In (λ m. meets_across t s here m && meets_across t s m here) (numbers (label_count t.kind t.dimension)) labels there
    (In-numbers (label_count t.kind t.dimension) there less_there) in
    second (labels_meet t.kind t.dimension s here there) (entries_meet t.kind t.dimension s (entry_of t here) (entry_of t there)) meet
    (and_parts (meets_across t s here there) (meets_across t s there here) both).0
  where
    second : (a b : Bool) → a ≡ true → (not a || b) ≡ true → b ≡ true
    second true b p q = q
    second false b p q = absurd (false≢true p)

-- a face of D - 1 different edges of the facet has the same count as its image, and the sums match
choice_meets : (kind : Kind) (d : ℕ) (s : Seam) (here there : List (List ℕ)) (face : List ℕ) → entries_meet kind d s here there ≡ true
    → fits d face ≡ true → sorted face ≡ face
    → Each (λ e. (e < edge_count kind d) × (edge_in_facet kind d s.facet e ≡ true)) face → face_meets kind d s here there face ≡ true
choice_meets kind d s here there face meet fit ascends all =
    let parts = and_parts (is_distinct face) (length face + 1 == d) fit in
    let wide : length face ≡ d - 1 = omega (arith, equal_of (length face + 1) d parts.1) in
    let ascending : Ascends face = subst (λ (v : List ℕ). Ascends v) ascends (sorted_ascends face (from_distinct_test face parts.0)) in
    let chosen : In face (choices (d - 1) (facet_edges kind d s.facet)) =
    subst (λ (n : ℕ). In face (choices n (facet_edges kind d s.facet))) wide (choice_of_facet kind d s.facet face ascending all) in
    all_In (face_meets kind d s here there) (choices (d - 1) (facet_edges kind d s.facet)) meet face chosen

-- the entry there has the image of a face with a sign as often as the entry here has the face, with the same sign where the parities differ, and with
-- the other where they are the same
pub matches_across_over : (ss : List Seam) (t : Table) (s : Seam) (here there m : ℕ) (face : List ℕ) → IsTable t → IsAcceptedOver ss t → In s ss
    → here < label_count t.kind t.dimension → there < label_count t.kind t.dimension → labels_meet t.kind t.dimension s here there ≡ true
    → sorted face ≡ face → Each (λ e. (e < edge_count t.kind t.dimension) × (edge_in_facet t.kind t.dimension s.facet e ≡ true)) face
    → count_by (has_signed m (map (edge_across t.kind t.dimension s) face)) (entry_of t there)
    ≡ count_by (has_signed (m + bit s.same_parity) face) (entry_of t here)
matches_across_over ss t s here there m face table accepted i less_here less_there meet ascends all = go (fits t.dimension face) refl
  where
    other : List ℕ
    other = map (edge_across t.kind t.dimension s) face

    go : (b : Bool) → fits t.dimension face ≡ b
        → count_by (has_signed m (map (edge_across t.kind t.dimension s) face)) (entry_of t there)
        ≡ count_by (has_signed (m + bit s.same_parity) face) (entry_of t here)
    go true fit =
        let met =
        choice_meets t.kind t.dimension s (entry_of t here) (entry_of t there) face
        (seam_kept ss t s here there accepted i less_here less_there meet) fit ascends all in
        let parts =
        and_parts (face_count (entry_of t here) face == face_count (entry_of t there) other)
        (sums_match s.same_parity (face_sum (entry_of t here) face) (face_sum (entry_of t there) other)) met in
        counts_meet s.same_parity (entry_of t here) (entry_of t there) face other
        (equal_of (face_count (entry_of t here) face) (face_count (entry_of t there) other) parts.0) parts.1 m
    go false unfit =
        let wide_here = λ (w : List ℕ) (j : In w (entry_of t here)). (tuple_of t here table less_here w j).0 in
        let wide_there = λ (w : List ℕ) (j : In w (entry_of t there)). (tuple_of t there table less_there w j).0 in
        let none_here : face_count (entry_of t here) face ≡ 0 =
        none_of (face_count (entry_of t here) face)
        (λ some. both_ways (fits t.dimension face) unfit (had_fits t.dimension (entry_of t here) face wide_here some)) in
        let none_there : face_count (entry_of t there) other ≡ 0 =
        none_of (face_count (entry_of t there) other)
        (λ some.
        both_ways (fits t.dimension face) unfit
        (had_image_fits t.dimension (edge_across t.kind t.dimension s) (entry_of t there) face wide_there some))
        in
        counts_none (entry_of t there) other none_there m ∙ sym (counts_none (entry_of t here) face none_here (m + bit s.same_parity))

-- over the seams of the table's own kind and dimension
pub matches_across : (t : Table) (s : Seam) (here there m : ℕ) (face : List ℕ) → IsTable t → IsAccepted t → In s (seams t.kind t.dimension)
    → here < label_count t.kind t.dimension → there < label_count t.kind t.dimension → labels_meet t.kind t.dimension s here there ≡ true
    → sorted face ≡ face → Each (λ e. (e < edge_count t.kind t.dimension) × (edge_in_facet t.kind t.dimension s.facet e ≡ true)) face
    → count_by (has_signed m (map (edge_across t.kind t.dimension s) face)) (entry_of t there)
    ≡ count_by (has_signed (m + bit s.same_parity) face) (entry_of t here)
matches_across t = matches_across_over (seams t.kind t.dimension) t

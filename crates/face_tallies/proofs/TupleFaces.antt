-- What the faces of tuples have at the set of a face.
use Rattle.std.specs.Prelude.{◌≡◌, ◌≢◌, ℕ, ◌<◌, ℤ, pos, ◌+ℤ◌, Bool, true, false, ◌==◌, List, [], ◌∷◌, map, length}
use Rattle.std.specs.Prelude.{sum_by, slice_index_or, All, Contains, if◌then◌else◌}
use Rattle.std.proofs.Common.{refl, sym, ap, ◌∙◌, subst, arith, inl, inr}
use Rattle.std.proofs.lemmas.Bool.{and_from, eq-eqb, eqb-true, both_ways, false_from_ne_true}
use Rattle.std.proofs.lemmas.List.Sums.{sum_by-cons, sum_by-append}
use Rattle.std.proofs.lemmas.Slice.Eq.{bytes_eq-Decides}
use Rattle.lists.specs.Orders.{numbers, without, is_distinct, same_list}
use Rattle.iso_model.specs.Turns.{total}
use Rattle.iso_model.specs.Faces.{face_without, sign_without, has_face, sign_of_face, face_count, face_sum}
use Rattle.mesh_laws.proofs.TakenMembers.{In-sorted, from_In-sorted, Takes-In_left}
use Rattle.mesh_laws.proofs.FaceOf.{place_takes, face_place, any_place, place_left_out, In-without}
use Rattle.mesh_laws.proofs.FaceLists.{ascends_by_steps, face_ascends, length_face}
use Rattle.face_tallies.specs.declared.faces.FaceTally.{FaceTally}
use Rattle.face_tallies.specs.Tallies.{IsFace}
use Rattle.face_tallies.specs.Parts.{part_at, parts_of, all_parts, count_at, sum_at}
use Rattle.face_tallies.proofs.AddedParts.{count_of, sum_of, total-append}
use Rattle.lists.specs.Bits.{set_number}
use Rattle.lists.specs.Members.{In, Ascends}
use Rattle.lists.proofs.Contained.{any_default, each-from_All}
use Rattle.lists.proofs.MemberLaws.{In_from_place, Contains_from, from_In-map, from_In-flat_map, map_same, map-map, In-numbers, from_In-numbers}
use Rattle.lists.proofs.Sorting.{bit, count_by-cons}
use Rattle.lists.proofs.Counts.{sum_none, sum_one}
use Rattle.lists.proofs.DistinctLists.{Distinct-range}
use Rattle.lists.proofs.Bits.{same_from_number}

-- ---- one tuple

sum_by-map : {X Y : Type 0} (f : Y → ℕ) (g : X → Y) (xs : List X) → sum_by f (map g xs) ≡ sum_by (λ x. f (g x)) xs
sum_by-map f g [] = refl
sum_by-map f g (x ∷ xs) = omega (arith, sum_by-cons f (g x) (map g xs), sum_by-cons (λ y. f (g y)) x xs, sum_by-map f g xs)

-- the same place of the same face, by the number of the set or by the list
same_test : (face w : List ℕ) (k : ℕ) → Ascends face → is_distinct w ≡ true → k < length w
    → (set_number (face_without w k) == set_number face) ≡ same_list (face_without w k) face
same_test face w k a d h =
    same (set_number (face_without w k) == set_number face) (same_list (face_without w k) face)
    (λ t.
    (bytes_eq-Decides (face_without w k) face).1
    (same_from_number (face_without w k) face (face_ascends w k d h) a (eqb-true (set_number (face_without w k)) (set_number face) t)))
    (λ t. eq-eqb (set_number (face_without w k)) (set_number face) (ap set_number ((bytes_eq-Decides (face_without w k) face).0 t)))
  where
    same : (p q : Bool) → (p ≡ true → q ≡ true) → (q ≡ true → p ≡ true) → p ≡ q
    same true q f g = sym (f refl)
    same false true f g = g refl
    same false false f g = refl

distinct_parts : (w : List ℕ) → is_distinct w ≡ true → parts_of w ≡ map (part_at w) (numbers (length w))
distinct_parts w d = rw d refl

no_parts : (w : List ℕ) → is_distinct w ≡ false → parts_of w ≡ []
no_parts w d = rw d refl

-- the face of a tuple is had at one place, or at none
one_if : Bool → ℕ
one_if b = if b then 1 else 0

module _ (face w : List ℕ) (a : Ascends face) (d : is_distinct w ≡ true) where
  here : ℕ → Bool
  here i = set_number (face_without w i) == set_number face

  is_here : (k : ℕ) → k < length w → face_without w k ≡ face → here k ≡ true
  unfolding here
  is_here k h e = same_test face w k a d h ∙ (bytes_eq-Decides (face_without w k) face).1 e

  from_here : (k : ℕ) → k < length w → here k ≡ true → face_without w k ≡ face
  unfolding here
  from_here k h e = (bytes_eq-Decides (face_without w k) face).0 (sym (same_test face w k a d h) ∙ e)

  not_elsewhere : (k i : ℕ) → k < length w → i < length w → face_without w k ≡ face → i ≢ k → here i ≡ false
  not_elsewhere k i h l e n =
      false_from_ne_true (here i) (λ t.
      place_left_out face w k d h e
      (subst (λ (v : List ℕ). In (slice_index_or w k 0) v) (from_here i l t) (In-sorted (slice_index_or w k 0) (without i w) (In-without w k i h n))))

  -- the count at the places of a tuple
  pub place_count : sum_by (λ i. if set_number (face_without w i) == set_number face then 1 else 0) (numbers (length w)) ≡ bit (has_face face w)
  unfolding here one_if
  place_count = by_test (has_face face w) refl
    where
      by_test : (b : Bool) → has_face face w ≡ b → sum_by (λ i. one_if (here i)) (numbers (length w)) ≡ bit (has_face face w)
      by_test true t =
          let r = face_place face w t in
          sum_one (λ i. one_if (here i)) (numbers (length w)) r.0 (Distinct-range 0 (length w)) (In-numbers (length w) r.0 r.1)
          (λ i j n. ap one_if (not_elsewhere r.0 i r.1 (from_In-numbers (length w) i j) r.2 n))
          ∙ ap one_if (is_here r.0 r.1 r.2) ∙ ap bit (sym t)
      by_test false t =
          sum_none (λ i. one_if (here i)) (numbers (length w))
          (λ i j. ap one_if (false_from_ne_true (here i) (λ e. both_ways (has_face face w) t (has_it i (from_In-numbers (length w) i j) e))))
          ∙ ap bit (sym t)
        where
          has_it : (i : ℕ) → i < length w → here i ≡ true → has_face face w ≡ true
          has_it i h e = and_from (is_distinct w) _ d (any_place face w i h (from_here i h e))

  -- the sum at the places of a tuple
  pub place_sum :
      total (map (λ i. if set_number (face_without w i) == set_number face then sign_without w i else pos 0) (numbers (length w)))
      ≡ sign_of_face face w
  place_sum =
      ap total (map_same (λ i. if set_number (face_without w i) == set_number face then sign_without w i else pos 0)
      (λ i. if same_list (face_without w i) face then sign_without w i else pos 0) (numbers (length w))
      (λ i j. ap (λ (b : Bool). if b then sign_without w i else pos 0) (same_test face w i a d (from_In-numbers (length w) i j))))
      ∙ sym (whole d)
    where
      whole : is_distinct w ≡ true
          → sign_of_face face w ≡ total (map (λ i. if same_list (face_without w i) face then sign_without w i else pos 0) (numbers (length w)))
      whole e = rw e refl

pub tuple_count : (face w : List ℕ) → Ascends face → count_at (set_number face) (parts_of w) ≡ bit (has_face face w)
tuple_count face w a = by_test (is_distinct w) refl
  where
    by_test : (b : Bool) → is_distinct w ≡ b → count_at (set_number face) (parts_of w) ≡ bit (has_face face w)
    by_test true d =
        ap (count_at (set_number face)) (distinct_parts w d) ∙ sum_by-map (count_of (set_number face)) (part_at w) (numbers (length w)) ∙ place_count face w a d
    by_test false d = ap (count_at (set_number face)) (no_parts w d) ∙ sym (ap bit (none d))
      where
        none : is_distinct w ≡ false → has_face face w ≡ false
        none e = rw e refl

pub tuple_sum : (face w : List ℕ) → Ascends face → sum_at (set_number face) (parts_of w) ≡ sign_of_face face w
tuple_sum face w a = by_test (is_distinct w) refl
  where
    by_test : (b : Bool) → is_distinct w ≡ b → sum_at (set_number face) (parts_of w) ≡ sign_of_face face w
    by_test true d =
        ap (sum_at (set_number face)) (distinct_parts w d) ∙ ap total (map-map (part_at w) (sum_of (set_number face)) (numbers (length w)))
        ∙ place_sum face w a d
    by_test false d = ap (sum_at (set_number face)) (no_parts w d) ∙ sym (none d)
      where
        none : is_distinct w ≡ false → sign_of_face face w ≡ pos 0
        none e = rw e refl

-- ---- all tuples

pub all_count : (face : List ℕ) (ws : List (List ℕ)) → Ascends face → count_at (set_number face) (all_parts ws) ≡ face_count ws face
all_count face [] a = refl
all_count face (w ∷ ws) a =
    omega (
      arith,
      sum_by-append (count_of (set_number face)) (parts_of w) (all_parts ws),
      tuple_count face w a,
      count_by-cons (has_face face) w ws,
      all_count face ws a,
    )

pub all_sum : (face : List ℕ) (ws : List (List ℕ)) → Ascends face → sum_at (set_number face) (all_parts ws) ≡ face_sum ws face
all_sum face [] a = refl
all_sum face (w ∷ ws) a =
    total-append (sum_of (set_number face)) (parts_of w) (all_parts ws) ∙ ap (λ (z : ℤ). z +ℤ sum_at (set_number face) (all_parts ws)) (tuple_sum face w a)
    ∙ ap (λ (z : ℤ). sign_of_face face w +ℤ z) (all_sum face ws a)

-- ---- each part is of a face

pub counted_part : (set : ℕ) (parts : List FaceTally) → 0 < count_at set parts → (t : FaceTally) × In t parts × (t.edges ≡ set)
counted_part set [] h = absurd (let never : 0 < 0 = h in omega (arith, never))
counted_part set (t ∷ parts) h = by_test (t.edges == set) refl (counted_part set parts)
  where
    by_test : (b : Bool) → (t.edges == set) ≡ b → (0 < count_at set parts → (s : FaceTally) × In s parts × (s.edges ≡ set))
        → (s : FaceTally) × In s (t ∷ parts) × (s.edges ≡ set)
    by_test true e later = (t, inl refl, eqb-true t.edges set e)
    by_test false e later =
        let none : count_of set t ≡ 0 = rw e refl in
        let r = later (omega (arith, h, none, sum_by-cons (count_of set) t parts)) in
        (r.0, inr r.1, r.2)

-- a face of a tuple of D edges
pub face_of : (d : ℕ) (w : List ℕ) (i : ℕ) → length w ≡ d → All (λ e. e < 32) w → is_distinct w ≡ true → i < length w → IsFace d (face_without w i)
face_of d w i long small e l = record {
  wide = length_face w i l ∙ long;
  ascending = ascends_by_steps (face_without w i) (face_ascends w i e l);
  edges = λ k x m.
      let y = slice_index_or (face_without w i) k x in
      let there : In y (face_without w i) = In_from_place (face_without w i) y k m (any_default (face_without w i) k y x m) in
      each-from_All (λ n. n < 32) w small y (Contains_from w y (Takes-In_left (place_takes w i l) y (from_In-sorted y (without i w) there)));
}

pub record IsFaceSet (d set : ℕ) : Type 0 where
  pub face : List ℕ
  pub is_face : IsFace d face
  pub number : set ≡ set_number face

pub part_face : (d set : ℕ) (ws : List (List ℕ)) → All (λ w. length w ≡ d) ws → All (λ w. All (λ e. e < 32) w) ws → 0 < count_at set (all_parts ws)
    → IsFaceSet d set
part_face d set ws wide small h =
    let r = counted_part set (all_parts ws) h in
    let s = from_In-flat_map parts_of ws r.0 r.1 in
    by_test s.0 (Contains_from ws s.0 s.1) r.0 r.2 (is_distinct s.0) refl s.2
  where
    by_test : (w : List ℕ) → Contains ws w → (t : FaceTally) → t.edges ≡ set → (b : Bool) → is_distinct w ≡ b → In t (parts_of w) → IsFaceSet d set
    by_test w c t same true e i =
        let r = from_In-map (part_at w) (numbers (length w)) t (subst (λ (ts : List FaceTally). In t ts) (distinct_parts w e) i) in
        record {
          face = face_without w r.0;
          is_face =
              face_of d w r.0 (each-from_All (λ v. length v ≡ d) ws wide w c) (each-from_All (λ v. All (λ x. x < 32) v) ws small w c) e
              (from_In-numbers (length w) r.0 r.1);
          number = sym same ∙ ap (λ (s : FaceTally). s.edges) r.2;
        }
    by_test w c t same false e i = absurd (subst (λ (ts : List FaceTally). In t ts) (no_parts w e) i)

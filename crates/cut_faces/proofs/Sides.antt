-- The sides of a tetrahedron: its four corners in ascending order without one of them.
use Rattle.std.proofs.Common.{◌≡◌, ◌≢◌, ℕ, zero, suc, ◌+◌, ◌<◌, true, List, [], ◌∷◌, length, inl, inr, ap, sym, ◌∙◌, subst, arith, pos}
use Rattle.std.specs.Prelude.{count_by, nat_lt, slice_index, ◌%◌, ◌==◌}
use Rattle.std.proofs.lemmas.Bool.{cases_eq}
use Rattle.lists.specs.Orders.{without, inversions, is_odd, sorted}
use Rattle.lists.specs.Members.{In, Distinct, Ascends}
use Rattle.lists.proofs.Sorting.{count-sorted}
use Rattle.lists.proofs.Counts.{never_there, not_there}
use Rattle.lists.proofs.DistinctLists.{from_distinct_test}
use Rattle.iso_model.specs.Turns.{signed}
use Rattle.iso_model.specs.Faces.{has_face, sign_of_face}
use Rattle.mesh_laws.proofs.TakenMembers.{Takes-length, Takes-apart, In-sorted, from_In-sorted, one_more}
use Rattle.mesh_laws.proofs.FaceOf.{place_takes, takes_place, In-without, In-at, face_place, has_face_all, sign_of_free, rank}
use Rattle.mesh_laws.proofs.FaceLists.{ascends_sorted, ascends_inversions, sorted_ascends, face_ascends, length_face}
use Rattle.cut_laws.specs.CutSteps.{IsSimplex}
use Rattle.cut_laws.proofs.FoundLinks.{four_in_order}

-- the corners without place f
abbrev pub side : List ℕ → ℕ → List ℕ
side w f = without f (sorted w)

-- ---- ascending lists without one of their places

pub from_In-without : (xs : List ℕ) (k y : ℕ) → In y (without k xs) → In y xs
from_In-without [] k y i = i
from_In-without (x ∷ xs) zero y i = inr i
from_In-without (x ∷ xs) (suc k) y (inl e) = inl e
from_In-without (x ∷ xs) (suc k) y (inr i) = inr (from_In-without xs k y i)

Ascends-without : (xs : List ℕ) (k : ℕ) → Ascends xs → Ascends (without k xs)
Ascends-without [] k a = a
Ascends-without (x ∷ xs) zero a = a.1
Ascends-without (x ∷ xs) (suc k) a = (λ y i. a.0 y (from_In-without xs k y i), Ascends-without xs k a.1)

pub Ascends-Distinct : (xs : List ℕ) → Ascends xs → Distinct xs
Ascends-Distinct [] a = tt
Ascends-Distinct (x ∷ xs) a = (never_there x xs (λ i. let less : x < x = a.0 x i in omega (arith, less)), Ascends-Distinct xs a.1)

-- ---- the sides of one tetrahedron

module _ (n : ℕ) (w : List ℕ) (is : IsSimplex n w) where
  pub corners_four : length (sorted w) ≡ 4
  corners_four = ap (λ (xs : List ℕ). length xs) (four_in_order w is.four is.distinct).is

  pub corners_ascend : Ascends (sorted w)
  corners_ascend = sorted_ascends w (from_distinct_test w is.distinct)

  corners_place : (f : ℕ) → f < 4 → f < length (sorted w)
  corners_place f h = omega (arith, h, corners_four)

  pub corner_in : (f : ℕ) → f < 4 → In (slice_index (sorted w) f) w
  corner_in f h = from_In-sorted (slice_index (sorted w) f) w (In-at (sorted w) f (corners_place f h))

  pub side_ascends : (f : ℕ) → Ascends (side w f)
  side_ascends f = Ascends-without (sorted w) f corners_ascend

  pub length_side : (f : ℕ) → f < 4 → length (side w f) + 1 ≡ 4
  length_side f h = omega (arith, Takes-length (place_takes (sorted w) f (corners_place f h)), corners_four)

  pub side_in : (f y : ℕ) → In y (side w f) → In y w
  side_in f y i = from_In-sorted y w (from_In-without (sorted w) f y i)

  -- the corner left out does not stand in the side, and each other corner does
  pub left_out : (f : ℕ) → f < 4 → In (slice_index (sorted w) f) (side w f) → ⊥
  left_out f h i =
      not_there (slice_index (sorted w) f) (side w f)
      (Takes-apart (place_takes (sorted w) f (corners_place f h)) (Ascends-Distinct (sorted w) corners_ascend)).0 i

  pub kept : (f k : ℕ) → k < 4 → k ≢ f → In (slice_index (sorted w) k) (side w f)
  kept f k h n = In-without (sorted w) k f (corners_place k h) (λ e. n (sym e))

  -- the tetrahedron has its sides as faces
  pub has_side : (f : ℕ) → f < 4 → has_face (side w f) w ≡ true
  has_side f h =
      has_face_all (side w f) w (side_ascends f) (omega (arith, is.four, length_side f h)) (λ y i. side_in f y i) ∙ is.distinct

  -- and no others
  pub side_found : (face : List ℕ) → has_face face w ≡ true → (f : ℕ) × (f < 4) × (side w f ≡ face)
  side_found face h =
      let r = face_place face w h in
      let up : Ascends face = subst Ascends r.2 (face_ascends w r.0 is.distinct r.1) in
      let long : length (sorted w) ≡ length face + 1 =
      omega (arith, corners_four, is.four, length_face w r.0 r.1, ap (λ (xs : List ℕ). length xs) r.2) in
      let u = one_more face (sorted w) up long (λ y i. In-sorted y w (from_In-without w r.0 y (from_In-sorted y (without r.0 w) (subst (In y) (sym r.2) i)))) in
      let p = takes_place u.2 in
      let same : without p.0 (sorted w) ≡ face = p.2 ∙ sym (ascends_sorted u.1 (subst Ascends p.2 (Ascends-without (sorted w) p.0 corners_ascend))) ∙ u.3 in
      (p.0, omega (arith, p.1, corners_four), same)

  -- different places leave out different corners
  pub side_fixed : (f g : ℕ) → f < 4 → g < 4 → side w f ≡ side w g → f ≡ g
  side_fixed f g hf hg e = elim (cases_eq f g) as (λ _. f ≡ g) [
    | inl same ↦ same
    | inr apart ↦ absurd (left_out f hf (subst (In (slice_index (sorted w) f)) (sym e) (kept g f hf apart)))
  ]

  -- the sign of a side
  pub sign_of_side : (f : ℕ) → f < 4 → sign_of_face (side w f) w ≡ signed (is_odd (inversions w + f)) (pos 1)
  sign_of_side f h =
      let x : ℕ = slice_index (sorted w) f in
      let below : count_by (λ y. nat_lt y x) (sorted w) ≡ count_by (λ y. nat_lt y x) w = count-sorted (λ y. nat_lt y x) w in
      let place = rank (sorted w) f (corners_place f h) (Ascends-Distinct (sorted w) corners_ascend) in
      let parity : (inversions w + count_by (λ y. nat_lt y x) w) % 2 ≡ (inversions w + f) % 2 =
      omega (arith, place, below, ascends_inversions (sorted w) corners_ascend, ascends_inversions (side w f) (side_ascends f)) in
      sign_of_free (side w f) w x (has_side f h) (corner_in f h) (left_out f h)
      ∙ ap (λ (k : ℕ). signed (k == 1) (pos 1)) parity

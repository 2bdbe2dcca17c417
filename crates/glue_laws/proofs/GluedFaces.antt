-- The placed simplices of lawful pieces are closed: the count and the sum of each of their faces.
use Rattle.std.proofs.Common.{◌≡◌, ℕ, zero, suc, ◌<◌, Bool, true, false, List, [], ◌∷◌, length, ap, sym, ◌∙◌, subst, arith}
use Rattle.std.specs.Prelude.{map, pos}
use Rattle.std.proofs.lemmas.Int.{ints}
use Rattle.lists.specs.Orders.{without, is_distinct}
use Rattle.iso_model.specs.Faces.{face_without, face_count, face_sum}
use Rattle.iso_model.specs.Placed.{placed_tuple}
use Rattle.mesh_laws.proofs.FaceSigns.{Part, rest, after, Distinct-exchange}
use Rattle.mesh_laws.proofs.SignedFaces.{face_count_is, face_sum_is}
use Rattle.glue_laws.proofs.Pieces.{Pieces, piece, placed_simplices, IsTuple, Laws, OnFree}
use Rattle.glue_laws.proofs.OwnPart.{places_differ, part_of_placed}
use Rattle.glue_laws.proofs.OneFace.{LocalFace, the_face}
use Rattle.glue_laws.proofs.FreePieces.{off_boundary, on_boundary}
use Rattle.lists.specs.Members.{In, Distinct}
use Rattle.lists.proofs.MemberLaws.{from_In-map, from_In-flat_map}
use Rattle.lists.proofs.DistinctLists.{distinct_test}
use Rattle.iso_model.proofs.SignLaws.{length-placed}

-- a list without one of its places is a part of it
without-Part : (i : ℕ) (w : List ℕ) → i < length w → Part (without i w) w
without-Part i [] h = absurd (omega arith)
without-Part zero (x ∷ w) h = rest
without-Part (suc i) (x ∷ w) h = after (without-Part i w (omega arith))

-- where all tuples have one length, all placed simplices have it
pub lengths : (p : Pieces) (n : ℕ) → ((c : ℕ) (t : List ℕ) → In c p.cells → In t (p.entry c) → length t ≡ n) → (w : List ℕ)
    → In w (placed_simplices p) → length w ≡ n
lengths p n long w i =
    let r = from_In-flat_map (piece p) p.cells w i in
    let s = from_In-map (placed_tuple (p.is_odd_cell r.0) (p.place r.0)) (p.entry r.0) w r.2 in
    ap (λ (v : List ℕ). length v) s.2 ∙ length-placed (p.is_odd_cell r.0) (p.place r.0) s.0 ∙ long r.0 s.0 r.1 s.1

module _ (p : Pieces) (laws : Laws p) where
  placed_distinct : (c : ℕ) (t : List ℕ) → In c p.cells → IsTuple p c t → (odd : Bool) → Distinct (placed_tuple odd (p.place c) t)
  placed_distinct c t i tuple false = places_differ p laws c t i tuple
  placed_distinct c t i tuple true = Distinct-exchange (map (p.place c) t) (places_differ p laws c t i tuple)

  -- each placed simplex has different numbers
  pub distinct : (w : List ℕ) → In w (placed_simplices p) → is_distinct w ≡ true
  distinct w i =
      let r = from_In-flat_map (piece p) p.cells w i in
      let s = from_In-map (placed_tuple (p.is_odd_cell r.0) (p.place r.0)) (p.entry r.0) w r.2 in
      distinct_test w (subst Distinct (sym s.2) (placed_distinct r.0 s.0 r.1 (laws.tuples r.0 s.0 r.1 s.1) (p.is_odd_cell r.0)))

  -- a face of a placed simplex is one of a tuple of a cell
  pub source : (w : List ℕ) (i : ℕ) → In w (placed_simplices p) → i < length w → (x : LocalFace p) × (face_without w i ≡ the_face p x)
  source w i j h =
      let r = from_In-flat_map (piece p) p.cells w j in
      let s = from_In-map (placed_tuple (p.is_odd_cell r.0) (p.place r.0)) (p.entry r.0) w r.2 in
      let q : Part (without i w) (placed_tuple (p.is_odd_cell r.0) (p.place r.0) s.0) = subst (λ (v : List ℕ). Part (without i w) v) s.2 (without-Part i w h) in
      let u = part_of_placed p laws r.0 s.0 (without i w) (p.is_odd_cell r.0) q in
      (record { cell = r.0; tuple = s.0; part = u.0; is_cell = r.1; is_tuple = s.1; is_part = u.1 }, u.2)

  -- a face on no free facet has count 2 and sum 0
  pub inside : (w : List ℕ) (i : ℕ) → In w (placed_simplices p) → i < length w → ¬ OnFree p (face_without w i) →
      (face_count (placed_simplices p) (face_without w i) ≡ 2) × (face_sum (placed_simplices p) (face_without w i) ≡ pos 0)
  inside w i j h off =
      let s = source w i j h in
      let off_face : ¬ OnFree p (the_face p s.0) = λ on. off (subst (OnFree p) (sym s.1) on) in
      let zero_part = off_boundary p laws s.0 off_face 0 in
      let one_part = off_boundary p laws s.0 off_face 1 in
      subst (λ (v : List ℕ). (face_count (placed_simplices p) v ≡ 2) × (face_sum (placed_simplices p) v ≡ pos 0)) (sym s.1) (
        omega (arith, face_count_is (placed_simplices p) (the_face p s.0), zero_part, one_part),
        omega (arith, ints, face_sum_is (placed_simplices p) (the_face p s.0), zero_part, one_part),
      )

  -- a face on a free facet has count 1
  pub outside : (w : List ℕ) (i : ℕ) → In w (placed_simplices p) → i < length w → OnFree p (face_without w i)
      → face_count (placed_simplices p) (face_without w i) ≡ 1
  outside w i j h on =
      let s = source w i j h in
      let both = on_boundary p laws s.0 (subst (OnFree p) s.1 on) in
      subst (λ (v : List ℕ). face_count (placed_simplices p) v ≡ 1) (sym s.1) (omega (arith, face_count_is (placed_simplices p) (the_face p s.0), both))

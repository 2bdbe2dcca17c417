-- What each cell adds to the count of a face with a sign: what its entry has of the tuples with this face, and nothing where the cell lacks a number
-- of the face.
use Rattle.std.proofs.Common.{◌≡◌, ℕ, ◌+◌, ◌≤◌, Bool, true, false, ◌&&◌, List, length, refl, ap, sym, ◌∙◌, subst, arith}
use Rattle.std.specs.Prelude.{map, count_by, not}
use Rattle.std.specs.List.{list_any}
use Rattle.std.proofs.lemmas.Slice.Eq.{bytes_eq-Decides}
use Rattle.std.proofs.lemmas.List.{length-map}
use Rattle.lists.specs.Orders.{sorted, inversions, is_odd, is_distinct, exchange_last}
use Rattle.iso_model.specs.Placed.{placed_tuple}
use Rattle.mesh_laws.proofs.FaceSigns.{Part, left_out, is_face, is_signed_face, has_signed, Part-Each, Part-map, Part-exchange, Each-sorted}
use Rattle.mesh_laws.proofs.FaceSigns.{Distinct-map, Distinct-exchange, any_signed-exchange, left_out-Part}
use Rattle.mesh_laws.proofs.SignedFaces.{has_signed-map}
use Rattle.glue_laws.proofs.Pieces.{Pieces, AllBipolar, Has, local_count, piece, IsTuple, Laws}
use Rattle.glue_laws.proofs.SignCounts.{count_same}
use Rattle.lists.specs.Members.{In, Each, Distinct}
use Rattle.lists.proofs.Tests.{and_left, and_right}
use Rattle.lists.proofs.MemberLaws.{from_In-map, from_any, Each-In, Each-from_In, Each-map}
use Rattle.lists.proofs.Sorting.{bit, count-map}
use Rattle.lists.proofs.Counts.{count_none}
use Rattle.lists.proofs.DistinctLists.{distinct_test}

-- the exchange of the last two places takes each sign to the next
signed-exchange : (m : ℕ) (face w : List ℕ) → Distinct w → 2 ≤ length w → has_signed m face (exchange_last w) ≡ has_signed (m + 1) face w
signed-exchange m face w d long =
    ap (λ (b : Bool). b && list_any (is_signed_face m face) (left_out (exchange_last w))) (distinct_test (exchange_last w) (Distinct-exchange w d))
    ∙ any_signed-exchange m face w d long
    ∙ sym (ap (λ (b : Bool). b && list_any (is_signed_face (m + 1) face) (left_out w)) (distinct_test w d))

module _ (p : Pieces) (laws : Laws p) where
  -- the places of a tuple's edges are different
  pub places_differ : (c : ℕ) (t : List ℕ) → In c p.cells → IsTuple p c t → Distinct (map (p.place c) t)
  places_differ c t i tuple = Distinct-map (p.place c) (p.local c) (λ e. p.is_bipolar c e ≡ true) (λ e b. laws.back c e i b) t tuple.bipolar tuple.distinct

  -- a placed tuple has the image of a face where the tuple has the face
  placed_signed : (c m : ℕ) (face t : List ℕ) → In c p.cells → sorted face ≡ face → AllBipolar p c face → IsTuple p c t → (odd : Bool) →
      has_signed m (sorted (map (p.place c) face)) (placed_tuple odd (p.place c) t) ≡ has_signed (m + inversions (map (p.place c) face) + bit odd) face t
  placed_signed c m face t i ascends bipolar tuple false =
      has_signed-map (p.place c) (p.local c) (λ e. p.is_bipolar c e ≡ true) (λ e b. laws.back c e i b) m face t ascends bipolar tuple.bipolar
      ∙ ap (λ (n : ℕ). has_signed n face t) (omega arith)
  placed_signed c m face t i ascends bipolar tuple true =
      let long : 2 ≤ length (map (p.place c) t) = omega (arith, tuple.long, length-map t (p.place c)) in
      signed-exchange m (sorted (map (p.place c) face)) (map (p.place c) t) (places_differ c t i tuple) long
      ∙ has_signed-map (p.place c) (p.local c) (λ e. p.is_bipolar c e ≡ true) (λ e b. laws.back c e i b) (m + 1) face t ascends bipolar tuple.bipolar
      ∙ ap (λ (n : ℕ). has_signed n face t) (omega arith)

  -- the cell's own part of a count
  pub own_count : (c m : ℕ) (face : List ℕ) → In c p.cells → sorted face ≡ face → AllBipolar p c face →
      count_by (has_signed m (sorted (map (p.place c) face))) (piece p c) ≡ local_count p c (m + inversions (map (p.place c) face) + bit (p.is_odd_cell c)) face
  own_count c m face i ascends bipolar =
      count-map (has_signed m (sorted (map (p.place c) face))) (placed_tuple (p.is_odd_cell c) (p.place c)) (p.entry c)
      ∙ count_same _ _ (p.entry c) (λ t j. placed_signed c m face t i ascends bipolar (laws.tuples c t i j) (p.is_odd_cell c))

  -- a part of a placed tuple is the image of a part of the tuple, in another order
  pub part_of_placed : (c : ℕ) (t l : List ℕ) (odd : Bool) → Part l (placed_tuple odd (p.place c) t)
      → (k : List ℕ) × Part k t × (sorted l ≡ sorted (map (p.place c) k))
  part_of_placed c t l false q = let r = Part-map (p.place c) t q in (r.0, r.1, ap sorted r.2)
  part_of_placed c t l true q =
      let r = Part-exchange (map (p.place c) t) q in
      let s = Part-map (p.place c) t r.1 in
      (s.0, s.1, r.2 ∙ ap sorted s.2)

  -- a simplex of a cell's piece that has a face has it from a part of a tuple
  from_signed : (d m : ℕ) (face w : List ℕ) → In w (piece p d) → has_signed m face w ≡ true →
      (t : List ℕ) × (k : List ℕ) × In t (p.entry d) × Part k t × (face ≡ sorted (map (p.place d) k))
  from_signed d m face w i h =
      let r = from_In-map (placed_tuple (p.is_odd_cell d) (p.place d)) (p.entry d) w i in
      let s = from_any (is_signed_face m face) (left_out w) (and_right (is_distinct w) _ h) in
      let q : Part s.0.1 (placed_tuple (p.is_odd_cell d) (p.place d) r.0) = subst (λ (v : List ℕ). Part s.0.1 v) r.2 (left_out-Part w s.0 s.1) in
      let u = part_of_placed d r.0 s.0.1 (p.is_odd_cell d) q in
      (r.0, u.0, r.1, u.1, sym ((bytes_eq-Decides (sorted s.0.1) face).0 (and_left (is_face face s.0) (not (is_odd (s.0.0 + inversions s.0.1 + m))) s.2)) ∙ u.2)

  -- then the cell has all the face's numbers
  has_all : (d m : ℕ) (face w : List ℕ) → In d p.cells → In w (piece p d) → has_signed m face w ≡ true → Each (Has p d) face
  has_all d m face w i j h =
      let r = from_signed d m face w j h in
      let bipolar = Part-Each (λ e. p.is_bipolar d e ≡ true) r.3 (laws.tuples d r.0 i r.2).bipolar in
      let all : Each (Has p d) (map (p.place d) r.1) =
      Each-map (Has p d) (p.place d) r.1 (Each-from_In _ r.1 (λ e k. (e, Each-In (λ x. p.is_bipolar d x ≡ true) r.1 bipolar e k, refl))) in
      subst (Each (Has p d)) (sym r.4) (Each-sorted (Has p d) _ all)

  -- a cell that does not have them all adds nothing
  pub adds_nothing : (d m : ℕ) (face : List ℕ) → In d p.cells → ¬ Each (Has p d) face → count_by (has_signed m face) (piece p d) ≡ 0
  adds_nothing d m face i lacks = count_none (has_signed m face) (piece p d) (λ w j h. lacks (has_all d m face w i j h))

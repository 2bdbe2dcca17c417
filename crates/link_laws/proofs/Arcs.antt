-- The triangles at a vertex, arc by arc: those of the cells of one arc are joined, and a step stays on its arc.
use Rattle.std.proofs.Common.{◌≡◌, ℕ, zero, suc, ◌+◌, ◌<◌, ◌≤◌, Bool, true, false, List, [], ◌∷◌, length, Option, Some, None, refl, ap, sym, ◌∙◌}
use Rattle.std.proofs.Common.{subst, arith, inl, inr}
use Rattle.std.specs.Prelude.{◌≢◌, ◌⊎◌, map}
use Rattle.std.proofs.lemmas.Bool.{cases_eq}
use Rattle.std.proofs.lemmas.Slice.Eq.{bytes_eq-Decides}
use Rattle.lists.specs.Orders.{sorted, is_distinct}
use Rattle.iso_model.specs.Placed.{placed_tuple}
use Rattle.mesh_laws.proofs.FaceSigns.{Part, rest, after, Part-Each, left_out, is_face, is_signed_face, has_at_a_place, has_signed, left_out-Part}
use Rattle.mesh_laws.proofs.FaceSigns.{face_signs_at}
use Rattle.mesh_laws.proofs.TakenMembers.{In-sorted, from_In-sorted}
use Rattle.mesh_laws.proofs.FaceOf.{face_place}
use Rattle.mesh_laws.proofs.SignedFaces.{has_face_is}
use Rattle.glue_laws.proofs.Pieces.{Pieces, Has, AllIn, piece, placed_simplices, placed_count, Laws}
use Rattle.glue_laws.proofs.SignCounts.{both_signs}
use Rattle.glue_laws.proofs.OneFace.{LocalFace, the_face, over, at_end}
use Rattle.glue_laws.proofs.FreePieces.{face_across, few_placed, alone_is_free}
use Rattle.glue_laws.proofs.GluedFaces.{lengths, distinct, source}
use Rattle.glue_laws.proofs.InOneCell.{Each-placed, In-placed}
use Rattle.link_laws.proofs.Readings.{Reading, pair, leaving, leaves, enters, has_reading, other_is}
use Rattle.link_laws.proofs.Links.{AreLinked, next, spokes, joined, one_reading}
use Rattle.link_laws.proofs.Walks.{Joined, itself, on, back}
use Rattle.lists.specs.Members.{In, Each}
use Rattle.lists.proofs.Tests.{and_left, and_right}
use Rattle.lists.proofs.MemberLaws.{In-map, from_any, In-flat_map, Each-In, Each-from_In}
use Rattle.lists.proofs.Sorting.{bit, put_in_comm}
use Rattle.lists.proofs.Counts.{count_some, from_count}
use Rattle.lists.proofs.DistinctLists.{from_distinct_test}

module _ (p : Pieces) where
  -- tuples of the cell c that have the edge e, each sharing with the next a further edge
  pub data Chained (c e : ℕ) : List ℕ → List ℕ → Type 0 where
    end : {t : List ℕ} → Chained c e t t
    link : {t u v : List ℕ} (x : ℕ) → In u (p.entry c) → In e u → x ≢ e → In x t → In x u → Chained c e u v → Chained c e t v

  -- the laws of three dimensions: tuples are triangles; those of a cell at an edge form one path, which ends in both facets that have the edge
  pub record LinkLaws : Type 0 where
    pub three : (c : ℕ) (t : List ℕ) → In c p.cells → In t (p.entry c) → length t ≡ 3
    pub one_path : (c e : ℕ) (t u : List ℕ) → In c p.cells → In t (p.entry c) → In u (p.entry c) → In e t → In e u → Chained c e t u
    pub ends : (c e f : ℕ) → In c p.cells → p.is_bipolar c e ≡ true → f < p.facets → p.in_facet f e ≡ true →
        (t : List ℕ) × (x : ℕ) × In t (p.entry c) × In e t × In x t × (x ≢ e) × (p.in_facet f x ≡ true)

  -- the facet f of c has the vertex k
  abbrev pub FacetHas : ℕ → ℕ → ℕ → Type 0
  FacetHas c f k = (e : ℕ) × (p.is_bipolar c e ≡ true) × (p.in_facet f e ≡ true) × (p.place c e ≡ k)

  -- kept cells, each with the next across a facet that has k
  pub data OnArc (k : ℕ) : ℕ → ℕ → Type 0 where
    stay : {c : ℕ} → OnArc k c c
    over_facet : {c d e : ℕ} (f g : ℕ) → f < p.facets → p.across c f ≡ Some (d, g) → FacetHas c f k → OnArc k d e → OnArc k c e

  -- the cell has a facet with the vertex k across which there is no kept cell
  abbrev pub FreeAt : ℕ → ℕ → Type 0
  FreeAt c k = (f : ℕ) × (f < p.facets) × (p.across c f ≡ None) × FacetHas c f k

  -- a tuple of a cell, placed
  abbrev pub at : ℕ → List ℕ → List ℕ
  at c t = placed_tuple (p.is_odd_cell c) (p.place c) t

  -- the step from spoke to spoke at a vertex, and the spokes there
  abbrev pub step : ℕ → ℕ → Option ℕ
  step k = next k (placed_simplices p)

  abbrev pub spokes_at : ℕ → List ℕ
  spokes_at k = spokes k (placed_simplices p)

  -- two spokes at a vertex are joined
  abbrev pub JoinedAt : ℕ → ℕ → ℕ → Type 0
  JoinedAt k = Joined (step k) (spokes_at k)

-- arcs join
pub arc_on : (p : Pieces) (k : ℕ) {c d e : ℕ} → OnArc p k c d → OnArc p k d e → OnArc p k c e
arc_on p k stay w = w
arc_on p k (over_facet f g hf is has v) w = over_facet f g hf is has (arc_on p k v w)

-- a part of a triangle with two given members
pub part_with : (t : List ℕ) (e x : ℕ) → length t ≡ 3 → In e t → In x t → x ≢ e → (l : List ℕ) × Part l t × ((l ≡ e ∷ x ∷ []) ⊎ (l ≡ x ∷ e ∷ []))
part_with [] e x h i j differ = absurd i
part_with (a ∷ []) e x h i j differ = absurd (omega (arith, h))
part_with (a ∷ b ∷ []) e x h i j differ = absurd (omega (arith, h))
part_with (a ∷ b ∷ c ∷ y ∷ w) e x h i j differ = absurd (omega (arith, h))
part_with (a ∷ b ∷ c ∷ []) e x h (inl i) (inl j) differ = absurd (differ (j ∙ sym i))
part_with (a ∷ b ∷ c ∷ []) e x h (inl i) (inr (inl j)) differ = (a ∷ b ∷ [], after (after rest), inl (rw (i, j) refl))
part_with (a ∷ b ∷ c ∷ []) e x h (inl i) (inr (inr (inl j))) differ = (a ∷ c ∷ [], after rest, inl (rw (i, j) refl))
part_with (a ∷ b ∷ c ∷ []) e x h (inr (inl i)) (inl j) differ = (a ∷ b ∷ [], after (after rest), inr (rw (i, j) refl))
part_with (a ∷ b ∷ c ∷ []) e x h (inr (inl i)) (inr (inl j)) differ = absurd (differ (j ∙ sym i))
part_with (a ∷ b ∷ c ∷ []) e x h (inr (inl i)) (inr (inr (inl j))) differ = (b ∷ c ∷ [], rest, inl (rw (i, j) refl))
part_with (a ∷ b ∷ c ∷ []) e x h (inr (inr (inl i))) (inl j) differ = (a ∷ c ∷ [], after rest, inr (rw (i, j) refl))
part_with (a ∷ b ∷ c ∷ []) e x h (inr (inr (inl i))) (inr (inl j)) differ = (b ∷ c ∷ [], rest, inr (rw (i, j) refl))
part_with (a ∷ b ∷ c ∷ []) e x h (inr (inr (inl i))) (inr (inr (inl j))) differ = absurd (differ (j ∙ sym i))
part_with (a ∷ b ∷ c ∷ []) e x h (inr (inr (inr i))) j differ = absurd i
part_with (a ∷ b ∷ c ∷ []) e x h i (inr (inr (inr j))) differ = absurd j

-- both are members of the part, what holds of both holds of each of its members, and its image is the pair of their images
pub pair_part : (l : List ℕ) (e x : ℕ) → (l ≡ e ∷ x ∷ []) ⊎ (l ≡ x ∷ e ∷ [])
    → In e l × In x l × ((D : ℕ → Type 0) → D e → D x → Each D l) × ((f : ℕ → ℕ) → sorted (map f l) ≡ pair (f e) (f x))
pair_part l e x (inl s) = (
  subst (In e) (sym s) (inl refl),
  subst (In x) (sym s) (inr (inl refl)),
  (λ D a b. subst (Each D) (sym s) (a, (b, tt))),
  λ f. ap (λ (v : List ℕ). sorted (map f v)) s,
)
pair_part l e x (inr s) = (
  subst (In e) (sym s) (inr (inl refl)),
  subst (In x) (sym s) (inl refl),
  (λ D a b. subst (Each D) (sym s) (b, (a, tt))),
  λ f. ap (λ (v : List ℕ). sorted (map f v)) s ∙ put_in_comm (f x) (f e) [],
)

-- a member of a part
Part-In : {l w : List ℕ} → Part l w → (x : ℕ) → In x l → In x w
Part-In {l} {w} q x i = Each-In (λ y. In y w) l (Part-Each (λ y. In y w) q (Each-from_In (λ y. In y w) w (λ y j. j))) x i

module _ (p : Pieces) (laws : Laws p) (links : LinkLaws p) where
  few_any_case : (m : ℕ) (face : List ℕ) (n : ℕ) → placed_count p m face ≡ n → placed_count p m face ≤ 1
  few_any_case m face zero e = omega (arith, e)
  few_any_case m face (suc n) e =
      let r = from_count (has_signed m face) (placed_simplices p) (omega (arith, e)) in
      let found : has_at_a_place face r.0 ≡ true =
      one_sign (has_at_a_place face r.0) (has_signed m face r.0) (has_signed (m + 1) face r.0) (face_signs_at m face r.0) r.2 in
      let k = face_place face r.0 (has_face_is face r.0 ∙ found) in
      let x = source p laws r.0 k.0 r.1 k.1 in
      subst (λ (v : List ℕ). placed_count p m v ≤ 1) (sym x.1 ∙ k.2) (few_placed p laws x.0 m)
    where
      one_sign : (c a b : Bool) → bit c ≡ bit a + bit b → a ≡ true → c ≡ true
      one_sign true a b e h = refl
      one_sign false true b e h = absurd (omega (arith, e))
      one_sign false false b e h = h

  -- no face of the placed simplices stands twice with one sign
  pub few_any : (m : ℕ) (face : List ℕ) → placed_count p m face ≤ 1
  few_any m face = few_any_case m face (placed_count p m face) refl

  -- so their triangles follow each other one by one
  pub are_linked : AreLinked (placed_simplices p)
  are_linked = record {
    distinct = λ w i. from_distinct_test w (distinct p laws w i);
    three = lengths p 3 links.three;
    few = few_any;
  }

  -- it is one of all simplices
  pub In-piece : (c : ℕ) (t : List ℕ) → In c p.cells → In t (p.entry c) → In (at p c t) (placed_simplices p)
  In-piece c t i j = In-flat_map (piece p) p.cells c (at p c t) i (In-map (placed_tuple (p.is_odd_cell c) (p.place c)) (p.entry c) t j)

  -- the place of an edge of a tuple is a number of the placed tuple
  pub In-at : (c : ℕ) (t : List ℕ) (e : ℕ) → In e t → In (p.place c e) (at p c t)
  In-at c t e i = In-placed (p.is_odd_cell c) (p.place c) t e i

  -- different edges of a cell have different places
  pub apart_places : (c e x : ℕ) → In c p.cells → p.is_bipolar c e ≡ true → p.is_bipolar c x ≡ true → x ≢ e → p.place c x ≢ p.place c e
  apart_places c e x i be bx differ same = differ (sym (laws.back c x i bx) ∙ ap (p.local c) same ∙ laws.back c e i be)

  -- two placed tuples that share the places of two edges are joined at the first
  pub meet : (c d : ℕ) (t u : List ℕ) (k x : ℕ) → In c p.cells → In d p.cells → In t (p.entry c) → In u (p.entry d) → In k (at p c t)
      → In x (at p c t) → In k (at p d u) → In x (at p d u) → x ≢ k →
      (a b r s : ℕ) → Reading k a b (at p c t) → Reading k r s (at p d u) → JoinedAt p k a r
  meet c d t u k x ic id it iu kt xt ku xu differ a b r s v w =
      joined k (placed_simplices p) are_linked (at p c t) (at p d u) a b r s x (In-piece c t ic it) (In-piece d u id iu) v w xt xu differ

  -- a placed tuple at a vertex has a reading
  pub reading_at : (c : ℕ) (t : List ℕ) (k : ℕ) → In c p.cells → In t (p.entry c) → In k (at p c t) → (a : ℕ) × (b : ℕ) × Reading k a b (at p c t)
  reading_at c t k i j h = has_reading k (at p c t) (are_linked.three (at p c t) (In-piece c t i j)) h

  -- one joined to the next
  pub then_joined : (k a b c : ℕ) → JoinedAt p k a b → JoinedAt p k b c → JoinedAt p k a c
  then_joined k a b c itself w = w
  then_joined k a b c (on is v) w = on is (then_joined k _ b c v w)
  then_joined k a b c (back i is v) w = back i is (then_joined k _ b c v w)

  -- the triangles of one cell at an edge are joined
  chain_joined : (c e : ℕ) (i : In c p.cells) (be : p.is_bipolar c e ≡ true) (t u : List ℕ) → Chained p c e t u → In t (p.entry c) → In e t →
      (a b r s : ℕ) → Reading (p.place c e) a b (at p c t) → Reading (p.place c e) r s (at p c u) →
      JoinedAt p (p.place c e) a r
  chain_joined c e i be t _ end it et a b r s v w =
      let h = one_reading (p.place c e) (placed_simplices p) are_linked (at p c t) a b r s (In-piece c t i it) v w in
      subst (JoinedAt p (p.place c e) a) h.0 itself
  chain_joined c e i be t u (link {u = m} x im em differ xt xm more) it et a b r s v w =
      let n = reading_at c m (p.place c e) i im (In-at c m e em) in
      let bx = Each-In (λ y. p.is_bipolar c y ≡ true) m (laws.tuples c m i im).bipolar x xm in
      then_joined (p.place c e) a n.0 r
      (meet c c t m (p.place c e) (p.place c x) i i it im (In-at c t e et) (In-at c t x xt) (In-at c m e em) (In-at c m x xm)
      (apart_places c e x i be bx differ) a b n.0 n.1 v n.2)
      (chain_joined c e i be m u more im em n.0 n.1 r s n.2 w)

  -- a number of a placed tuple is the place of one of its edges
  pub edge_of : (c k : ℕ) (t : List ℕ) → In c p.cells → In t (p.entry c) → In k (at p c t) → (e : ℕ) × In e t × (p.place c e ≡ k)
  edge_of c k t i it kt =
      Each-In (λ z. (e : ℕ) × In e t × (p.place c e ≡ z)) (at p c t)
      (Each-placed (λ z. (e : ℕ) × In e t × (p.place c e ≡ z)) (p.is_odd_cell c) (p.place c) t
      (Each-from_In (λ y. (e : ℕ) × In e t × (p.place c e ≡ p.place c y)) t (λ y j. (y, j, refl))))
      k kt

  -- the triangles of one cell at a vertex are joined
  pub in_cell_joined : (k c : ℕ) → In c p.cells → (t u : List ℕ) → In t (p.entry c) → In u (p.entry c) → In k (at p c t) → In k (at p c u) →
      (a b r s : ℕ) → Reading k a b (at p c t) → Reading k r s (at p c u) → JoinedAt p k a r
  in_cell_joined k c i t u it iu kt ku a b r s v w =
      let x = edge_of c k t i it kt in
      let y = edge_of c k u i iu ku in
      let bx = Each-In (λ z. p.is_bipolar c z ≡ true) t (laws.tuples c t i it).bipolar x.0 x.1 in
      let by = Each-In (λ z. p.is_bipolar c z ≡ true) u (laws.tuples c u i iu).bipolar y.0 y.1 in
      let one : y.0 ≡ x.0 = sym (laws.back c y.0 i by) ∙ ap (p.local c) (y.2 ∙ sym x.2) ∙ laws.back c x.0 i bx in
      subst (λ (z : ℕ). Reading z a b (at p c t) → Reading z r s (at p c u) → JoinedAt p z a r) x.2
      (λ v' w'. chain_joined c x.0 i bx t u (links.one_path c x.0 t u i it iu x.1 (subst (λ (z : ℕ). In z u) one y.1)) it x.1 a b r s v' w') v w

  -- what the seam takes to the other cell is there, at the same places
  seen : (x : LocalFace p) (f d g : ℕ) → f < p.facets → AllIn p f x.part → p.across x.cell f ≡ Some (d, g) → (u m : List ℕ) → Part m u → sorted m ≡ over p x f →
      (y : ℕ) → In y x.part → In (p.place x.cell y) (at p d u)
  seen x f d g hf lies is_over u m q is y j =
      let bipolar = Part-Each (λ e. p.is_bipolar x.cell e ≡ true) x.is_part (laws.tuples x.cell x.tuple x.is_cell x.is_tuple).bipolar in
      let keeps =
      laws.seam_keeps x.cell f d g y x.is_cell hf is_over (Each-In (λ e. p.is_bipolar x.cell e ≡ true) x.part bipolar y j)
      (Each-In (λ e. p.in_facet f e ≡ true) x.part lies y j) in
      let in_over : In (p.seam x.cell f y) (over p x f) = In-map (p.seam x.cell f) (sorted x.part) y (In-sorted y x.part j) in
      let in_m : In (p.seam x.cell f y) m = from_In-sorted (p.seam x.cell f y) m (subst (In (p.seam x.cell f y)) (sym is) in_over) in
      subst (λ (z : ℕ). In z (at p d u)) keeps.2 (In-at d u (p.seam x.cell f y) (Part-In q (p.seam x.cell f y) in_m))

  -- across a facet that has the edge stands a triangle that shares a face with one of this cell
  record Partner (c e d : ℕ) : Type 0 where
    tuple : List ℕ
    is_tuple : In tuple (p.entry c)
    has_edge : In e tuple
    edge : ℕ
    has_other : In edge tuple
    differs : edge ≢ e
    there : List ℕ
    is_there : In there (p.entry d)
    edge_there : In (p.place c e) (at p d there)
    other_there : In (p.place c edge) (at p d there)

  partner : (c e f d g : ℕ) → In c p.cells → p.is_bipolar c e ≡ true → f < p.facets → p.in_facet f e ≡ true → p.across c f ≡ Some (d, g) → Partner c e d
  partner c e f d g i be hf fe is_over =
      let q = links.ends c e f i be hf fe in
      let l = part_with q.0 e q.1 (links.three c q.0 i q.2) q.3 q.4 q.5 in
      let two = pair_part l.0 e q.1 l.2 in
      let lies : AllIn p f l.0 = two.2 (λ y. p.in_facet f y ≡ true) fe q.6 in
      let x : LocalFace p = record { cell = c; tuple = q.0; part = l.0; is_cell = i; is_tuple = q.2; is_part = l.1 } in
      let h = face_across p laws x f d g hf lies is_over in
      let there_has : (y : ℕ) → In y l.0 → In (p.place c y) (at p d h.tuple) = seen x f d g hf lies is_over h.tuple h.part h.is_part h.is_over in
      record {
        tuple = q.0;
        is_tuple = q.2;
        has_edge = q.3;
        edge = q.1;
        has_other = q.4;
        differs = q.5;
        there = h.tuple;
        is_there = h.is_tuple;
        edge_there = there_has e two.0;
        other_there = there_has q.1 two.1;
      }

  -- the triangles at k of the cells of one arc are joined
  pub arc_joined : (k : ℕ) {c d : ℕ} → OnArc p k c d → In c p.cells → In d p.cells → (t u : List ℕ) → In t (p.entry c) → In u (p.entry d)
      → In k (at p c t) → In k (at p d u) →
      (a b r s : ℕ) → Reading k a b (at p c t) → Reading k r s (at p d u) → JoinedAt p k a r
  arc_joined k (stay {c = c}) i j t u it iu kt ku a b r s v w = in_cell_joined k c i t u it iu kt ku a b r s v w
  arc_joined k (over_facet {c = c} {d = m} f g hf is has more) i j t u it iu kt ku a b r s v w =
      let im : In m p.cells = (laws.leads_back c f m g i hf is).0 in
      let q = partner c has.0 f m g i has.1 hf has.2 is in
      let k_own : In k (at p c q.tuple) = subst (λ (z : ℕ). In z (at p c q.tuple)) has.3 (In-at c q.tuple has.0 q.has_edge) in
      let k_there : In k (at p m q.there) = subst (λ (z : ℕ). In z (at p m q.there)) has.3 q.edge_there in
      let own = reading_at c q.tuple k i q.is_tuple k_own in
      let new = reading_at m q.there k im q.is_there k_there in
      let bx = Each-In (λ y. p.is_bipolar c y ≡ true) q.tuple (laws.tuples c q.tuple i q.is_tuple).bipolar q.edge q.has_other in
      let differ : p.place c q.edge ≢ k = λ z. apart_places c has.0 q.edge i has.1 bx q.differs (z ∙ sym has.3) in
      then_joined k a own.0 r (in_cell_joined k c i t q.tuple it q.is_tuple kt k_own a b own.0 own.1 v own.2)
      (then_joined k own.0 new.0 r
      (meet c m q.tuple q.there k (p.place c q.edge) i im q.is_tuple q.is_there k_own (In-at c q.tuple q.edge q.has_other) k_there q.other_there
      differ own.0 own.1 new.0 new.1 own.2 new.2)
      (arc_joined k more im j q.there u q.is_there iu k_there ku new.0 new.1 r s new.2 w))

  -- ---- a step stays on its arc

  -- the cells of two triangles that share a vertex and a further number stand on one arc
  pub step_on_arc : (c d : ℕ) (t u : List ℕ) (k x : ℕ) → In c p.cells → In d p.cells → In t (p.entry c) → In u (p.entry d) → In k (at p c t)
      → In x (at p c t) → In k (at p d u) → In x (at p d u) → x ≢ k → OnArc p k c d
  step_on_arc c d t u k x ic id it iu kt xt ku xu differ = elim (cases_eq c d) [
    | inl e ↦ subst (OnArc p k c) e stay
    | inr apart ↦ (let a = edge_of c k t ic it kt in
        let b = edge_of c x t ic it xt in
        let ba = Each-In (λ z. p.is_bipolar c z ≡ true) t (laws.tuples c t ic it).bipolar a.0 a.1 in
        let bb = Each-In (λ z. p.is_bipolar c z ≡ true) t (laws.tuples c t ic it).bipolar b.0 b.1 in
        let edges_differ : b.0 ≢ a.0 = λ e. differ (sym b.2 ∙ ap (p.place c) e ∙ a.2) in
        let l = part_with t a.0 b.0 (links.three c t ic it) a.1 b.1 edges_differ in
        let two = pair_part l.0 a.0 b.0 l.2 in
        let s = laws.shares c d l.0 ic id apart (two.2 (λ z. p.is_bipolar c z ≡ true) ba bb)
        (two.2 (λ z. Has p d (p.place c z)) (subst (Has p d) (sym a.2) (has_of d k u id iu ku)) (subst (Has p d) (sym b.2) (has_of d x u id iu xu))) in
        let r = s.3 (λ g h all. laws.one_facet c t l.0 g s.0 ic it l.1 h s.1 all s.2) in
        over_facet s.0 r.0 s.1 r.1 (a.0, ba, Each-In (λ z. p.in_facet s.0 z ≡ true) l.0 s.2 a.0 two.0, a.2) stay)
  ]
    where
      has_of : (d' y : ℕ) (u' : List ℕ) → In d' p.cells → In u' (p.entry d') → In y (at p d' u') → Has p d' y
      has_of d' y u' i j h = let a = edge_of d' y u' i j h in (a.0, Each-In (λ z. p.is_bipolar d' z ≡ true) u' (laws.tuples d' u' i j).bipolar a.0 a.1, a.2)

  -- ---- a face that only one triangle has

  both_clash : (a b c : Bool) → bit c ≡ bit a + bit b → a ≡ true → b ≡ true → ⊥
  both_clash true true true e f g = omega (arith, e)
  both_clash true true false e f g = omega (arith, e)
  both_clash true false c e f g = cc
  both_clash false b c e f g = cc

  -- a triangle with the other sign at q comes in by q
  pub entering_reads : (k q : ℕ) (v : List ℕ) → In v (placed_simplices p) → has_signed (leaving k q + 1) (pair k q) v ≡ true → k ≢ q → (r : ℕ) × Reading k r q v
  entering_reads k q v i h differ =
      let s = from_any (is_signed_face (leaving k q + 1) (pair k q)) (left_out v) (and_right (is_distinct v) _ h) in
      let same_face : sorted s.0.1 ≡ pair k q = (bytes_eq-Decides (sorted s.0.1) (pair k q)).0 (and_left (is_face (pair k q) s.0) _ s.2) in
      let in_v : (y : ℕ) → In y (k ∷ q ∷ []) → In y v =
      λ y j. Part-In (left_out-Part v s.0 s.1) y (from_In-sorted y s.0.1 (subst (In y) (sym same_face) (In-sorted y (k ∷ q ∷ []) j))) in
      let a = has_reading k v (are_linked.three v i) (in_v k (inl refl)) in
      elim (other_is k a.0 a.1 q a.2 (in_v q (inr (inl refl))) (λ e. differ (sym e))) [
        | inl e ↦ absurd (both_clash (has_signed (leaving k q) (pair k q) v) (has_signed (leaving k q + 1) (pair k q) v) (has_at_a_place (pair k q) v)
            (face_signs_at (leaving k q) (pair k q) v)
            (leaves k q a.1 (subst (λ (y : ℕ). Reading k y a.1 v) (sym e) a.2) (are_linked.distinct v i)) h)
        | inr e ↦ (a.0, subst (λ (y : ℕ). Reading k a.0 y v) (sym e) a.2)
      ]

  -- the face at k and x of a placed triangle
  pub record FaceAt (c : ℕ) (t : List ℕ) (k x : ℕ) : Type 0 where
    pub edge : ℕ
    pub has_edge : In edge t
    pub edge_place : p.place c edge ≡ k
    pub part : List ℕ
    pub is_part : Part part t
    pub in_part : In edge part
    pub face_is : sorted (map (p.place c) part) ≡ pair k x

  -- it has one
  pub face_at : (c : ℕ) (t : List ℕ) (k x : ℕ) → In c p.cells → In t (p.entry c) → In k (at p c t) → In x (at p c t) → x ≢ k → FaceAt c t k x
  face_at c t k x i it kt xt differ =
      let a = edge_of c k t i it kt in
      let b = edge_of c x t i it xt in
      let l = part_with t a.0 b.0 (links.three c t i it) a.1 b.1 (λ e. differ (sym b.2 ∙ ap (p.place c) e ∙ a.2)) in
      let two = pair_part l.0 a.0 b.0 l.2 in
      record {
        edge = a.0;
        has_edge = a.1;
        edge_place = a.2;
        part = l.0;
        is_part = l.1;
        in_part = two.0;
        face_is = two.3 (p.place c) ∙ ap (λ (v : ℕ). pair v (p.place c b.0)) a.2 ∙ ap (pair k) b.2;
      }

  -- where a face has one sign only, its cell has a free facet there
  pub alone_at : (c : ℕ) (t : List ℕ) (k x m : ℕ) → In c p.cells → In t (p.entry c) → In k (at p c t) → In x (at p c t) → x ≢ k
      → placed_count p m (pair k x) ≡ 0 → FreeAt p c k
  alone_at c t k x m i it kt xt differ none =
      let fa = face_at c t k x i it kt xt differ in
      let g =
      alone_is_free p laws (record { cell = c; tuple = t; part = fa.part; is_cell = i; is_tuple = it; is_part = fa.is_part }) m
      (subst (λ (v : List ℕ). placed_count p m v ≡ 0) (sym fa.face_is) none) in (
        g.0,
        g.1,
        g.3,
        (
          fa.edge,
          Each-In (λ z. p.is_bipolar c z ≡ true) t (laws.tuples c t i it).bipolar fa.edge fa.has_edge,
          Each-In (λ z. p.in_facet g.0 z ≡ true) fa.part g.2 fa.edge fa.in_part,
          fa.edge_place,
        ),
      )

  -- a free facet gives a triangle that no other comes before, or that no other follows
  pub record AtEnd (c k : ℕ) : Type 0 where
    pub tuple : List ℕ
    pub is_tuple : In tuple (p.entry c)
    pub leaves_by : ℕ
    pub enters_by : ℕ
    pub reads : Reading k leaves_by enters_by (at p c tuple)
    pub alone :
        ((v : List ℕ) (r : ℕ) → In v (placed_simplices p) → ¬ Reading k r leaves_by v)
        ⊎ ((v : List ℕ) (r : ℕ) → In v (placed_simplices p) → ¬ Reading k enters_by r v)

  -- it has one
  pub at_free : (c k : ℕ) → In c p.cells → FreeAt p c k → AtEnd c k
  at_free c k i free =
      let e = free.3 in
      let q = links.ends c e.0 free.0 i e.1 free.1 e.2 in
      let l = part_with q.0 e.0 q.1 (links.three c q.0 i q.2) q.3 q.4 q.5 in
      let two = pair_part l.0 e.0 q.1 l.2 in
      let lies : AllIn p free.0 l.0 = two.2 (λ y. p.in_facet free.0 y ≡ true) e.2 q.6 in
      let bx = Each-In (λ z. p.is_bipolar c z ≡ true) q.0 (laws.tuples c q.0 i q.2).bipolar q.1 q.4 in
      let x : LocalFace p = record { cell = c; tuple = q.0; part = l.0; is_cell = i; is_tuple = q.2; is_part = l.1 } in
      let face_is : the_face p x ≡ pair k (p.place c q.1) = two.3 (p.place c) ∙ ap (λ (v : ℕ). pair v (p.place c q.1)) e.3 in
      let once : placed_count p 0 (pair k (p.place c q.1)) + placed_count p 1 (pair k (p.place c q.1)) ≡ 1 =
      subst (λ (v : List ℕ). placed_count p 0 v + placed_count p 1 v ≡ 1) face_is (at_end p laws x free.0 free.1 lies free.2) in
      let kt : In k (at p c q.0) = subst (λ (z : ℕ). In z (at p c q.0)) e.3 (In-at c q.0 e.0 q.3) in
      let differ : p.place c q.1 ≢ k = λ z. apart_places c e.0 q.1 i e.1 bx q.5 (z ∙ sym e.3) in
      let r = reading_at c q.0 k i q.2 kt in
      record {
        tuple = q.0;
        is_tuple = q.2;
        leaves_by = r.0;
        enters_by = r.1;
        reads = r.2;
        alone =
            one_side (at p c q.0) k (p.place c q.1) r.0 r.1 (In-piece c q.0 i q.2) r.2
            (other_is k r.0 r.1 (p.place c q.1) r.2 (In-at c q.0 q.1 q.4) differ) once;
      }
    where
      one_side : (w : List ℕ) (k' x a b : ℕ) → In w (placed_simplices p) → Reading k' a b w → (x ≡ a) ⊎ (x ≡ b)
          → placed_count p 0 (pair k' x) + placed_count p 1 (pair k' x) ≡ 1 →
          ((v : List ℕ) (r : ℕ) → In v (placed_simplices p) → ¬ Reading k' r a v) ⊎ ((v : List ℕ) (r : ℕ) → In v (placed_simplices p) → ¬ Reading k' b r v)
      one_side w k' x a b j r (inl s) once = inl (λ v c' jv rv.
          let both = both_signs (pair k' a) (placed_simplices p) (leaving k' a) (leaving k' a + 1) refl in
          let once' : placed_count p 0 (pair k' a) + placed_count p 1 (pair k' a) ≡ 1 =
          subst (λ (z : ℕ). placed_count p 0 (pair k' z) + placed_count p 1 (pair k' z) ≡ 1) s once in
          let one : 1 ≤ placed_count p (leaving k' a) (pair k' a) =
          count_some (has_signed (leaving k' a) (pair k' a)) (placed_simplices p) w j (leaves k' a b r (are_linked.distinct w j)) in
          let more : 1 ≤ placed_count p (leaving k' a + 1) (pair k' a) =
          count_some (has_signed (leaving k' a + 1) (pair k' a)) (placed_simplices p) v jv (enters k' c' a rv (are_linked.distinct v jv)) in
          absurd (omega (arith, both, once', one, more)))
      one_side w k' x a b j r (inr s) once = inr (λ v c' jv rv.
          let both = both_signs (pair k' b) (placed_simplices p) (leaving k' b) (leaving k' b + 1) refl in
          let once' : placed_count p 0 (pair k' b) + placed_count p 1 (pair k' b) ≡ 1 =
          subst (λ (z : ℕ). placed_count p 0 (pair k' z) + placed_count p 1 (pair k' z) ≡ 1) s once in
          let one : 1 ≤ placed_count p (leaving k' b + 1) (pair k' b) =
          count_some (has_signed (leaving k' b + 1) (pair k' b)) (placed_simplices p) w j (enters k' a b r (are_linked.distinct w j)) in
          let more : 1 ≤ placed_count p (leaving k' b) (pair k' b) =
          count_some (has_signed (leaving k' b) (pair k' b)) (placed_simplices p) v jv (leaves k' b c' rv (are_linked.distinct v jv)) in
          absurd (omega (arith, both, once', one, more)))

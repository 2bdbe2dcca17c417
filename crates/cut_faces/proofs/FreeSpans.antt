-- The span of a face of the cut is a side with count 1 exactly where the face lies on a side across which there is nothing.
use Rattle.std.proofs.Common.{◌≡◌, ◌≢◌, ℕ, ◌<◌, Bool, true, false, List, [], ◌∷◌, length, refl, inl, inr, ap, sym, ◌∙◌, subst, arith}
use Rattle.std.specs.Prelude.{flat_map, Contains, slice_index, if◌then◌else◌}
use Rattle.lists.specs.Orders.{numbers, has, sorted}
use Rattle.lists.specs.Members.{In, Each, Distinct, Ascends}
use Rattle.lists.proofs.Ascending.{same_members}
use Rattle.lists.proofs.Counts.{from_count, never_there}
use Rattle.lists.proofs.Contained.{any_default}
use Rattle.lists.proofs.MemberLaws.{In_place, Contains_from, In-flat_map, from_In-flat_map, from_In-map, In-numbers, from_In-numbers, Each-In, Each-from_In, In_of_has, not_In_of_has}
use Rattle.iso_model.specs.declared.Kind.TheVariants.{Simplex}
use Rattle.iso_model.specs.Cells.{edge_ends, edge_in_facet}
use Rattle.iso_model.specs.Faces.{has_face, face_count}
use Rattle.iso_model.specs.Tables.{Table}
use Rattle.mesh_laws.proofs.TakenMembers.{In-sorted, from_In-sorted}
use Rattle.mesh_laws.proofs.FaceLists.{sorted_ascends}
use Rattle.glue_laws.proofs.Pieces.{OnFree}
use Rattle.cut_laws.specs.declared.Link.{Link}
use Rattle.cut_laws.specs.Cuts.{link_at, links_below, number_in, without_repeats, ends_of, span}
use Rattle.cut_laws.specs.CutSteps.{IsSimplex, is_parted}
use Rattle.cut_laws.proofs.FoundLinks.{four_in_order, members_edge, link_ends}
use Rattle.cut_faces.proofs.Sides.{side, side_ascends, side_in, side_found, left_out, kept, corners_four, from_In-without}
use Rattle.cut_faces.proofs.MeshSides.{simplex_at, side_at, simplex_is, none_across}
use Rattle.cut_faces.proofs.SeamEdges.{IsEnd, corner_met, ends_few, from_in_facet, in_facet_from}
use Rattle.cut_faces.proofs.CutLinks.{link_of, is_linked, from_linked, to_linked, numbered, is_a_link}
use Rattle.cut_faces.proofs.CutPieces.{cut_pieces}
use Rattle.cut_faces.proofs.LawfulCut.{IsGluedMesh}

-- ---- the members of a span

In-once : (xs : List ℕ) (y : ℕ) → In y xs → In y (without_repeats xs)
In-once [] y i = i
In-once (x ∷ xs) y i = go (has xs x) refl i (In-once xs y)
  where
    go : (b : Bool) → has xs x ≡ b → In y (x ∷ xs) → (In y xs → In y (without_repeats xs))
        → In y (if b then without_repeats xs else x ∷ without_repeats xs)
    go true h (inl e) later = later (subst (λ (z : ℕ). In z xs) (sym e) (In_of_has xs x h))
    go true h (inr j) later = later j
    go false h (inl e) later = inl e
    go false h (inr j) later = inr (later j)

from_In-once : (xs : List ℕ) (y : ℕ) → In y (without_repeats xs) → In y xs
from_In-once [] y i = i
from_In-once (x ∷ xs) y i = go (has xs x) i (from_In-once xs y)
  where
    go : (b : Bool) → In y (if b then without_repeats xs else x ∷ without_repeats xs) → (In y (without_repeats xs) → In y xs) → In y (x ∷ xs)
    go true j later = inr (later j)
    go false (inl e) later = inl e
    go false (inr j) later = inr (later j)

Distinct-once : (xs : List ℕ) → Distinct (without_repeats xs)
Distinct-once [] = tt
Distinct-once (x ∷ xs) = go (has xs x) refl (Distinct-once xs)
  where
    go : (b : Bool) → has xs x ≡ b → Distinct (without_repeats xs) → Distinct (if b then without_repeats xs else x ∷ without_repeats xs)
    go true h later = later
    go false h later = (never_there x (without_repeats xs) (λ i. not_In_of_has xs x h (from_In-once xs x i)), later)

span_ascends : (ls : List Link) (face : List ℕ) → Ascends (span ls face)
span_ascends ls face = sorted_ascends (without_repeats (flat_map (ends_of ls) face)) (Distinct-once (flat_map (ends_of ls) face))

In-span : (ls : List Link) (face : List ℕ) (k x : ℕ) → In k face → In x (ends_of ls k) → In x (span ls face)
In-span ls face k x i j =
    In-sorted x (without_repeats (flat_map (ends_of ls) face)) (In-once (flat_map (ends_of ls) face) x (In-flat_map (ends_of ls) face k x i j))

from_In-span : (ls : List Link) (face : List ℕ) (x : ℕ) → In x (span ls face) → (k : ℕ) × In k face × In x (ends_of ls k)
from_In-span ls face x i =
    from_In-flat_map (ends_of ls) face x (from_In-once (flat_map (ends_of ls) face) x (from_In-sorted x (without_repeats (flat_map (ends_of ls) face)) i))

-- ---- faces of the cut

module _ (n : ℕ) (late : ℕ → Bool) (S : List (List ℕ)) (t : Table) (mesh : IsGluedMesh n S) where
  abbrev ls : List Link
  ls = links_below n late S

  -- the numbers of two links or more
  pub record AreNumbers (face : List ℕ) : Type 0 where
    pub first : ℕ
    pub second : ℕ
    pub first_in : In first face
    pub second_in : In second face
    pub apart : first ≢ second
    pub links : (k : ℕ) → In k face → (l : Link) × Contains (links_below n late S) l × (number_in (links_below n late S) l ≡ k)

  -- the ends of the link with a number
  at_number : (k : ℕ) (l : Link) → Contains ls l → number_in ls l ≡ k → link_of ls k ≡ l
  at_number k l c e = ap (link_of ls) (sym e) ∙ numbered n late S mesh.simplices l c

  -- a local edge of side f of simplex c with this number
  abbrev IsOnSide : ℕ → ℕ → ℕ → Type 0
  IsOnSide c f k =
      (e : ℕ) × (is_linked late (simplex_at S c) e ≡ true) × (edge_in_facet Simplex 3 f e ≡ true) × (number_in (links_below n late S) (link_at (simplex_at S c) e) ≡ k)

  -- where all numbers of a face are those of local edges of a side, the span is the side
  module _ (face : List ℕ) (are : AreNumbers face) (c f : ℕ) (hc : c < length S) (hf : f < 4) (lies : Each (IsOnSide c f) face) where
    abbrev v : List ℕ
    v = simplex_at S c

    is : IsSimplex n (simplex_at S c)
    is = simplex_is S n mesh.simplices mesh.glued c hc

    at : (k : ℕ) → In k face → IsOnSide c f k
    at k i = Each-In (IsOnSide c f) face lies k i

    link_is : (k : ℕ) (i : In k face) → link_of ls k ≡ link_at v (at k i).0
    link_is k i =
        let r = at k i in
        at_number k (link_at v r.0) (is_a_link n late S mesh.simplices v r.0 (In_place S c hc) r.1) r.3

    to_side : (x : ℕ) → In x (span ls face) → In x (side v f)
    to_side x i =
        let r = from_In-span ls face x i in
        let e = at r.0 r.1 in
        let few = ends_few e.0 (from_linked late v e.0 e.1).0 in
        let off = from_in_facet f e.0 e.2 in
        by_ends e.0 few off (subst (λ (l : Link). In x (l.low ∷ l.high ∷ [])) (link_is r.0 r.1) r.2)
      where
        by_ends : (e : ℕ) → ((edge_ends Simplex 3 e).0 < 4) × ((edge_ends Simplex 3 e).1 < 4) → ((edge_ends Simplex 3 e).0 ≢ f) × ((edge_ends Simplex 3 e).1 ≢ f)
            → In x ((link_at v e).low ∷ (link_at v e).high ∷ []) → In x (side v f)
        by_ends e few off (inl p) = subst (λ (y : ℕ). In y (side v f)) (sym p) (kept n v is f (edge_ends Simplex 3 e).0 few.0 off.0)
        by_ends e few off (inr (inl p)) = subst (λ (y : ℕ). In y (side v f)) (sym p) (kept n v is f (edge_ends Simplex 3 e).1 few.1 off.1)
        by_ends e few off (inr (inr none)) = absurd none

    from_side : (x : ℕ) → In x (side v f) → In x (span ls face)
    from_side x i =
        let c' = Contains_from (sorted v) x (from_In-without (sorted v) f x i) in
        let same : slice_index (sorted v) c'.0 ≡ x = any_default (sorted v) c'.0 0 x c'.1 ∙ c'.2 in
        let few : c'.0 < 4 = omega (arith, c'.1, corners_four n v is) in
        let apart : c'.0 ≢ f = λ e. left_out n v is f hf (subst (λ (y : ℕ). In y (side v f)) (sym same ∙ ap (slice_index (sorted v)) e) i) in
        let a = at are.first are.first_in in
        let b = at are.second are.second_in in
        let differ : a.0 ≢ b.0 = λ e. are.apart (sym a.3 ∙ ap (λ (k : ℕ). number_in ls (link_at v k)) e ∙ b.3) in
        let met =
        corner_met f a.0 b.0 c'.0 hf (from_linked late v a.0 a.1).0 (from_linked late v b.0 b.1).0 few a.2 b.2 differ apart in
        elim met as (λ _. In x (span ls face)) [
          | inl p ↦ In-span ls face are.first x are.first_in (subst (λ (l : Link). In x (l.low ∷ l.high ∷ [])) (sym (link_is are.first are.first_in)) (end_in a.0 c'.0 same p))
          | inr p ↦ In-span ls face are.second x are.second_in (subst (λ (l : Link). In x (l.low ∷ l.high ∷ [])) (sym (link_is are.second are.second_in)) (end_in b.0 c'.0 same p))
        ]
      where
        end_in : (e k : ℕ) → slice_index (sorted v) k ≡ x → IsEnd k e → In x ((link_at v e).low ∷ (link_at v e).high ∷ [])
        end_in e k same (inl p) = inl (sym same ∙ ap (slice_index (sorted v)) (sym p))
        end_in e k same (inr p) = inr (inl (sym same ∙ ap (slice_index (sorted v)) (sym p)))

    pub span_is_side : span (links_below n late S) face ≡ side_at S c f
    span_is_side = same_members (span ls face) (side v f) (span_ascends ls face) (side_ascends n v is f) to_side from_side

  -- on a side across which there is nothing: the span is that side, which has count 1
  pub free_from_pieces : (face : List ℕ) → AreNumbers face → OnFree (cut_pieces n late S t) face → face_count S (span (links_below n late S) face) ≡ 1
  free_from_pieces face are on =
      let hc = from_In-numbers (length S) on.cell on.is_cell in
      let lies : Each (IsOnSide on.cell on.facet) face =
      on.lies in
      ap (face_count S) (span_is_side face are on.cell on.facet hc on.is_facet lies)
      ∙ (none_across S n mesh.simplices mesh.glued on.cell on.facet hc on.is_facet).0 on.none_across

  -- a span with count 1 is such a side
  pub pieces_from_free : (face : List ℕ) → AreNumbers face → face_count S (span (links_below n late S) face) ≡ 1 → OnFree (cut_pieces n late S t) face
  pieces_from_free face are one =
      let r = from_count (has_face (span ls face)) S (omega (arith, one)) in
      let p = Contains_from S r.0 r.1 in
      let w : simplex_at S p.0 ≡ r.0 = any_default S p.0 [] r.0 p.1 ∙ p.2 in
      let has : has_face (span ls face) (simplex_at S p.0) ≡ true = ap (has_face (span ls face)) w ∙ r.2 in
      let s = side_found n (simplex_at S p.0) (simplex_is S n mesh.simplices mesh.glued p.0 p.1) (span ls face) has in
      record {
        cell = p.0;
        facet = s.0;
        is_cell = In-numbers (length S) p.0 p.1;
        is_facet = s.1;
        none_across = (none_across S n mesh.simplices mesh.glued p.0 s.0 p.1 s.1).1 (ap (face_count S) s.2 ∙ one);
        lies = Each-from_In (IsOnSide p.0 s.0) face (λ k i. on_side p.0 s.0 p.1 s.1 s.2 k i);
      }
    where
      on_side : (c f : ℕ) → c < length S → f < 4 → side_at S c f ≡ span ls face → (k : ℕ) → In k face → IsOnSide c f k
      on_side c f hc hf same k i =
          let v = simplex_at S c in
          let iv = simplex_is S n mesh.simplices mesh.glued c hc in
          let r = are.links k i in
          let l = r.0 in
          let link : link_of ls k ≡ l = at_number k l r.1 r.2 in
          let low : In l.low (side v f) =
          subst (In l.low) (sym same) (In-span ls face k l.low i (subst (λ (m : Link). In l.low (m.low ∷ m.high ∷ [])) (sym link) (inl refl))) in
          let high : In l.high (side v f) =
          subst (In l.high) (sym same) (In-span ls face k l.high i (subst (λ (m : Link). In l.high (m.low ∷ m.high ∷ [])) (sym link) (inr (inl refl)))) in
          let order = link_ends n late S l r.1 in
          let local = members_edge v (four_in_order v iv.four iv.distinct) l (side_in n v iv f l.low low) (side_in n v iv f l.high high) order.0 in
          let e = from_In-map (link_at v) (numbers 6) l local in
          let off_low : (edge_ends Simplex 3 e.0).0 ≢ f =
          λ p. left_out n v iv f hf (subst (λ (x : ℕ). In x (side v f)) (ap (λ (m : Link). m.low) e.2 ∙ ap (slice_index (sorted v)) p) low) in
          let off_high : (edge_ends Simplex 3 e.0).1 ≢ f =
          λ p. left_out n v iv f hf (subst (λ (x : ℕ). In x (side v f)) (ap (λ (m : Link). m.high) e.2 ∙ ap (slice_index (sorted v)) p) high) in (
            e.0,
            to_linked late v e.0 (from_In-numbers 6 e.0 e.1) (ap (is_parted late) (sym e.2) ∙ order.2),
            in_facet_from f e.0 off_low off_high,
            ap (number_in ls) (sym e.2) ∙ r.2,
          )

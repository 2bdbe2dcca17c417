-- What becomes of links and triangles across a side of a tetrahedron.
use Rattle.std.proofs.Common.{◌≡◌, ℕ, ◌+◌, ◌<◌, ◌≤◌, Bool, true, List, [], ◌∷◌, length, Some, refl, inl, inr, ap, sym, ◌∙◌, subst, arith}
use Rattle.std.specs.Prelude.{map, count_by}
use Rattle.std.proofs.lemmas.Bool.{cases_lt}
use Rattle.lists.specs.Orders.{without, sorted, is_odd, is_odd_order}
use Rattle.lists.specs.Members.{In, Each}
use Rattle.lists.proofs.Sorting.{bit}
use Rattle.lists.proofs.Ascending.{ascending-map}
use Rattle.lists.proofs.MemberLaws.{from_In-map, map_same, map-map, Each-In, Each-from_In}
use Rattle.iso_model.specs.declared.Kind.TheVariants.{Simplex}
use Rattle.iso_model.specs.Cells.{edge_in_facet}
use Rattle.iso_model.specs.Seams.{seam, edge_across}
use Rattle.iso_model.specs.Tables.{Table, entry_of}
use Rattle.mesh_laws.proofs.FaceSigns.{has_signed}
use Rattle.mesh_laws.proofs.SignedFaces.{count_parity}
use Rattle.cut_laws.specs.Cuts.{AreGlued, edge_of, link_at, links_below, number_in}
use Rattle.cut_laws.specs.CutSteps.{IsSimplex, is_parted}
use Rattle.cut_laws.proofs.FoundLinks.{FourInOrder, four_in_order}
use Rattle.cut_faces.proofs.Sides.{side}
use Rattle.cut_faces.proofs.MeshSides.{simplex_at, across, Across, from_across, simplex_is, opposite}
use Rattle.cut_faces.proofs.SeamEdges.{edge_goes_across, edge_goes_back, edge_order, edge_meets}
use Rattle.cut_faces.proofs.CutLinks.{is_linked, from_linked, to_linked}
use Rattle.cut_faces.proofs.CutPieces.{seam_by, label_at}
use Rattle.cut_faces.proofs.CutEntries.{ServesInOrder, label_few, labels_agree, match_at}

-- where two simplices have one side, a local edge there is the same link as the one to which it goes
pub links_meet : (n : ℕ) (v w : List ℕ) (f g e : ℕ) → IsSimplex n v → IsSimplex n w → f < 4 → g < 4 → side v f ≡ side w g → e < 6
    → edge_in_facet Simplex 3 f e ≡ true → link_at w (edge_across Simplex 3 (seam f g (is_odd (f + g))) e) ≡ link_at v e
links_meet n v w f g e iv iw hf hg same he i = by_corners (four_in_order v iv.four iv.distinct) (four_in_order w iw.four iw.distinct)
  where
    by_corners : FourInOrder v → FourInOrder w → link_at w (edge_across Simplex 3 (seam f g (is_odd (f + g))) e) ≡ link_at v e
    by_corners p q =
        ap (λ (xs : List ℕ). edge_of xs (edge_across Simplex 3 (seam f g (is_odd (f + g))) e)) q.is
        ∙ edge_meets f g hf hg p.a p.b p.c p.d q.a q.b q.c q.d
        (ap (λ (xs : List ℕ). without f xs) (sym p.is) ∙ same ∙ ap (λ (xs : List ℕ). without g xs) q.is) e he i
        ∙ ap (λ (xs : List ℕ). edge_of xs e) (sym p.is)

to_itself : (f : ℕ → ℕ) (xs : List ℕ) → ((x : ℕ) → In x xs → f x ≡ x) → map f xs ≡ xs
to_itself f [] same = refl
to_itself f (x ∷ xs) same = ap (λ (y : ℕ). y ∷ map f xs) (same x (inl refl)) ∙ ap (λ (ys : List ℕ). x ∷ ys) (to_itself f xs (λ y i. same y (inr i)))

module _ (n : ℕ) (late : ℕ → Bool) (S : List (List ℕ)) (are : (w : List ℕ) → In w S → IsSimplex n w) (glued : AreGlued S) where
  -- the local edge to which one goes
  abbrev goes : ℕ → ℕ → ℕ → ℕ
  goes c f e = seam_by f e (across S c f)

  goes_is : (c f d g e : ℕ) → across S c f ≡ Some (d, g) → goes c f e ≡ edge_across Simplex 3 (seam f g (is_odd (f + g))) e
  goes_is c f d g e is = ap (seam_by f e) is

  -- it has a link too, in the side there, of the same number
  pub seam_keeps : (c f d g e : ℕ) → c < length S → f < 4 → across S c f ≡ Some (d, g) → is_linked late (simplex_at S c) e ≡ true
      → edge_in_facet Simplex 3 f e ≡ true
      → (is_linked late (simplex_at S d) (seam_by f e (across S c f)) ≡ true)
      × (edge_in_facet Simplex 3 g (seam_by f e (across S c f)) ≡ true)
      × (number_in (links_below n late S) (link_at (simplex_at S d) (seam_by f e (across S c f))) ≡ number_in (links_below n late S) (link_at (simplex_at S c) e))
  seam_keeps c f d g e hc hf is linked inside =
      let a = from_across S c f d g is in
      let v = simplex_at S c in
      let w = simplex_at S d in
      let h = from_linked late v e linked in
      let k : ℕ = edge_across Simplex 3 (seam f g (is_odd (f + g))) e in
      let x = edge_goes_across f g e hf a.is_side h.0 inside in
      let meet : link_at w k ≡ link_at v e =
      links_meet n v w f g e (simplex_is S n are glued c hc) (simplex_is S n are glued d a.is_simplex) hf a.is_side (sym a.same) h.0 inside in
      let parted : is_parted late (link_at w k) ≡ true = ap (is_parted late) meet ∙ h.1 in
      subst
      (λ (j : ℕ). (is_linked late w j ≡ true) × (edge_in_facet Simplex 3 g j ≡ true) × (number_in (links_below n late S) (link_at w j) ≡ number_in (links_below n late S) (link_at v e)))
      (sym (goes_is c f d g e is))
      (to_linked late w k x.below parted, x.inside, ap (number_in (links_below n late S)) meet)

  pub seam_order : (c f d g a b : ℕ) → c < length S → f < 4 → across S c f ≡ Some (d, g) → is_linked late (simplex_at S c) a ≡ true
      → is_linked late (simplex_at S c) b ≡ true → edge_in_facet Simplex 3 f a ≡ true → edge_in_facet Simplex 3 f b ≡ true → a ≤ b
      → seam_by f a (across S c f) ≤ seam_by f b (across S c f)
  seam_order c f d g a b hc hf is la lb ia ib h =
      let x = from_across S c f d g is in
      let order = edge_order f g a b hf x.is_side (from_linked late (simplex_at S c) a la).0 (from_linked late (simplex_at S c) b lb).0 ia ib h in
      omega (arith, order, goes_is c f d g a is, goes_is c f d g b is)

  -- ---- the triangles of two simplices with one side

  module _ (t : Table) (serves : ServesInOrder t) (c f d g m : ℕ) (face : List ℕ) (hc : c < length S) (hf : f < 4) (is : across S c f ≡ Some (d, g))
      (ascends : sorted face ≡ face) (linked : Each (λ e. is_linked late (simplex_at S c) e ≡ true) face)
      (inside : Each (λ e. edge_in_facet Simplex 3 f e ≡ true) face) where
    abbrev E : ℕ → ℕ
    E = edge_across Simplex 3 (seam f g (is_odd (f + g)))

    abbrev M : ℕ
    M = m + 1 + bit (is_odd_order (simplex_at S c)) + bit (is_odd_order (simplex_at S d))

    there : Across S c f d g
    there = from_across S c f d g is

    few : (e : ℕ) → In e face → e < 6
    few e i = (from_linked late (simplex_at S c) e (Each-In (λ x. is_linked late (simplex_at S c) x ≡ true) face linked e i)).0

    lies : (e : ℕ) → In e face → edge_in_facet Simplex 3 f e ≡ true
    lies = Each-In (λ x. edge_in_facet Simplex 3 f x ≡ true) face inside

    gone : map (λ e. seam_by f e (across S c f)) face ≡ map E face
    gone = map_same (λ e. seam_by f e (across S c f)) E face (λ e i. goes_is c f d g e is)

    -- the seam stands in the list from here
    forwards : f ≤ g → count_by (has_signed m (map E face)) (entry_of t (label_at late S d)) ≡ count_by (has_signed M face) (entry_of t (label_at late S c))
    forwards h =
        match_at t serves f g (label_at late S c) (label_at late S d) m face h there.is_side (label_few late (simplex_at S c)) (label_few late (simplex_at S d))
        (labels_agree n late (simplex_at S c) (simplex_at S d) f g (simplex_is S n are glued c hc) (simplex_is S n are glued d there.is_simplex) hf there.is_side
        (sym there.same))
        ascends (Each-from_In (λ e. (e < 6) × (edge_in_facet Simplex 3 f e ≡ true)) face (λ e i. (few e i, lies e i)))
        ∙ count_parity (m + bit (is_odd (f + g))) M face (entry_of t (label_at late S c)) (opposite S n are glued c f d g hc hf there m)

    -- or from the other side
    back_again : map (edge_across Simplex 3 (seam g f (is_odd (g + f)))) (map E face) ≡ face
    back_again =
        map-map E (edge_across Simplex 3 (seam g f (is_odd (g + f)))) face
        ∙ to_itself (λ e. edge_across Simplex 3 (seam g f (is_odd (g + f))) (E e)) face (λ e i. edge_goes_back f g e hf there.is_side (few e i) (lies e i))

    gone_ascends : sorted (map E face) ≡ map E face
    gone_ascends =
        ascending-map E face (λ a b i j h. edge_order f g a b hf there.is_side (few a i) (few b j) (lies a i) (lies b j) h) ascends

    gone_lies : Each (λ e. (e < 6) × (edge_in_facet Simplex 3 g e ≡ true)) (map E face)
    gone_lies = Each-from_In (λ e. (e < 6) × (edge_in_facet Simplex 3 g e ≡ true)) (map E face) (λ k i.
        let r = from_In-map E face k i in
        let x = edge_goes_across f g r.0 hf there.is_side (few r.0 r.1) (lies r.0 r.1) in
        subst (λ (e : ℕ). (e < 6) × (edge_in_facet Simplex 3 g e ≡ true)) (sym r.2) (x.below, x.inside))

    backwards : g ≤ f → count_by (has_signed m (map E face)) (entry_of t (label_at late S d)) ≡ count_by (has_signed M face) (entry_of t (label_at late S c))
    backwards h =
        let turn : bit (is_odd (g + f)) ≡ bit (is_odd (f + g)) = ap (λ (k : ℕ). bit (is_odd k)) (plus_turned g f) in
        let steps = opposite S n are glued c f d g hc hf there m in
        sym (
        ap (λ (v : List ℕ). count_by (has_signed M v) (entry_of t (label_at late S c))) (sym back_again)
        ∙ match_at t serves g f (label_at late S d) (label_at late S c) M (map E face) h hf (label_few late (simplex_at S d)) (label_few late (simplex_at S c))
        (labels_agree n late (simplex_at S d) (simplex_at S c) g f (simplex_is S n are glued d there.is_simplex) (simplex_is S n are glued c hc) there.is_side hf
        there.same)
        gone_ascends gone_lies
        ∙ count_parity (M + bit (is_odd (g + f))) m (map E face) (entry_of t (label_at late S d)) (omega (arith, steps, turn)))
      where
        plus_turned : (a b : ℕ) → a + b ≡ b + a
        plus_turned a b = omega arith

    pub matches : count_by (has_signed m (map (λ e. seam_by f e (across S c f)) face)) (entry_of t (label_at late S d))
        ≡ count_by (has_signed (m + 1 + bit (is_odd_order (simplex_at S c)) + bit (is_odd_order (simplex_at S d))) face) (entry_of t (label_at late S c))
    matches =
        ap (λ (v : List ℕ). count_by (has_signed m v) (entry_of t (label_at late S d))) gone
        ∙ elim (cases_lt f g) as (λ _. count_by (has_signed m (map E face)) (entry_of t (label_at late S d)) ≡ count_by (has_signed M face) (entry_of t (label_at late S c))) [
          | inl h ↦ forwards (omega (arith, h))
          | inr h ↦ backwards h
        ]

-- Links that two tetrahedra have lie in a side of each; where it is the only one, the other lies across it.
use Rattle.std.proofs.Common.{◌≡◌, ◌≢◌, ℕ, zero, suc, ◌<◌, Bool, true, false, List, ◌∷◌, length, Some, refl, inl, inr, ap, sym, ◌∙◌, subst, arith}
use Rattle.std.specs.Prelude.{◌⊎◌, slice_index}
use Rattle.std.proofs.lemmas.Bool.{cases_eq, cases_lt}
use Rattle.lists.specs.Orders.{numbers, has, sorted}
use Rattle.lists.specs.Members.{In, Each}
use Rattle.lists.proofs.Contained.{any_default, each-from_All}
use Rattle.lists.proofs.MemberLaws.{In_place, In-map, In-numbers, Each-In, Each-from_In, In_of_has, not_In_of_has, Contains_from}
use Rattle.iso_model.specs.declared.Kind.TheVariants.{Simplex}
use Rattle.iso_model.specs.Cells.{edge_in_facet}
use Rattle.iso_model.specs.Faces.{has_face}
use Rattle.mesh_laws.proofs.TakenMembers.{Takes-case, In-sorted, from_In-sorted, one_more}
use Rattle.mesh_laws.proofs.FaceOf.{has_face_all, each_of_places}
use Rattle.cut_laws.specs.declared.Link.{Link}
use Rattle.cut_laws.specs.Cuts.{AreDifferent, AreGlued, link_at, links_below, number_in}
use Rattle.cut_laws.specs.CutSteps.{IsSimplex}
use Rattle.cut_laws.proofs.FoundLinks.{four_in_order, edge_members}
use Rattle.cut_faces.proofs.Sides.{side, side_ascends, length_side, left_out, corners_four, corners_ascend, from_In-without}
use Rattle.cut_faces.proofs.MeshSides.{simplex_at, across, simplex_is, found_across}
use Rattle.cut_faces.proofs.SeamEdges.{in_facet_from}
use Rattle.cut_faces.proofs.CutLinks.{is_linked, from_linked, same_links}

-- a test fails below n, or it holds of all numbers below n
fails_or_all : (p : ℕ → Bool) (n : ℕ) → ((k : ℕ) × (k < n) × (p k ≡ false)) ⊎ ((k : ℕ) → k < n → p k ≡ true)
fails_or_all p zero = inr (λ k h. absurd (omega (arith, h)))
fails_or_all p (suc n) = elim (fails_or_all p n) as (λ _. ((k : ℕ) × (k < suc n) × (p k ≡ false)) ⊎ ((k : ℕ) → k < suc n → p k ≡ true)) [
  | inl r ↦ inl (r.0, omega (arith, r.1), r.2)
  | inr all ↦ last (p n) refl all
]
  where
    last : (b : Bool) → p n ≡ b → ((k : ℕ) → k < n → p k ≡ true) → ((k : ℕ) × (k < suc n) × (p k ≡ false)) ⊎ ((k : ℕ) → k < suc n → p k ≡ true)
    last false e all = inl (n, omega arith, e)
    last true e all = inr (λ k h. elim (cases_eq k n) as (λ _. p k ≡ true) [
      | inl same ↦ ap p same ∙ e
      | inr apart ↦ all k (below k h apart)
    ])
      where
        below : (k : ℕ) → k < suc n → k ≢ n → k < n
        below k h apart = elim (cases_lt k n) as (λ _. k < n) [ inl less ↦ less | inr more ↦ absurd (apart (omega (arith, h, more))) ]

module _ (n : ℕ) (v w : List ℕ) (iv : IsSimplex n v) (iw : IsSimplex n w) where
  -- what is said of each corner is said of each member
  corners_all : ((k : ℕ) → k < 4 → has w (slice_index (sorted v) k) ≡ true) → (y : ℕ) → In y (sorted v) → In y w
  corners_all each = each_of_places (sorted v) w 4 (omega (arith, corners_four n v iv)) each

  -- where all corners of the one stand in the other, both have the same corners
  same_corners : ((k : ℕ) → k < 4 → has w (slice_index (sorted v) k) ≡ true) → sorted v ≡ sorted w
  same_corners each =
      let all = corners_all each in
      let r = one_more (sorted v) (n ∷ w) (corners_ascend n v iv) (omega (arith, corners_four n v iv, iw.four)) (λ y i. inr (all y i)) in
      elim (Takes-case r.2) as (λ _. sorted v ≡ sorted w) [
        | inl e ↦ sym r.3 ∙ ap sorted e.1
        | inr s ↦
            let i : In n (sorted v) = subst (In n) r.3 (In-sorted n r.1 (subst (In n) (sym s.2) (inl refl))) in
            let c = Contains_from v n (from_In-sorted n v i) in
            let less : n < n = each-from_All (λ k. k < n) v iv.below n c in
            absurd (omega (arith, less))
      ]

  -- where all corners but one stand in the other, it has the side without that one
  has_the_side : (f : ℕ) → f < 4 → ((k : ℕ) → k < 4 → k ≢ f → In (slice_index (sorted v) k) w) → has_face (side v f) w ≡ true
  has_the_side f hf each =
      has_face_all (side v f) w (side_ascends n v iv f) (omega (arith, iw.four, length_side n v iv f hf)) (λ y i.
      let c = Contains_from (sorted v) y (from_In-without (sorted v) f y i) in
      let same : slice_index (sorted v) c.0 ≡ y = any_default (sorted v) c.0 0 y c.1 ∙ c.2 in
      let few : c.0 < 4 = omega (arith, c.1, corners_four n v iv) in
      let apart : c.0 ≢ f = λ e. left_out n v iv f hf (subst (λ (x : ℕ). In x (side v f)) (sym same ∙ ap (slice_index (sorted v)) e) i) in
      subst (λ (x : ℕ). In x w) same (each c.0 few apart)) ∙ iw.distinct

-- a corner that no edge of a list has: the edges lie in its side
off_corner : (v w : List ℕ) (es : List ℕ) (f : ℕ) → ((e : ℕ) → In e es → In (link_at v e).low w × In (link_at v e).high w)
    → has w (slice_index (sorted v) f) ≡ false → Each (λ e. edge_in_facet Simplex 3 f e ≡ true) es
off_corner v w es f ends off = Each-from_In (λ e. edge_in_facet Simplex 3 f e ≡ true) es (λ e i.
    in_facet_from f e
    (λ p. not_In_of_has w (slice_index (sorted v) f) off (subst (λ (k : ℕ). In (slice_index (sorted v) k) w) p (ends e i).0))
    (λ p. not_In_of_has w (slice_index (sorted v) f) off (subst (λ (k : ℕ). In (slice_index (sorted v) k) w) p (ends e i).1)))

module _ (n : ℕ) (late : ℕ → Bool) (S : List (List ℕ)) (are : (w : List ℕ) → In w S → IsSimplex n w) (glued : AreGlued S) (different : AreDifferent S) where
  abbrev HasLink : ℕ → ℕ → Type 0
  HasLink d k = (e : ℕ) × (is_linked late (simplex_at S d) e ≡ true) × (number_in (links_below n late S) (link_at (simplex_at S d) e) ≡ k)

  module _ (c d : ℕ) (es : List ℕ) (hc : c < length S) (hd : d < length S) (apart : c ≢ d)
      (linked : Each (λ e. is_linked late (simplex_at S c) e ≡ true) es)
      (has_them : Each (λ e. HasLink d (number_in (links_below n late S) (link_at (simplex_at S c) e))) es) where
    -- the ends of each edge stand in the other simplex
    ends : (e : ℕ) → In e es → In (link_at (simplex_at S c) e).low (simplex_at S d) × In (link_at (simplex_at S c) e).high (simplex_at S d)
    ends e i =
        let v = simplex_at S c in
        let w = simplex_at S d in
        let iw = simplex_is S n are glued d hd in
        let h = Each-In (λ x. is_linked late (simplex_at S c) x ≡ true) es linked e i in
        let r = Each-In (λ x. HasLink d (number_in (links_below n late S) (link_at (simplex_at S c) x))) es has_them e i in
        let same : link_at w r.0 ≡ link_at v e = same_links n late S are w v r.0 e (In_place S d hd) (In_place S c hc) r.1 h r.2 in
        let m = edge_members w (four_in_order w iw.four iw.distinct) (link_at w r.0) (In-map (link_at w) (numbers 6) r.0 (In-numbers 6 r.0 (from_linked late w r.0 r.1).0)) in
        subst (λ (l : Link). In l.low w × In l.high w) same (m.0, m.1)

    abbrev stands : ℕ → Bool
    stands k = has (simplex_at S d) (slice_index (sorted (simplex_at S c)) k)

    -- a corner that the other simplex does not have
    missing : (k : ℕ) × (k < 4) × (has (simplex_at S d) (slice_index (sorted (simplex_at S c)) k) ≡ false)
    missing = elim (fails_or_all stands 4) as (λ _. (k : ℕ) × (k < 4) × (stands k ≡ false)) [
      | inl r ↦ r
      | inr all ↦ absurd (apart (different c d hc hd
          (same_corners n (simplex_at S c) (simplex_at S d) (simplex_is S n are glued c hc) (simplex_is S n are glued d hd) all)))
    ]

    pub shares : (f : ℕ) × (f < 4) × Each (λ e. edge_in_facet Simplex 3 f e ≡ true) es
        × (((g : ℕ) → g < 4 → Each (λ e. edge_in_facet Simplex 3 g e ≡ true) es → g ≡ f) → (g : ℕ) × (across S c f ≡ Some (d, g)))
    shares =
        let f = missing.0 in
        let v = simplex_at S c in
        let w = simplex_at S d in (
          f,
          missing.1,
          off_corner v w es f ends missing.2,
          λ only. found_across S n are glued c f d hc missing.1 hd apart
              (has_the_side n v w (simplex_is S n are glued c hc) (simplex_is S n are glued d hd) f missing.1 (λ k hk n. other k hk n only)),
        )
      where
        other : (k : ℕ) → k < 4 → k ≢ missing.0 → ((g : ℕ) → g < 4 → Each (λ e. edge_in_facet Simplex 3 g e ≡ true) es → g ≡ missing.0)
            → In (slice_index (sorted (simplex_at S c)) k) (simplex_at S d)
        other k hk n only = go (stands k) refl
          where
            go : (b : Bool) → stands k ≡ b → In (slice_index (sorted (simplex_at S c)) k) (simplex_at S d)
            go true e = In_of_has (simplex_at S d) (slice_index (sorted (simplex_at S c)) k) e
            go false e = absurd (n (only k hk (off_corner (simplex_at S c) (simplex_at S d) es k ends e)))

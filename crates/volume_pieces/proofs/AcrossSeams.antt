-- Where the seam takes an edge of a facet: to the same edge of the grid, in the facet across, and in the same order.
use Rattle.std.proofs.Common.{◌≡◌, ℕ, ◌<◌, ◌≤◌, true, length, Some, ap, sym, ◌∙◌, subst, arith, inl, inr}
use Rattle.std.specs.Prelude.{◌⊎◌, nat_lt, Contains}
use Rattle.iso_model.specs.Cells.{edge_count, facet_count, facet_edges, edge_in_facet}
use Rattle.iso_model.specs.Seams.{Seam, seams, edge_across}
use Rattle.iso_model.specs.Splits.{Edge, edge}
use Rattle.iso_model.specs.Values.{Volume, cells, IsRegularVolume}
use Rattle.iso_model.specs.Bipolar.{is_bipolar, bipolar_edges, place_in}
use Rattle.iso_model.specs.Tables.{Table}
use Rattle.volume_pieces.proofs.PiecesOf.{across_of, local_of, seam_by, pieces_of}
use Rattle.volume_pieces.proofs.PiecesAcross.{across_meets}
use Rattle.volume_pieces.proofs.AcrossStands.{volume_dimension}
use Rattle.volume_pieces.proofs.AcrossEdges.{in_facet_edges, from_facet_edges, edge_back, weak_order_there, order_back}
use Rattle.volume_pieces.proofs.Seams.{SeamJoins, LabelsTellSigns, seam_joins}
use Rattle.lists.specs.Members.{In}
use Rattle.lists.proofs.Tests.{lt_of, of_lt, and_left, and_right}
use Rattle.std.proofs.lemmas.Bool.{and_from}

in_order : {x y m n : ℕ} → x ≡ m → y ≡ n → m ≤ n → x ≤ y
in_order e e' less = omega (arith, e, e', less)

-- from the place of a bipolar edge of a kept cell back to its number there
abbrev pub PlacesLeadBack : Volume → Table → Type 0
PlacesLeadBack v t = (c e : ℕ) → In c (cells v) → (pieces_of v t).is_bipolar c e ≡ true → (pieces_of v t).local c ((pieces_of v t).place c e) ≡ e

module _ (v : Volume) (t : Table) (regular : IsRegularVolume v) (signs : LabelsTellSigns v) (back : PlacesLeadBack v t) where
  module _ (c f d g : ℕ) (is_cell : In c (cells v)) (is_facet : f < facet_count v.kind (length v.sizes)) (across : across_of v c f ≡ Some (d, g)) where
    abbrev D : ℕ
    D = length v.sizes

    there : In d (cells v)
    there = let m = across_meets v c f d g across in m.is_cell

    -- the edge of the other cell that is the same edge of the grid is bipolar there, and the seam takes the edge to it
    same_is_bipolar : (e e' : ℕ) → (pieces_of v t).is_bipolar c e ≡ true → e' < edge_count v.kind (length v.sizes)
        → edge v.kind v.sizes c e ≡ edge v.kind v.sizes d e' → (pieces_of v t).is_bipolar d e' ≡ true
    same_is_bipolar e e' bipolar below same =
        and_from (nat_lt e' (edge_count v.kind D)) (is_bipolar v (edge v.kind v.sizes d e')) (of_lt e' (edge_count v.kind D) below)
        (ap (is_bipolar v) (sym same) ∙ and_right (nat_lt e (edge_count v.kind D)) (is_bipolar v (edge v.kind v.sizes c e)) bipolar)

    pub seam_is : (e e' : ℕ) → (pieces_of v t).is_bipolar c e ≡ true → e' < edge_count v.kind (length v.sizes)
        → edge v.kind v.sizes c e ≡ edge v.kind v.sizes d e' → (pieces_of v t).seam c f e ≡ e'
    seam_is e e' bipolar below same =
        ap (seam_by v c e) across ∙ ap (λ (x : Edge). local_of v d (place_in (bipolar_edges v) x)) same
        ∙ back d e' there (same_is_bipolar e e' bipolar below same)

    -- an edge of the facet is an edge of the facet across
    twin_by : (s : Seam) → Contains (seams v.kind (length v.sizes)) s → (e : ℕ) → In e (facet_edges v.kind (length v.sizes) f)
        → SeamJoins v s c f d g ⊎ SeamJoins v s d g c f →
        (e' : ℕ) × In e' (facet_edges v.kind (length v.sizes) g) × (edge v.kind v.sizes c e ≡ edge v.kind v.sizes d e')
    twin_by s in_seams e i (inl j) = (edge_across v.kind D s e, (j.edges e i).0, (j.edges e i).1)
    twin_by s in_seams e i (inr j) =
        let b = edge_back v.kind D (volume_dimension v regular) regular.fits s in_seams e (subst (λ (x : ℕ). In e (facet_edges v.kind D x)) (sym j.to) i) in
        let b_in : In b.0 (facet_edges v.kind D g) = subst (λ (x : ℕ). In b.0 (facet_edges v.kind D x)) j.from b.1 in
        (b.0, b_in, ap (edge v.kind v.sizes c) b.2 ∙ sym (j.edges b.0 b_in).1)

    twin : (e : ℕ) → In e (facet_edges v.kind (length v.sizes) f)
        → (e' : ℕ) × In e' (facet_edges v.kind (length v.sizes) g) × (edge v.kind v.sizes c e ≡ edge v.kind v.sizes d e')
    twin e i = let s = seam_joins v regular signs c f d g is_cell is_facet across in twin_by s.0 s.1 e i s.2

    pub in_facet_here : (e : ℕ) → (pieces_of v t).is_bipolar c e ≡ true → edge_in_facet v.kind (length v.sizes) f e ≡ true
        → In e (facet_edges v.kind (length v.sizes) f)
    in_facet_here e bipolar in_f =
        in_facet_edges v.kind D f e
        (lt_of e (edge_count v.kind D) (and_left (nat_lt e (edge_count v.kind D)) (is_bipolar v (edge v.kind v.sizes c e)) bipolar)) in_f

    -- the order along the seam
    order_by : (s : Seam) → Contains (seams v.kind (length v.sizes)) s → (a b : ℕ) → (pieces_of v t).is_bipolar c a ≡ true
        → (pieces_of v t).is_bipolar c b ≡ true
        → In a (facet_edges v.kind (length v.sizes) f) → In b (facet_edges v.kind (length v.sizes) f) → a ≤ b
        → SeamJoins v s c f d g ⊎ SeamJoins v s d g c f → (pieces_of v t).seam c f a ≤ (pieces_of v t).seam c f b
    order_by s in_seams a b bip_a bip_b i k h (inl j) =
        let a_in = subst (λ (x : ℕ). In a (facet_edges v.kind D x)) (sym j.from) i in
        let b_in = subst (λ (x : ℕ). In b (facet_edges v.kind D x)) (sym j.from) k in
        let a_there = j.edges a i in
        let b_there = j.edges b k in
        let a_is : (pieces_of v t).seam c f a ≡ edge_across v.kind D s a =
        seam_is a (edge_across v.kind D s a) bip_a (from_facet_edges v.kind D g (edge_across v.kind D s a) a_there.0).0 a_there.1 in
        let b_is : (pieces_of v t).seam c f b ≡ edge_across v.kind D s b =
        seam_is b (edge_across v.kind D s b) bip_b (from_facet_edges v.kind D g (edge_across v.kind D s b) b_there.0).0 b_there.1 in
        in_order a_is b_is (weak_order_there v.kind D (volume_dimension v regular) regular.fits s in_seams a b a_in b_in h)
    order_by s in_seams a b bip_a bip_b i k h (inr j) =
        let from_a =
        edge_back v.kind D (volume_dimension v regular) regular.fits s in_seams a (subst (λ (x : ℕ). In a (facet_edges v.kind D x)) (sym j.to) i) in
        let from_b =
        edge_back v.kind D (volume_dimension v regular) regular.fits s in_seams b (subst (λ (x : ℕ). In b (facet_edges v.kind D x)) (sym j.to) k) in
        let a_in : In from_a.0 (facet_edges v.kind D g) = subst (λ (x : ℕ). In from_a.0 (facet_edges v.kind D x)) j.from from_a.1 in
        let b_in : In from_b.0 (facet_edges v.kind D g) = subst (λ (x : ℕ). In from_b.0 (facet_edges v.kind D x)) j.from from_b.1 in
        let a_is : (pieces_of v t).seam c f a ≡ from_a.0 =
        seam_is a from_a.0 bip_a (from_facet_edges v.kind D g from_a.0 a_in).0
        (ap (edge v.kind v.sizes c) from_a.2 ∙ sym (j.edges from_a.0 a_in).1) in
        let b_is : (pieces_of v t).seam c f b ≡ from_b.0 =
        seam_is b from_b.0 bip_b (from_facet_edges v.kind D g from_b.0 b_in).0
        (ap (edge v.kind v.sizes c) from_b.2 ∙ sym (j.edges from_b.0 b_in).1) in
        let less : edge_across v.kind D s from_a.0 ≤ edge_across v.kind D s from_b.0 = in_order (sym from_a.2) (sym from_b.2) h in
        in_order a_is b_is (order_back v.kind D (volume_dimension v regular) regular.fits s in_seams from_a.0 from_b.0 from_a.1 from_b.1 less)

  -- the seam takes a bipolar edge of the facet to a bipolar edge of the facet across, at the same place
  pub seam_keeps : (c f d g e : ℕ) → In c (pieces_of v t).cells → f < (pieces_of v t).facets → (pieces_of v t).across c f ≡ Some (d, g)
      → (pieces_of v t).is_bipolar c e ≡ true → (pieces_of v t).in_facet f e ≡ true →
      ((pieces_of v t).is_bipolar d ((pieces_of v t).seam c f e) ≡ true) × ((pieces_of v t).in_facet g ((pieces_of v t).seam c f e) ≡ true)
      × ((pieces_of v t).place d ((pieces_of v t).seam c f e) ≡ (pieces_of v t).place c e)
  seam_keeps c f d g e is_cell is_facet across bipolar in_f =
      let other = twin c f d g is_cell is_facet across e (in_facet_here c f d g is_cell is_facet across e bipolar in_f) in
      let other_in = from_facet_edges v.kind (length v.sizes) g other.0 other.1 in
      let is = seam_is c f d g is_cell is_facet across e other.0 bipolar other_in.0 other.2 in
      subst
      (λ (x : ℕ).
      ((pieces_of v t).is_bipolar d x ≡ true) × ((pieces_of v t).in_facet g x ≡ true)
      × ((pieces_of v t).place d x ≡ (pieces_of v t).place c e))
      (sym is)
      (same_is_bipolar c f d g is_cell is_facet across e other.0 bipolar other_in.0 other.2, other_in.1, ap (place_in (bipolar_edges v)) (sym other.2))

  -- the seam keeps the order of bipolar edges of the facet
  pub seam_order : (c f d g a b : ℕ) → In c (pieces_of v t).cells → f < (pieces_of v t).facets → (pieces_of v t).across c f ≡ Some (d, g)
      → (pieces_of v t).is_bipolar c a ≡ true → (pieces_of v t).is_bipolar c b ≡ true
      → (pieces_of v t).in_facet f a ≡ true → (pieces_of v t).in_facet f b ≡ true → a ≤ b → (pieces_of v t).seam c f a ≤ (pieces_of v t).seam c f b
  seam_order c f d g a b is_cell is_facet across bip_a bip_b in_a in_b h =
      let s = seam_joins v regular signs c f d g is_cell is_facet across in
      order_by c f d g is_cell is_facet across s.0 s.1 a b bip_a bip_b (in_facet_here c f d g is_cell is_facet across a bip_a in_a)
      (in_facet_here c f d g is_cell is_facet across b bip_b in_b) h s.2

-- Where the entries of labels that meet across a seam match, the entries of two cells match across their facet: a face has the opposite sum there
-- where the parities are the same, and the same sum where they are not.
use Rattle.std.proofs.Common.{◌≡◌, ℕ, ◌+◌, ◌<◌, Bool, true, false, List, [], ◌∷◌, length, Some, refl, ap, sym, ◌∙◌, subst, arith, inl, inr}
use Rattle.std.specs.Prelude.{◌⊎◌, ◌↔◌, ◌%◌, map, count_by, Contains, if◌then◌else◌}
use Rattle.iso_model.specs.declared.Kind.{Kind}
use Rattle.lists.specs.Orders.{sorted}
use Rattle.iso_model.specs.Cells.{edge_count, facet_count, facet_edges, edge_in_facet, label_count}
use Rattle.iso_model.specs.Seams.{Seam, seams, edge_across}
use Rattle.iso_model.specs.Splits.{edge, is_odd_cell}
use Rattle.iso_model.specs.Values.{Volume, cells, IsRegularVolume, label_of}
use Rattle.iso_model.specs.Tables.{Table, entry_of}
use Rattle.iso_model.specs.Acceptance.{labels_meet}
use Rattle.mesh_laws.proofs.FaceSigns.{has_signed}
use Rattle.mesh_laws.proofs.SignedFaces.{count_parity}
use Rattle.glue_laws.proofs.Pieces.{AllBipolar, AllIn, local_count}
use Rattle.volume_pieces.proofs.PiecesOf.{across_of, pieces_of}
use Rattle.volume_pieces.proofs.PiecesAcross.{across_meets}
use Rattle.volume_pieces.proofs.AcrossStands.{volume_dimension}
use Rattle.volume_pieces.proofs.AcrossEdges.{from_facet_edges, edge_back}
use Rattle.volume_pieces.proofs.Seams.{SeamJoins, LabelsTellSigns, seam_joins}
use Rattle.volume_pieces.proofs.AcrossSeams.{PlacesLeadBack, seam_is, in_facet_here, seam_order}
use Rattle.lists.specs.Members.{In, Each}
use Rattle.lists.proofs.MemberLaws.{from_In-map, Each-In, Each-from_In}
use Rattle.lists.proofs.Sorting.{bit}
use Rattle.lists.proofs.Ascending.{ascending-map}

-- ---- an ascending list stays so under a map that keeps order

map_alike : (f g : ℕ → ℕ) (xs : List ℕ) → ((x : ℕ) → In x xs → f x ≡ g x) → map f xs ≡ map g xs
map_alike f g [] same = refl
map_alike f g (x ∷ xs) same = rw (same x (inl refl), map_alike f g xs (λ y i. same y (inr i))) refl

map_to_itself : (f g : ℕ → ℕ) (xs : List ℕ) → ((x : ℕ) → In x xs → f (g x) ≡ x) → map f (map g xs) ≡ xs
map_to_itself f g [] same = refl
map_to_itself f g (x ∷ xs) same = rw (same x (inl refl), map_to_itself f g xs (λ y i. same y (inr i))) refl

-- ---- signs

-- one step where the parities are the same, and none or two where they are not
steps_between : (same a b : Bool) → (same ≡ true) ↔ (a ≡ b) → bit same % 2 ≡ (1 + bit a + bit b) % 2
steps_between true true true h = refl
steps_between true true false h = let clash = h.0 refl in absurd (cc)
steps_between true false true h = let clash = h.0 refl in absurd (cc)
steps_between true false false h = refl
steps_between false true true h = let clash = h.1 refl in absurd (cc)
steps_between false true false h = refl
steps_between false false true h = refl
steps_between false false false h = let clash = h.1 refl in absurd (cc)

-- the entries of two labels that meet across a seam match: a face of the seam's first facet has as many tuples of either sign as the face to which it goes
abbrev pub EntriesMatch : Kind → ℕ → Table → Type 0
EntriesMatch kind d t =
    (s : Seam) (here there m : ℕ) (face : List ℕ) → Contains (seams kind d) s → here < label_count kind d → there < label_count kind d
    → labels_meet kind d s here there ≡ true → sorted face ≡ face
    → Each (λ e. (e < edge_count kind d) × (edge_in_facet kind d s.facet e ≡ true)) face
    → count_by (has_signed m (map (edge_across kind d s) face)) (entry_of t there)
    ≡ count_by (has_signed (m + (if s.same_parity then 1 else 0)) face) (entry_of t here)

-- the label of a kept cell is below the number of labels
abbrev pub LabelsAreBelow : Volume → Type 0
LabelsAreBelow v = (c : ℕ) → In c (cells v) → label_of v c < label_count v.kind (length v.sizes)

module _ (v : Volume) (t : Table) (regular : IsRegularVolume v) (signs : LabelsTellSigns v) (back : PlacesLeadBack v t) (labels : LabelsAreBelow v)
    (entries : EntriesMatch v.kind (length v.sizes) t) where
  module _ (c f d g m : ℕ) (face : List ℕ) (is_cell : In c (cells v)) (is_facet : f < facet_count v.kind (length v.sizes))
      (across : across_of v c f ≡ Some (d, g))
      (ascends : sorted face ≡ face) (bipolar : AllBipolar (pieces_of v t) c face) (lies : AllIn (pieces_of v t) f face) (s : Seam)
      (in_seams : Contains (seams v.kind (length v.sizes)) s) where
    abbrev D : ℕ
    D = length v.sizes

    abbrev goes : ℕ → ℕ
    goes = (pieces_of v t).seam c f

    abbrev steps : ℕ
    steps = if s.same_parity then 1 else 0

    abbrev entry : ℕ → List (List ℕ)
    entry e = entry_of t (label_of v e)

    there : In d (cells v)
    there = let h = across_meets v c f d g across in h.is_cell

    bipolar_at : (e : ℕ) → In e face → (pieces_of v t).is_bipolar c e ≡ true
    bipolar_at = Each-In (λ e. (pieces_of v t).is_bipolar c e ≡ true) face bipolar

    lies_at : (e : ℕ) → In e face → (pieces_of v t).in_facet f e ≡ true
    lies_at = Each-In (λ e. (pieces_of v t).in_facet f e ≡ true) face lies

    in_edges : (e : ℕ) → In e face → In e (facet_edges v.kind (length v.sizes) f)
    in_edges e i = in_facet_here v t regular signs back c f d g is_cell is_facet across e (bipolar_at e i) (lies_at e i)

    -- from this facet to the other
    forwards : SeamJoins v s c f d g → count_by (has_signed m (map goes face)) (entry d) ≡ count_by (has_signed (m + steps) face) (entry c)
    forwards j =
        ap (λ (w : List ℕ). count_by (has_signed m w) (entry d)) (map_alike goes (edge_across v.kind D s) face (λ e i.
        let to = j.edges e (in_edges e i) in
        seam_is v t regular signs back c f d g is_cell is_facet across e (edge_across v.kind D s e) (bipolar_at e i)
        (from_facet_edges v.kind D g (edge_across v.kind D s e) to.0).0 to.1))
        ∙ entries s (label_of v c) (label_of v d) m face in_seams (labels c is_cell) (labels d there) j.labels ascends
        (Each-from_In (λ e. (e < edge_count v.kind D) × (edge_in_facet v.kind D s.facet e ≡ true)) face
        (λ e i. from_facet_edges v.kind D s.facet e (subst (λ (x : ℕ). In e (facet_edges v.kind D x)) (sym j.from) (in_edges e i))))

    -- from the other facet to this one
    module _ (j : SeamJoins v s d g c f) where
      comes_from : (e : ℕ) → In e face → In (goes e) (facet_edges v.kind (length v.sizes) s.facet) × (edge_across v.kind (length v.sizes) s (goes e) ≡ e)
      comes_from e i =
          let b =
          edge_back v.kind D (volume_dimension v regular) regular.fits s in_seams e
          (subst (λ (x : ℕ). In e (facet_edges v.kind D x)) (sym j.to) (in_edges e i)) in
          let b_in : In b.0 (facet_edges v.kind D g) = subst (λ (x : ℕ). In b.0 (facet_edges v.kind D x)) j.from b.1 in
          let is =
          seam_is v t regular signs back c f d g is_cell is_facet across e b.0 (bipolar_at e i) (from_facet_edges v.kind D g b.0 b_in).0
          (ap (edge v.kind v.sizes c) b.2 ∙ sym (j.edges b.0 b_in).1) in
          (subst (λ (x : ℕ). In x (facet_edges v.kind D s.facet)) (sym is) b.1, ap (edge_across v.kind D s) is ∙ sym b.2)

      over_ascends : sorted (map goes face) ≡ map goes face
      over_ascends =
          ascending-map goes face
          (λ a b i k h.
          seam_order v t regular signs back c f d g a b is_cell is_facet across (bipolar_at a i) (bipolar_at b k) (lies_at a i) (lies_at b k)
          h)
          ascends

      over_lies : Each (λ e. (e < edge_count v.kind (length v.sizes)) × (edge_in_facet v.kind (length v.sizes) s.facet e ≡ true)) (map goes face)
      over_lies = Each-from_In (λ e. (e < edge_count v.kind D) × (edge_in_facet v.kind D s.facet e ≡ true)) (map goes face) (λ x i.
          let e = from_In-map goes face x i in
          from_facet_edges v.kind D s.facet x (subst (λ (y : ℕ). In y (facet_edges v.kind D s.facet)) (sym e.2) (comes_from e.0 e.1).0))

      backwards : count_by (has_signed (m + steps) face) (entry c) ≡ count_by (has_signed (m + steps + steps) (map goes face)) (entry d)
      backwards =
          ap (λ (w : List ℕ). count_by (has_signed (m + steps) w) (entry c))
          (sym (map_to_itself (edge_across v.kind D s) goes face (λ e i. (comes_from e i).1)))
          ∙ entries s (label_of v d) (label_of v c) (m + steps) (map goes face) in_seams (labels d there) (labels c is_cell) j.labels over_ascends over_lies

    by_steps : (same : Bool) → (same ≡ true) ↔ (is_odd_cell v.kind v.sizes c ≡ is_odd_cell v.kind v.sizes d) →
        (m + (if same then 1 else 0)) % 2 ≡ (m + 1 + bit (is_odd_cell v.kind v.sizes c) + bit (is_odd_cell v.kind v.sizes d)) % 2
    by_steps same h =
        let parity : bit same % 2 ≡ (1 + bit (is_odd_cell v.kind v.sizes c) + bit (is_odd_cell v.kind v.sizes d)) % 2 =
        steps_between same (is_odd_cell v.kind v.sizes c) (is_odd_cell v.kind v.sizes d) h in
        omega (arith, parity)

    turned_parity : (same a b : Bool) → (same ≡ true) ↔ (a ≡ b) → (same ≡ true) ↔ (b ≡ a)
    turned_parity same a b h = (λ e. sym (h.0 e), λ e. h.1 (sym e))

    matches_by : SeamJoins v s c f d g ⊎ SeamJoins v s d g c f →
        count_by (has_signed m (map goes face)) (entry d)
        ≡ count_by (has_signed (m + 1 + bit (is_odd_cell v.kind v.sizes c) + bit (is_odd_cell v.kind v.sizes d)) face) (entry c)
    matches_by (inl j) =
        forwards j
        ∙ count_parity (m + steps) (m + 1 + bit (is_odd_cell v.kind v.sizes c) + bit (is_odd_cell v.kind v.sizes d)) face (entry c)
        (by_steps s.same_parity j.parity)
    matches_by (inr j) =
        count_parity m (m + steps + steps) (map goes face) (entry d) (omega arith)
        ∙ sym (backwards j)
        ∙ count_parity (m + steps) (m + 1 + bit (is_odd_cell v.kind v.sizes c) + bit (is_odd_cell v.kind v.sizes d)) face (entry c)
        (by_steps s.same_parity (turned_parity s.same_parity (is_odd_cell v.kind v.sizes d) (is_odd_cell v.kind v.sizes c) j.parity))

  -- the rule across seams
  pub matches : (c f d g m : ℕ) (face : List ℕ) → In c (pieces_of v t).cells → f < (pieces_of v t).facets → (pieces_of v t).across c f ≡ Some (d, g)
      → sorted face ≡ face → AllBipolar (pieces_of v t) c face → AllIn (pieces_of v t) f face →
      local_count (pieces_of v t) d m (map ((pieces_of v t).seam c f) face)
      ≡ local_count (pieces_of v t) c (m + 1 + bit ((pieces_of v t).is_odd_cell c) + bit ((pieces_of v t).is_odd_cell d)) face
  matches c f d g m face is_cell is_facet across ascends bipolar lies =
      let s = seam_joins v regular signs c f d g is_cell is_facet across in
      matches_by c f d g m face is_cell is_facet across ascends bipolar lies s.0 s.1 s.2

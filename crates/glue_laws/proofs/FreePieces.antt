-- A face of one cell stands once in all where its numbers lie in a facet with no cell across, of this cell or another, and else once with each sign.
use Rattle.std.proofs.Common.{◌≡◌, ℕ, ◌+◌, ◌<◌, ◌≤◌, true, List, Option, Some, None, refl, ap, sym, ◌∙◌, subst, arith, inl, inr}
use Rattle.std.specs.Prelude.{map, ◌⊎◌, not}
use Rattle.std.proofs.lemmas.Bool.{cases_eq}
use Rattle.std.proofs.lemmas.Slice.Eq.{bytes_eq-Decides}
use Rattle.lists.specs.Orders.{sorted, inversions, is_odd, is_distinct}
use Rattle.mesh_laws.proofs.FaceSigns.{Part, left_out, is_face, is_signed_face, has_signed, Each-sorted, from_Each-sorted, left_out-Part}
use Rattle.glue_laws.proofs.Pieces.{Pieces, AllIn, Has, local_count, placed_count, Laws, OnFree}
use Rattle.glue_laws.proofs.SignCounts.{both_signs}
use Rattle.glue_laws.proofs.InFacets.{some_facet_or}
use Rattle.glue_laws.proofs.OrderKept.{sorted_twice}
use Rattle.glue_laws.proofs.OneFace.{none_some, LocalFace, the_face, over, bipolar_part, bipolar_sorted, same_face, shared, within, lies_once}
use Rattle.glue_laws.proofs.OneFace.{lies_sorted, only, is_across, at_end, at_end_few, is_neighbour, over_lies, over_places, between}
use Rattle.lists.specs.Members.{In, Each}
use Rattle.lists.proofs.Tests.{and_left, and_right}
use Rattle.lists.proofs.MemberLaws.{from_any, Each-In, Each-from_In, Each-map, from_Each-map}
use Rattle.lists.proofs.Sorting.{bit, sorted-map-sorted}
use Rattle.lists.proofs.Counts.{from_count}
use Rattle.std.proofs.lemmas.Option.{same_Some}

-- the number is the place of a bipolar edge of the facet of the cell
abbrev pub HasIn : (p : Pieces) → ℕ → ℕ → ℕ → Type 0
HasIn p c f k = (e : ℕ) × (p.is_bipolar c e ≡ true) × (p.in_facet f e ≡ true) × (p.place c e ≡ k)

module _ (p : Pieces) (laws : Laws p) (x : LocalFace p) where
  -- a facet of the cell that holds the face's numbers holds the part
  lies_here : (f : ℕ) → Each (HasIn p x.cell f) (the_face p x) → AllIn p f x.part
  lies_here f all =
      let places = from_Each-map (HasIn p x.cell f) (p.place x.cell) x.part (from_Each-sorted (HasIn p x.cell f) (map (p.place x.cell) x.part) all) in
      Each-from_In _ x.part (λ y i.
      let e = Each-In _ x.part places y i in
      let same : e.0 ≡ y =
      sym (laws.back x.cell e.0 x.is_cell e.1) ∙ ap (p.local x.cell) e.3
      ∙ laws.back x.cell y x.is_cell (Each-In (λ z. p.is_bipolar x.cell z ≡ true) x.part (bipolar_part p laws x) y i) in
      subst (λ (v : ℕ). p.in_facet f v ≡ true) same e.2)

  -- the face lies on a free facet of its own cell where the part lies in one
  free_of_own : (f : ℕ) → f < p.facets → p.across x.cell f ≡ None → AllIn p f x.part → OnFree p (the_face p x)
  free_of_own f is_facet none lies = record {
    cell = x.cell;
    facet = f;
    is_cell = x.is_cell;
    is_facet = is_facet;
    none_across = none;
    lies = Each-sorted _ (map (p.place x.cell) x.part)
        (Each-map _ (p.place x.cell) x.part
        (Each-from_In _ x.part
        (λ y i. (
          y,
          Each-In (λ z. p.is_bipolar x.cell z ≡ true) x.part (bipolar_part p laws x) y i,
          Each-In (λ z. p.in_facet f z ≡ true) x.part lies y i,
          refl,
        ))));
  }

module _ (p : Pieces) (laws : Laws p) (x : LocalFace p) where
  -- a tuple of the cell across with the face
  pub record FaceAcross (d f : ℕ) : Type 0 where
    pub tuple : List ℕ
    pub part : List ℕ
    pub is_tuple : In tuple (p.entry d)
    pub is_part : Part part tuple
    pub is_over : sorted part ≡ over p x f

  -- the cell across has a tuple with the face
  pub face_across : (f d g : ℕ) → f < p.facets → AllIn p f x.part → p.across x.cell f ≡ Some (d, g) → FaceAcross d f
  face_across f d g h lies across =
      let zero_part =
      laws.matches x.cell f d g 0 (sorted x.part) x.is_cell h across (sorted_twice x.part) (bipolar_sorted p laws x)
      (lies_sorted p laws x f h lies) in
      let one_part =
      laws.matches x.cell f d g 1 (sorted x.part) x.is_cell h across (sorted_twice x.part) (bipolar_sorted p laws x)
      (lies_sorted p laws x f h lies) in
      let both =
      both_signs (sorted x.part) (p.entry x.cell) (0 + 1 + bit (p.is_odd_cell x.cell) + bit (p.is_odd_cell d))
      (1 + 1 + bit (p.is_odd_cell x.cell) + bit (p.is_odd_cell d)) (omega arith) in
      let once = lies_once p laws x f h lies in
      let some : local_count p d 0 (over p x f) + local_count p d 1 (over p x f) ≡ 1 = omega (arith, zero_part, one_part, both, once) in
      elim (one_of (local_count p d 0 (over p x f)) (local_count p d 1 (over p x f)) some) [
        | inl k ↦ from_local 0 k
        | inr k ↦ from_local 1 k
      ]
    where
      one_of : (a b : ℕ) → a + b ≡ 1 → (1 ≤ a) ⊎ (1 ≤ b)
      one_of a b e = grind arith

      from_local : (m : ℕ) → 1 ≤ local_count p d m (over p x f) → FaceAcross d f
      from_local m k =
          let r = from_count (has_signed m (over p x f)) (p.entry d) k in
          let s = from_any (is_signed_face m (over p x f)) (left_out r.0) (and_right (is_distinct r.0) _ r.2) in
          record {
            tuple = r.0;
            part = s.0.1;
            is_tuple = r.1;
            is_part = left_out-Part r.0 s.0 s.1;
            is_over = (bytes_eq-Decides (sorted s.0.1) (over p x f)).0 (and_left (is_face (over p x f) s.0) (not (is_odd (s.0.0 + inversions s.0.1 + m))) s.2);
          }

  few_in_facet : (f : ℕ) → f < p.facets → AllIn p f x.part → (o : Option (ℕ × ℕ)) → p.across x.cell f ≡ o → (m : ℕ) → placed_count p m (the_face p x) ≤ 1
  few_in_facet f h lies None across m = at_end_few p laws x f h lies across m
  few_in_facet f h lies (Some d) across m = let e = between p laws x f h lies d.0 d.1 across m in omega (arith, e)

  -- no face stands twice with one sign
  pub few_placed : (m : ℕ) → placed_count p m (the_face p x) ≤ 1
  few_placed m = elim (some_facet_or p p.facets x.part) [
    | inl s ↦ few_in_facet s.0 s.1 s.2 (p.across x.cell s.0) refl m
    | inr none ↦ (let e = within p laws x none m in omega (arith, e))
  ]

  alone_in_facet : (f : ℕ) → f < p.facets → AllIn p f x.part → (o : Option (ℕ × ℕ)) → p.across x.cell f ≡ o → (m : ℕ) → placed_count p m (the_face p x) ≡ 0 →
      (g : ℕ) × (g < p.facets) × AllIn p g x.part × (p.across x.cell g ≡ None)
  alone_in_facet f h lies None across m lacks = (f, h, lies, across)
  alone_in_facet f h lies (Some d) across m lacks = absurd (let e = between p laws x f h lies d.0 d.1 across m in omega (arith, e, lacks))

  -- a face that stands with one sign alone lies in a free facet of its cell
  pub alone_is_free : (m : ℕ) → placed_count p m (the_face p x) ≡ 0 → (g : ℕ) × (g < p.facets) × AllIn p g x.part × (p.across x.cell g ≡ None)
  alone_is_free m lacks = elim (some_facet_or p p.facets x.part) [
    | inl s ↦ alone_in_facet s.0 s.1 s.2 (p.across x.cell s.0) refl m lacks
    | inr none ↦ absurd (let e = within p laws x none m in omega (arith, e, lacks))
  ]

  -- off the free facets
  in_facet_off : (f : ℕ) → f < p.facets → AllIn p f x.part → (o : Option (ℕ × ℕ)) → p.across x.cell f ≡ o → ¬ OnFree p (the_face p x) → (m : ℕ)
      → placed_count p m (the_face p x) ≡ 1
  in_facet_off f h lies None across off m = absurd (off (free_of_own p laws x f h across lies))
  in_facet_off f h lies (Some d) across off m = between p laws x f h lies d.0 d.1 across m

  -- a face on no free facet stands once with each sign
  pub off_boundary : ¬ OnFree p (the_face p x) → (m : ℕ) → placed_count p m (the_face p x) ≡ 1
  off_boundary off m = elim (some_facet_or p p.facets x.part) [
    | inl s ↦ in_facet_off s.0 s.1 s.2 (p.across x.cell s.0) refl off m
    | inr none ↦ within p laws x none m
  ]

-- the face of the cell across
abbrev pub across_face : (p : Pieces) (laws : Laws p) (x : LocalFace p) (f d g : ℕ) → f < p.facets → AllIn p f x.part
    → p.across x.cell f ≡ Some (d, g) → LocalFace p
across_face p laws x f d g h lies across =
    let w = face_across p laws x f d g h lies across in
    record { cell = d; tuple = w.tuple; part = w.part; is_cell = (is_neighbour p laws x f h lies d g across).0; is_tuple = w.is_tuple; is_part = w.is_part }

module _ (p : Pieces) (laws : Laws p) (x : LocalFace p) (on : OnFree p (the_face p x)) where
  on_own : on.cell ≡ x.cell → AllIn p on.facet x.part
  on_own same = lies_here p laws x on.facet (subst (λ (d : ℕ). Each (HasIn p d on.facet) (the_face p x)) same on.lies)

  on_has : Each (Has p on.cell) (the_face p x)
  on_has = Each-from_In _ (the_face p x) (λ k i. let e = Each-In _ (the_face p x) on.lies k i in (e.0, e.1, e.3))

  -- the free facet is one of the own cell, or one of the cell across
  not_within : ((f : ℕ) → f < p.facets → ¬ AllIn p f x.part) → ⊥
  not_within none = elim (cases_eq on.cell x.cell) [
    | inl same ↦ none on.facet on.is_facet (on_own same)
    | inr differ ↦ (let s = shared p laws x on.cell on.is_cell (λ e. differ (sym e)) on_has in none s.0 s.1 s.2)
  ]

  -- the cell across has the face too, and there it lies in the facet across alone
  across_clash : (f d g : ℕ) → f < p.facets → AllIn p f x.part → p.across x.cell f ≡ Some (d, g) → on.cell ≡ d → ⊥
  across_clash f d g h lies across same =
      let there = is_neighbour p laws x f h lies d g across in
      let w = face_across p laws x f d g h lies across in
      let y = across_face p laws x f d g h lies across in
      let face_is : the_face p x ≡ sorted (map (p.place d) w.part) =
      sym (same_face p laws x) ∙ ap sorted (sym (over_places p laws x f h lies d g across))
      ∙ ap (λ (v : List ℕ). sorted (map (p.place d) v)) (sym w.is_over) ∙ sorted-map-sorted (p.place d) w.part in
      let in_g : AllIn p g w.part = from_Each-sorted _ w.part (subst (AllIn p g) (sym w.is_over) (over_lies p laws x f h lies d g across)) in
      let in_on : AllIn p on.facet w.part =
      lies_here p laws y on.facet
      (subst (λ (v : List ℕ). Each (HasIn p d on.facet) v) face_is (subst (λ (v : ℕ). Each (HasIn p v on.facet) (the_face p x)) same on.lies)) in
      let facet_is : on.facet ≡ g = only p laws y g there.2 in_g on.facet on.is_facet in_on in
      none_some ⊥ (p.across d g) (x.cell, f)
      (subst (λ (v : ℕ). p.across d v ≡ None) facet_is (subst (λ (v : ℕ). p.across v on.facet ≡ None) same on.none_across)) there.3

  not_between : (f d g : ℕ) → f < p.facets → AllIn p f x.part → p.across x.cell f ≡ Some (d, g) → ⊥
  not_between f d g h lies across = elim (cases_eq on.cell x.cell) [
    | inl same ↦ none_some ⊥ (p.across x.cell f) (d, g)
        (subst (λ (v : ℕ). p.across v f ≡ None) same
        (subst (λ (v : ℕ). p.across on.cell v ≡ None) (only p laws x f h lies on.facet on.is_facet (on_own same)) on.none_across))
        across
    | inr differ ↦ (let r = is_across p laws x f h lies on.cell on.is_cell (λ e. differ (sym e)) on_has in
        across_clash f d g h lies across (ap (λ (y : ℕ × ℕ). y.0) (same_Some (on.cell, r.0) (d, g) (sym r.1 ∙ across))))
  ]

  in_facet_on : (f : ℕ) → f < p.facets → AllIn p f x.part → (o : Option (ℕ × ℕ)) → p.across x.cell f ≡ o
      → placed_count p 0 (the_face p x) + placed_count p 1 (the_face p x) ≡ 1
  in_facet_on f h lies None across = at_end p laws x f h lies across
  in_facet_on f h lies (Some d) across = absurd (not_between f d.0 d.1 h lies across)

  -- a face on a free facet stands once in all
  pub on_boundary : placed_count p 0 (the_face p x) + placed_count p 1 (the_face p x) ≡ 1
  on_boundary = elim (some_facet_or p p.facets x.part) [
    | inl s ↦ in_facet_on s.0 s.1 s.2 (p.across x.cell s.0) refl
    | inr none ↦ absurd (not_within none)
  ]

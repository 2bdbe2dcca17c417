-- How often the placed simplices have one face of one cell, with each sign: once where it lies in no facet, once in all in a facet with no cell
-- across, and once in a facet between two cells.
use Rattle.std.proofs.Common.{◌≡◌, ℕ, ◌+◌, ◌<◌, ◌≤◌, true, List, [], ◌∷◌, Option, Some, None, refl, ap, sym, ◌∙◌, subst, arith, inl, inr}
use Rattle.std.specs.Prelude.{map, count_by, sum_by, ◌≢◌}
use Rattle.lists.specs.Orders.{sorted, inversions}
use Rattle.mesh_laws.proofs.FaceSigns.{Part, has_signed, Part-Each, Each-sorted, from_Each-sorted}
use Rattle.glue_laws.proofs.Pieces.{Pieces, AllBipolar, AllIn, Has, local_count, piece, placed_count, Laws}
use Rattle.glue_laws.proofs.OrderKept.{sorted_twice}
use Rattle.glue_laws.proofs.SignCounts.{both_signs, each_sign}
use Rattle.glue_laws.proofs.OwnPart.{own_count, adds_nothing}
use Rattle.lists.specs.Members.{In, Each}
use Rattle.lists.proofs.MemberLaws.{Each-In, Each-from_In, Each-map, from_Each-map}
use Rattle.lists.proofs.Sorting.{bit, sorted-map-sorted}
use Rattle.lists.proofs.Counts.{sum_one, sum_two, count-flat_map}
use Rattle.lists.proofs.Ascending.{ascending-map}
use Rattle.std.proofs.lemmas.Option.{same_Some}

-- an option is not both with a value and without
pub none_some : {T : Type 0} (P : Type 0) (o : Option T) (x : T) → o ≡ None → o ≡ Some x → P
none_some P o x h k = cc

-- a face of a tuple of a cell's entry: the edges of a part of the tuple
pub record LocalFace (p : Pieces) : Type 0 where
  pub cell : ℕ
  pub tuple : List ℕ
  pub part : List ℕ
  pub is_cell : In cell p.cells
  pub is_tuple : In tuple (p.entry cell)
  pub is_part : Part part tuple

-- the places of its edges, in ascending order
abbrev pub the_face : (p : Pieces) → LocalFace p → List ℕ
the_face p x = sorted (map (p.place x.cell) x.part)

-- the parity of these places that both sides of a facet share
abbrev pub common : (p : Pieces) → LocalFace p → ℕ
common p x = inversions (map (p.place x.cell) (sorted x.part))

-- its edges in the cell across a facet
abbrev pub over : (p : Pieces) → LocalFace p → ℕ → List ℕ
over p x f = map (p.seam x.cell f) (sorted x.part)

module _ (p : Pieces) (laws : Laws p) (x : LocalFace p) where
  -- its edges are bipolar
  pub bipolar_part : AllBipolar p x.cell x.part
  bipolar_part = Part-Each (λ e. p.is_bipolar x.cell e ≡ true) x.is_part (laws.tuples x.cell x.tuple x.is_cell x.is_tuple).bipolar

  -- and so they are in ascending order
  pub bipolar_sorted : AllBipolar p x.cell (sorted x.part)
  bipolar_sorted = Each-sorted (λ e. p.is_bipolar x.cell e ≡ true) x.part bipolar_part

  -- the ascending edges have the same places
  pub same_face : sorted (map (p.place x.cell) (sorted x.part)) ≡ the_face p x
  same_face = sorted-map-sorted (p.place x.cell) x.part

  own : (m : ℕ) → count_by (has_signed m (the_face p x)) (piece p x.cell) ≡ local_count p x.cell (m + common p x + bit (p.is_odd_cell x.cell)) (sorted x.part)
  own m =
      subst
      (λ (v : List ℕ).
      count_by (has_signed m v) (piece p x.cell) ≡ local_count p x.cell (m + common p x + bit (p.is_odd_cell x.cell)) (sorted x.part))
      same_face
      (own_count p laws x.cell m (sorted x.part) x.is_cell (sorted_twice x.part) bipolar_sorted)

  -- a cell that has all its numbers has all places of the part
  has_places : (d : ℕ) → Each (Has p d) (the_face p x) → Each (λ e. Has p d (p.place x.cell e)) x.part
  has_places d all = from_Each-map (Has p d) (p.place x.cell) x.part (from_Each-sorted (Has p d) (map (p.place x.cell) x.part) all)

  -- so the part lies in a facet, and the cell is the one across where the facet is the only one
  pub shared : (d : ℕ) → In d p.cells → x.cell ≢ d → Each (Has p d) (the_face p x) →
      (f : ℕ) × (f < p.facets) × AllIn p f x.part × (((g : ℕ) → g < p.facets → AllIn p g x.part → g ≡ f) → (g : ℕ) × (p.across x.cell f ≡ Some (d, g)))
  shared d i differ all = laws.shares x.cell d x.part x.is_cell i differ bipolar_part (has_places d all)

  whole : (m : ℕ) (face : List ℕ) → placed_count p m face ≡ sum_by (λ d. count_by (has_signed m face) (piece p d)) p.cells
  whole m face = count-flat_map (has_signed m face) (piece p) p.cells

  -- where no other cell has the face, the count is the cell's own
  alone : (m : ℕ) → ((d : ℕ) → In d p.cells → x.cell ≢ d → ¬ Each (Has p d) (the_face p x)) →
      placed_count p m (the_face p x) ≡ local_count p x.cell (m + common p x + bit (p.is_odd_cell x.cell)) (sorted x.part)
  alone m others =
      whole m (the_face p x)
      ∙ sum_one (λ d. count_by (has_signed m (the_face p x)) (piece p d)) p.cells x.cell laws.cells_distinct x.is_cell
      (λ d i differ. adds_nothing p laws d m (the_face p x) i (others d i (λ e. differ (sym e))))
      ∙ own m

  -- in no facet: once with each sign
  pub within : ((f : ℕ) → f < p.facets → ¬ AllIn p f x.part) → (m : ℕ) → placed_count p m (the_face p x) ≡ 1
  within none m =
      let pair = laws.inside x.cell x.tuple x.part x.is_cell x.is_tuple x.is_part none in
      alone m (λ d i differ all. let s = shared d i differ all in none s.0 s.1 s.2)
      ∙ each_sign (sorted x.part) (p.entry x.cell) (m + common p x + bit (p.is_odd_cell x.cell)) pair.0 pair.1

  module _ (f : ℕ) (is_facet : f < p.facets) (lies : AllIn p f x.part) where
    -- the entry of the cell has it once
    pub lies_once : local_count p x.cell 0 (sorted x.part) + local_count p x.cell 1 (sorted x.part) ≡ 1
    lies_once = laws.once x.cell x.tuple x.part f x.is_cell x.is_tuple x.is_part is_facet lies

    -- in ascending order too it lies in the facet
    pub lies_sorted : AllIn p f (sorted x.part)
    lies_sorted = Each-sorted (λ e. p.in_facet f e ≡ true) x.part lies

    -- it lies in no other facet
    pub only : (g : ℕ) → g < p.facets → AllIn p g x.part → g ≡ f
    only g h a = laws.one_facet x.cell x.tuple x.part g f x.is_cell x.is_tuple x.is_part h is_facet a lies

    -- another cell that has the face is the one across
    pub is_across : (d : ℕ) → In d p.cells → x.cell ≢ d → Each (Has p d) (the_face p x) → (g : ℕ) × (p.across x.cell f ≡ Some (d, g))
    is_across d i differ all =
        let s = shared d i differ all in
        let same : s.0 ≡ f = only s.0 s.1 s.2 in
        let r = s.3 (λ g h a. only g h a ∙ sym same) in
        (r.0, subst (λ (v : ℕ). p.across x.cell v ≡ Some (d, r.0)) same r.1)

    no_others : p.across x.cell f ≡ None → (d : ℕ) → In d p.cells → x.cell ≢ d → ¬ Each (Has p d) (the_face p x)
    no_others none d i differ all = let r = is_across d i differ all in none_some ⊥ (p.across x.cell f) (d, r.0) none r.1

    -- in a facet with no kept cell across: once in all
    pub at_end : p.across x.cell f ≡ None → placed_count p 0 (the_face p x) + placed_count p 1 (the_face p x) ≡ 1
    at_end none =
        let zero_part = alone 0 (no_others none) in
        let one_part = alone 1 (no_others none) in
        let both =
        both_signs (sorted x.part) (p.entry x.cell) (0 + common p x + bit (p.is_odd_cell x.cell)) (1 + common p x + bit (p.is_odd_cell x.cell))
        (omega arith) in
        omega (arith, zero_part, one_part, both, lies_once)

    -- and so at most once with each sign
    pub at_end_few : p.across x.cell f ≡ None → (m : ℕ) → placed_count p m (the_face p x) ≤ 1
    at_end_few none m =
        let part = alone m (no_others none) in
        let both =
        both_signs (sorted x.part) (p.entry x.cell) (m + common p x + bit (p.is_odd_cell x.cell))
        (m + 1 + common p x + bit (p.is_odd_cell x.cell)) (omega arith) in
        omega (arith, part, both, lies_once)

    module _ (d g : ℕ) (across : p.across x.cell f ≡ Some (d, g)) where
      -- the cell across is a kept one, another one, and leads back
      pub is_neighbour : In d p.cells × (x.cell ≢ d) × (g < p.facets) × (p.across d g ≡ Some (x.cell, f))
      is_neighbour = laws.leads_back x.cell f d g x.is_cell is_facet across

      in_facet_at : (e : ℕ) → In e (sorted x.part) → p.in_facet f e ≡ true
      in_facet_at e i = Each-In (λ y. p.in_facet f y ≡ true) (sorted x.part) lies_sorted e i

      keeps : (e : ℕ) → In e (sorted x.part)
          → (p.is_bipolar d (p.seam x.cell f e) ≡ true) × (p.in_facet g (p.seam x.cell f e) ≡ true)
          × (p.place d (p.seam x.cell f e) ≡ p.place x.cell e)
      keeps e i =
          laws.seam_keeps x.cell f d g e x.is_cell is_facet across (Each-In (λ y. p.is_bipolar x.cell y ≡ true) (sorted x.part) bipolar_sorted e i)
          (in_facet_at e i)

      over_bipolar : AllBipolar p d (over p x f)
      over_bipolar = Each-map (λ e. p.is_bipolar d e ≡ true) (p.seam x.cell f) (sorted x.part) (Each-from_In _ (sorted x.part) (λ e i. (keeps e i).0))

      -- there the edges lie in its facet
      pub over_lies : AllIn p g (over p x f)
      over_lies = Each-map (λ e. p.in_facet g e ≡ true) (p.seam x.cell f) (sorted x.part) (Each-from_In _ (sorted x.part) (λ e i. (keeps e i).1))

      bipolar_at : (e : ℕ) → In e (sorted x.part) → p.is_bipolar x.cell e ≡ true
      bipolar_at e i = Each-In (λ y. p.is_bipolar x.cell y ≡ true) (sorted x.part) bipolar_sorted e i

      over_ascends : sorted (over p x f) ≡ over p x f
      over_ascends =
          ascending-map (p.seam x.cell f) (sorted x.part)
          (λ a b i j h.
          laws.seam_order x.cell f d g a b x.is_cell is_facet across (bipolar_at a i) (bipolar_at b j) (in_facet_at a i) (in_facet_at b j) h)
          (sorted_twice x.part)

      -- the two lists of places are the same, so both sides share their parity
      pub over_places : map (p.place d) (over p x f) ≡ map (p.place x.cell) (sorted x.part)
      over_places = same_places (sorted x.part) (λ e i. (keeps e i).2)
        where
          same_places : (es : List ℕ) → ((e : ℕ) → In e es → p.place d (p.seam x.cell f e) ≡ p.place x.cell e)
              → map (p.place d) (map (p.seam x.cell f) es) ≡ map (p.place x.cell) es
          same_places [] same = refl
          same_places (e ∷ es) same = rw (same e (inl refl), same_places es (λ y i. same y (inr i))) refl

      -- what the cell across adds is what the own entry has with the other sign
      others_part : (m : ℕ)
          → count_by (has_signed m (the_face p x)) (piece p d)
          ≡ local_count p x.cell (m + common p x + bit (p.is_odd_cell d) + 1 + bit (p.is_odd_cell x.cell) + bit (p.is_odd_cell d))
          (sorted x.part)
      others_part m =
          let face_is : sorted (map (p.place d) (over p x f)) ≡ the_face p x = ap sorted over_places ∙ same_face in
          let first = own_count p laws d m (over p x f) is_neighbour.0 over_ascends over_bipolar in
          let second : local_count p d (m + inversions (map (p.place d) (over p x f)) + bit (p.is_odd_cell d)) (over p x f)
          ≡ local_count p d (m + common p x + bit (p.is_odd_cell d)) (over p x f) =
          ap (λ (v : List ℕ). local_count p d (m + inversions v + bit (p.is_odd_cell d)) (over p x f)) over_places in
          subst
          (λ (v : List ℕ).
          count_by (has_signed m v) (piece p d)
          ≡ local_count p d (m + inversions (map (p.place d) (over p x f)) + bit (p.is_odd_cell d)) (over p x f))
          face_is first
          ∙ second
          ∙ laws.matches x.cell f d g (m + common p x + bit (p.is_odd_cell d)) (sorted x.part) x.is_cell is_facet across (sorted_twice x.part)
          bipolar_sorted lies_sorted

      -- in a facet with a kept cell across: once with each sign
      pub between : (m : ℕ) → placed_count p m (the_face p x) ≡ 1
      between m =
          let zeros : (e : ℕ) → In e p.cells → e ≢ x.cell → e ≢ d → count_by (has_signed m (the_face p x)) (piece p e) ≡ 0 =
          λ e i not_own not_d. adds_nothing p laws e m (the_face p x) i (λ all.
          let r = is_across e i (λ s. not_own (sym s)) all in
          not_d (sym (ap (λ (y : ℕ × ℕ). y.0) (same_Some (d, g) (e, r.0) (sym across ∙ r.1))))) in
          let two =
          sum_two (λ e. count_by (has_signed m (the_face p x)) (piece p e)) p.cells x.cell d laws.cells_distinct is_neighbour.1 x.is_cell
          is_neighbour.0 zeros in
          let both =
          both_signs (sorted x.part) (p.entry x.cell) (m + common p x + bit (p.is_odd_cell x.cell))
          (m + common p x + bit (p.is_odd_cell d) + 1 + bit (p.is_odd_cell x.cell) + bit (p.is_odd_cell d)) (omega arith) in
          omega (arith, whole m (the_face p x), two, own m, others_part m, both, lies_once)

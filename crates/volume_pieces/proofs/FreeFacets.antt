-- Edges of a kept cell lie in a free facet exactly where they do as edges of a piece: in a facet of a cell across which there is no kept cell.
use Rattle.std.proofs.Common.{◌≡◌, ℕ, ◌<◌, Bool, true, false, not, cond, ◌&&◌, List, [], ◌∷◌, length, Some, None, refl, ap, sym, ◌∙◌, subst, inl, inr}
use Rattle.std.specs.Prelude.{◌↔◌, ◌==◌, map, find, Contains}
use Rattle.std.proofs.lemmas.List.Elements.{All-map}
use Rattle.std.proofs.lemmas.Option.{none-some}
use Rattle.lists.specs.Orders.{numbers}
use Rattle.iso_model.specs.Cells.{corner_count, edge_count, edge_ends, facet_count, facet_corners, corner_in_facet, edge_in_facet}
use Rattle.iso_model.specs.Splits.{Edge, edge, corner}
use Rattle.iso_model.specs.Neighbours.{facet_points, LiesIn}
use Rattle.iso_model.specs.Values.{Volume, IsRegularVolume, cells}
use Rattle.iso_model.specs.Bipolar.{bipolar_edges, bipolar_edge}
use Rattle.iso_model.specs.Boundary.{IsFree, OnBoundary, same_points}
use Rattle.iso_model.specs.Tables.{Table}
use Rattle.iso_model.proofs.BoundaryLaws.{same_points-Decides}
use Rattle.iso_model.proofs.DimensionLaws.{dimension_cases}
use Rattle.iso_model.specs.Dimensions.{IsDimension}
use Rattle.split_laws.proofs.Offsets.{in_facet, of_facet}
use Rattle.split_laws.proofs.Sharing.{ends_of_edge}
use Rattle.split_laws.proofs.Passed.{ends_are_corners}
use Rattle.glue_laws.proofs.Pieces.{Has, OnFree}
use Rattle.volume_pieces.proofs.PiecesOf.{pieces_of, kept_facets, across_of}
use Rattle.volume_pieces.proofs.Edges.{bipolar_is, place_edge, has_at}
use Rattle.volume_pieces.proofs.Chords.{IsBetween, edge_there}
use Rattle.lists.specs.Members.{In, Each}
use Rattle.lists.proofs.Tests.{and_left, and_right, differ_test, test_differ}
use Rattle.lists.proofs.Contained.{All-from_each, each-from_All, below_contained, contained_below}
use Rattle.lists.proofs.MemberLaws.{In_from_place, Contains_from, In-map, from_In-map, In-flat_map, from_In-flat_map, Each-In, Each-from_In, In_from}
use Rattle.std.proofs.lemmas.Bool.{and_from}

-- ---- lists

found_none_case : {X : Type 0} (p : X → Bool) (x y : X) (xs : List X) → (find p xs ≡ None → In x xs → p x ≡ true → ⊥) → (b : Bool) → p y ≡ b
    → cond b (Some y) (find p xs) ≡ None → In x (y ∷ xs) → p x ≡ true → ⊥
found_none_case p x y xs later true is none i h = none-some y (sym none)
found_none_case p x y xs later false is none (inl e) h = let clash : true ≡ false = sym h ∙ ap p e ∙ is in absurd (cc)
found_none_case p x y xs later false is none (inr i) h = later none i h

-- where nothing is found no member passes
pub found_none : {X : Type 0} (p : X → Bool) (xs : List X) → find p xs ≡ None → (x : X) → In x xs → p x ≡ true → ⊥
found_none p [] none x i h = absurd i
found_none p (y ∷ xs) none x i h = found_none_case p x y xs (λ n j q. found_none p xs n x j q) (p y) refl none i h

none_found_case : {X : Type 0} (p : X → Bool) (y : X) (xs : List X) → find p xs ≡ None → (b : Bool) → (b ≡ true → ⊥) → cond b (Some y) (find p xs) ≡ None
none_found_case p y xs later true fails = absurd (fails refl)
none_found_case p y xs later false fails = later

-- and where no member passes nothing is found
pub none_found : {X : Type 0} (p : X → Bool) (xs : List X) → ((x : X) → In x xs → p x ≡ true → ⊥) → find p xs ≡ None
none_found p [] fails = refl
none_found p (y ∷ xs) fails = none_found_case p y xs (none_found p xs (λ x i. fails x (inr i))) (p y) (fails y (inl refl))

module _ (v : Volume) where
  -- ---- free facets

  abbrev another : ℕ → ℕ → ℕ × ℕ → Bool
  another c f dg = not (dg.0 == c) && same_points (facet_points v.kind v.sizes c f) (facet_points v.kind v.sizes dg.0 dg.1)

  abbrev facet_of : ℕ → ℕ → ℕ × ℕ
  facet_of d g = (d, g)

  -- a facet is free where there is no kept cell across it
  pub free_from_none : (c f : ℕ) → across_of v c f ≡ None → IsFree v c f
  free_from_none c f none other g kept apart hg same =
      let in_cells : In other (cells v) = In_from_place (cells v) other kept.0 kept.1 kept.2 in
      let at = contained_below (facet_count v.kind (length v.sizes)) g hg in
      let in_facets =
      In-map (facet_of other) (numbers (facet_count v.kind (length v.sizes))) g
      (In_from_place (numbers (facet_count v.kind (length v.sizes))) g at.0 at.1 at.2) in
      let in_kept : In (facet_of other g) (kept_facets v) =
      In-flat_map (λ d. map (facet_of d) (numbers (facet_count v.kind (length v.sizes)))) (cells v) other (facet_of other g) in_cells in_facets in
      found_none (another c f) (kept_facets v) none (facet_of other g) in_kept
      (and_from (not (other == c)) (same_points (facet_points v.kind v.sizes c f) (facet_points v.kind v.sizes other g)) (test_differ other c apart)
      ((same_points-Decides (facet_points v.kind v.sizes c f) (facet_points v.kind v.sizes other g)).1 same))

  -- and only there
  pub none_from_free : (c f : ℕ) → IsFree v c f → across_of v c f ≡ None
  none_from_free c f free = none_found (another c f) (kept_facets v) (λ dg i t.
      let first = from_In-flat_map (λ d. map (facet_of d) (numbers (facet_count v.kind (length v.sizes)))) (cells v) dg i in
      let second = from_In-map (facet_of first.0) (numbers (facet_count v.kind (length v.sizes))) dg first.2 in
      let cell_is : dg.0 ≡ first.0 = ap (λ (p : ℕ × ℕ). p.0) second.2 in
      let facet_is : dg.1 ≡ second.0 = ap (λ (p : ℕ × ℕ). p.1) second.2 in
      let kept : Contains (cells v) dg.0 = subst (Contains (cells v)) (sym cell_is) (Contains_from (cells v) first.0 first.1) in
      let hg : dg.1 < facet_count v.kind (length v.sizes) =
      subst (λ (g : ℕ). g < facet_count v.kind (length v.sizes)) (sym facet_is)
      (below_contained (facet_count v.kind (length v.sizes)) second.0
      (Contains_from (numbers (facet_count v.kind (length v.sizes))) second.0 second.1)) in
      free dg.0 dg.1 kept
      (differ_test dg.0 c (and_left (not (dg.0 == c)) (same_points (facet_points v.kind v.sizes c f) (facet_points v.kind v.sizes dg.0 dg.1)) t))
      hg
      ((same_points-Decides (facet_points v.kind v.sizes c f) (facet_points v.kind v.sizes dg.0 dg.1)).0
      (and_right (not (dg.0 == c)) (same_points (facet_points v.kind v.sizes c f) (facet_points v.kind v.sizes dg.0 dg.1)) t)))

  module _ (regular : IsRegularVolume v) where
    abbrev dimension : IsDimension (length v.sizes)
    dimension = dimension_cases v.kind (length v.sizes) regular.fits

    -- ---- points and edges of a facet

    -- a corner in a facet is one of its points
    pub corner_lies : (c f k : ℕ) → k < corner_count v.kind (length v.sizes) → corner_in_facet v.kind f k ≡ true → (p : List ℕ)
        → corner v.kind v.sizes c k ≡ p → Contains (facet_points v.kind v.sizes c f) p
    corner_lies c f k hk inside p is =
        Contains_from (facet_points v.kind v.sizes c f) p
        (subst (λ (y : List ℕ). In y (facet_points v.kind v.sizes c f)) is
        (In-map (corner v.kind v.sizes c) (facet_corners v.kind (length v.sizes) f) k (of_facet v.kind (length v.sizes) f k hk inside)))

    -- a point of a facet is a corner in it
    pub corner_of : (c f : ℕ) (p : List ℕ) → Contains (facet_points v.kind v.sizes c f) p
        → (k : ℕ) × (k < corner_count v.kind (length v.sizes)) × (corner_in_facet v.kind f k ≡ true) × (corner v.kind v.sizes c k ≡ p)
    corner_of c f p has =
        let k = from_In-map (corner v.kind v.sizes c) (facet_corners v.kind (length v.sizes) f) p (In_from (facet_points v.kind v.sizes c f) p has) in
        let inside = in_facet v.kind (length v.sizes) f k.0 k.1 in
        (k.0, inside.0, inside.1, sym k.2)

    -- an edge of a facet lies in the facet's points
    pub edge_lies : (c f n : ℕ) → n < edge_count v.kind (length v.sizes) → edge_in_facet v.kind (length v.sizes) f n ≡ true
        → LiesIn (edge v.kind v.sizes c n) (facet_points v.kind v.sizes c f)
    edge_lies c f n hn inside =
        let x : Edge = edge v.kind v.sizes c n in
        let a = (edge_ends v.kind (length v.sizes) n).0 in
        let b = (edge_ends v.kind (length v.sizes) n).1 in
        let ends = ends_are_corners v.kind (length v.sizes) dimension regular.fits n hn in
        let first = and_left (corner_in_facet v.kind f a) (corner_in_facet v.kind f b) inside in
        let second = and_right (corner_in_facet v.kind f a) (corner_in_facet v.kind f b) inside in
        elim (ends_of_edge v.kind v.sizes (ends_are_corners v.kind (length v.sizes) dimension regular.fits) c n x refl) [
          | inl s ↦ (corner_lies c f a ends.0 first x.low s.0, corner_lies c f b ends.1 second x.high s.1)
          | inr s ↦ (corner_lies c f b ends.1 second x.low s.0, corner_lies c f a ends.0 first x.high s.1)
        ]

    between_lies : (f n a b : ℕ) → IsBetween v.kind (length v.sizes) n a b → corner_in_facet v.kind f a ≡ true → corner_in_facet v.kind f b ≡ true
        → edge_in_facet v.kind (length v.sizes) f n ≡ true
    between_lies f n a b (inl s) ha hb =
        and_from (corner_in_facet v.kind f (edge_ends v.kind (length v.sizes) n).0) (corner_in_facet v.kind f (edge_ends v.kind (length v.sizes) n).1)
        (ap (corner_in_facet v.kind f) s.0 ∙ ha) (ap (corner_in_facet v.kind f) s.1 ∙ hb)
    between_lies f n a b (inr s) ha hb =
        and_from (corner_in_facet v.kind f (edge_ends v.kind (length v.sizes) n).0) (corner_in_facet v.kind f (edge_ends v.kind (length v.sizes) n).1)
        (ap (corner_in_facet v.kind f) s.0 ∙ hb) (ap (corner_in_facet v.kind f) s.1 ∙ ha)

    -- an edge of the grid that lies in the points of a cell's facet is an edge of that facet, whichever cell it was taken from
    pub edge_of_facet : (c e d f : ℕ) → e < edge_count v.kind (length v.sizes) → LiesIn (edge v.kind v.sizes c e) (facet_points v.kind v.sizes d f)
        → (n : ℕ) × (n < edge_count v.kind (length v.sizes)) × (edge_in_facet v.kind (length v.sizes) f n ≡ true)
        × (edge v.kind v.sizes d n ≡ edge v.kind v.sizes c e)
    edge_of_facet c e d f he lies =
        let x : Edge = edge v.kind v.sizes c e in
        let a = corner_of d f x.low lies.0 in
        let b = corner_of d f x.high lies.1 in
        let n = edge_there v.kind v.sizes regular.fits c e he d a.0 b.0 a.1 b.1 a.3 b.3 in
        (n.0, n.1, between_lies f n.0 a.0 b.0 n.2 a.2 b.2, n.3)

    -- ---- faces on the boundary

    module _ (t : Table) where
      -- what a free facet of the pieces says of a place
      abbrev InFacet : ℕ → ℕ → ℕ → Type 0
      InFacet c f k = (e : ℕ) × ((pieces_of v t).is_bipolar c e ≡ true) × ((pieces_of v t).in_facet f e ≡ true) × ((pieces_of v t).place c e ≡ k)

      place_lies : (c f k : ℕ) → In c (cells v) → InFacet c f k → LiesIn (bipolar_edge v k) (facet_points v.kind v.sizes c f)
      place_lies c f k i at =
          let same : bipolar_edge v k ≡ edge v.kind v.sizes c at.0 = ap (bipolar_edge v) (sym at.3) ∙ (place_edge v regular t c at.0 i at.1).1 in
          subst (λ (x : Edge). LiesIn x (facet_points v.kind v.sizes c f)) (sym same) (edge_lies c f at.0 (bipolar_is v regular t c at.0 at.1).0 at.2)

      lies_place : (c d f k : ℕ) → In c (cells v) → Has (pieces_of v t) c k → LiesIn (bipolar_edge v k) (facet_points v.kind v.sizes d f) → InFacet d f k
      lies_place c d f k i has lies =
          let at = place_edge v regular t c has.0 i has.1 in
          let same : bipolar_edge v k ≡ edge v.kind v.sizes c has.0 = ap (bipolar_edge v) (sym has.2) ∙ at.1 in
          let n =
          edge_of_facet c has.0 d f (bipolar_is v regular t c has.0 has.1).0
          (subst (λ (x : Edge). LiesIn x (facet_points v.kind v.sizes d f)) same lies) in
          let there = has_at v regular t d k n.0 (subst (λ (m : ℕ). m < length (bipolar_edges v)) has.2 at.0) n.1 (n.3 ∙ sym same) in
          (n.0, there.0, n.2, there.1)

      -- a face of the pieces on a free facet is a face of the mesh on the boundary
      pub on_boundary : (face : List ℕ) → OnFree (pieces_of v t) face → OnBoundary v face
      on_boundary face free = (
        free.cell,
        free.facet,
        Contains_from (cells v) free.cell free.is_cell,
        free.is_facet,
        free_from_none free.cell free.facet free.none_across,
        All-map (λ (x : Edge). LiesIn x (facet_points v.kind v.sizes free.cell free.facet)) (bipolar_edge v) face
            (All-from_each (λ k. LiesIn (bipolar_edge v k) (facet_points v.kind v.sizes free.cell free.facet)) face
            (λ k c.
            place_lies free.cell free.facet k free.is_cell
            (Each-In (InFacet free.cell free.facet) face free.lies k (In_from_place face k c.0 c.1 c.2)))),
      )

      -- the other way round for a face of one kept cell
      pub on_free : (face : List ℕ) (c : ℕ) → In c (cells v) → Each (Has (pieces_of v t) c) face → OnBoundary v face → OnFree (pieces_of v t) face
      on_free face c i all b = record {
        cell = b.0;
        facet = b.1;
        is_cell = In_from_place (cells v) b.0 b.2.0 b.2.1 b.2.2;
        is_facet = b.3;
        none_across = none_from_free b.0 b.1 b.4;
        lies = Each-from_In (InFacet b.0 b.1) face (λ k j.
            lies_place c b.0 b.1 k i (Each-In (Has (pieces_of v t) c) face all k j)
            (each-from_All (λ (x : Edge). LiesIn x (facet_points v.kind v.sizes b.0 b.1)) (map (bipolar_edge v) face) b.5 (bipolar_edge v k)
            (Contains_from (map (bipolar_edge v) face) (bipolar_edge v k) (In-map (bipolar_edge v) face k j))));
      }

      -- so a face of one kept cell is on a free facet of the pieces exactly where it is on the boundary
      pub free_face : (face : List ℕ) (c : ℕ) → In c (cells v) → Each (Has (pieces_of v t) c) face → OnFree (pieces_of v t) face ↔ OnBoundary v face
      free_face face c i all = (on_boundary face, on_free face c i all)

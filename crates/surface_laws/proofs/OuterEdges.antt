-- Where each cell is kept, edges of one cell lie in a free facet exactly where their ends lie on the outer boundary; so it is with the faces of
-- placed simplices.
use Rattle.std.proofs.Common.{◌≡◌, ℕ, zero, suc, ◌+◌, ◌-◌, ◌*◌, ◌<◌, List, [], ◌∷◌, length, refl, ap, sym, ◌∙◌, subst, arith, inl, inr}
use Rattle.std.specs.Prelude.{◌⊎◌, ◌/◌, All, Contains, slice_index}
use Rattle.std.proofs.lemmas.Nat.{div-mul-add, mod-mul-add, mul-add-lt}
use Rattle.std.proofs.Math.Nat.{mul_comm}
use Rattle.iso_model.specs.Cells.{corner_count, edge_ends, facet_count, facet_corners}
use Rattle.iso_model.specs.Points.{point}
use Rattle.iso_model.specs.Splits.{Edge, corner, corner_offset, cells_per_cube, cell_count, cube_count, cube_at, cube_of, rank_of}
use Rattle.iso_model.specs.Neighbours.{facet_points, HasEdge, LiesIn, OnOuterBoundary, ends_of}
use Rattle.iso_model.specs.Values.{Volume, IsRegularVolume}
use Rattle.iso_model.specs.Boundary.{LieInFreeFacet, KeepsAll, BoundaryIsOuter}
use Rattle.iso_model.specs.Surface.{FacesAreOuter}
use Rattle.iso_model.proofs.FaceLaws.{cells_below, faces_are_outer}
use Rattle.iso_model.specs.Dimensions.{IsDimension}
use Rattle.split_laws.proofs.Coordinates.{cube_below, cube_in}
use Rattle.split_laws.proofs.Offsets.{OffsetsFit}
use Rattle.split_laws.proofs.Placement.{below, coordinate_of, small_offset}
use Rattle.split_laws.proofs.Passed.{fits, ends_are_corners}
use Rattle.split_laws.proofs.Sharing.{ends_of_edge}
use Rattle.volume_pieces.proofs.AcrossStands.{volume_dimension}
use Rattle.surface_laws.proofs.SideFacets.{CoversSide, low_side, high_side}
use Rattle.surface_laws.proofs.OuterFacets.{all_cells, outer_is_free, free_is_outer_one}
use Rattle.lists.specs.Members.{In}
use Rattle.lists.proofs.Contained.{All-from_each, each-from_All}
use Rattle.lists.proofs.MemberLaws.{In_from, Contains_from, In-map, from_In-map, In-flat_map, from_In-flat_map}

-- the ends of an edge
abbrev both_ends : Edge → List (List ℕ)
both_ends e = e.low ∷ e.high ∷ []

-- the first cube stands at the first sample
first_cube : (sizes : List ℕ) (i : ℕ) → i < length sizes → slice_index (cube_at sizes 0) i ≡ 0
first_cube [] i h = absurd (omega (arith, h))
first_cube (n ∷ sizes) zero h = omega arith
first_cube (n ∷ sizes) (suc i) h =
    let next : 0 / (n - 1) ≡ 0 = omega arith in
    ap (λ (m : ℕ). slice_index (cube_at sizes m) i) next ∙ first_cube sizes i (omega (arith, h))

module _ (v : Volume) (regular : IsRegularVolume v) where
  abbrev is : IsDimension (length v.sizes)
  is = volume_dimension v regular

  abbrev fit : OffsetsFit v.kind (length v.sizes)
  fit = fits v.kind (length v.sizes) is regular.fits

  abbrev per : ℕ
  per = cells_per_cube v.kind (length v.sizes)

  -- facet f of a cell lies at the value in axis i, and has all corners that the cell c has there
  record HasSide (c i value : ℕ) : Type 0 where
    cell : ℕ
    f : ℕ
    is_cell : cell < cell_count v.kind v.sizes
    is_facet : f < facet_count v.kind (length v.sizes)
    lies : (p : List ℕ) → Contains (facet_points v.kind v.sizes cell f) p → slice_index p i ≡ value
    has : (k : ℕ) → k < corner_count v.kind (length v.sizes) → slice_index (corner v.kind v.sizes c k) i ≡ value
        → Contains (facet_points v.kind v.sizes cell f) (corner v.kind v.sizes c k)

  -- the cell of a rank in the cube of a cell
  module _ (c r : ℕ) (hc : c < cell_count v.kind v.sizes) (hr : r < cells_per_cube v.kind (length v.sizes)) where
    abbrev beside : ℕ
    beside = c / cells_per_cube v.kind (length v.sizes) * cells_per_cube v.kind (length v.sizes) + r

    beside_cube : cube_of v.kind v.sizes beside ≡ cube_of v.kind v.sizes c
    beside_cube = ap (cube_at v.sizes) (div-mul-add (c / per) per r hr)

    beside_rank : rank_of v.kind v.sizes beside ≡ r
    beside_rank = mod-mul-add (c / per) per r hr

    beside_is_cell : beside < cell_count v.kind v.sizes
    beside_is_cell =
        subst (λ (n : ℕ). beside < n) (mul_comm per (cube_count v.sizes)) (mul-add-lt (c / per) per r (cube_count v.sizes) (cube_in v.kind v.sizes c hc) hr)

    -- a corner of it with the same offset is the same point
    corner_beside : (k l : ℕ) → corner_offset v.kind (length v.sizes) (rank_of v.kind v.sizes c) k ≡ corner_offset v.kind (length v.sizes) r l
        → corner v.kind v.sizes c k ≡ corner v.kind v.sizes beside l
    corner_beside k l same =
        ap (λ (o : List ℕ). stand (cube_of v.kind v.sizes c) o) same
        ∙ ap (λ (x : List ℕ). stand x (corner_offset v.kind (length v.sizes) r l)) (sym beside_cube)
        ∙ ap (λ (q : ℕ). stand (cube_of v.kind v.sizes beside) (corner_offset v.kind (length v.sizes) q l)) (sym beside_rank)
      where
        stand : List ℕ → List ℕ → List ℕ
        stand x o = point (length v.sizes) (λ i. 2 * slice_index x i + slice_index o i)

  module _ (c i x value : ℕ) (hc : c < cell_count v.kind v.sizes) (hi : i < length v.sizes)
      (at : 2 * slice_index (cube_of v.kind v.sizes c) i + x ≡ value) where
    side_of : (next : ℕ) × (f : ℕ) × CoversSide v.kind (length v.sizes) (rank_of v.kind v.sizes c) i x next f → HasSide c i value
    side_of s =
        let r : ℕ = s.0 in
        let f : ℕ = s.1 in
        let side : CoversSide v.kind (length v.sizes) (rank_of v.kind v.sizes c) i x r f = s.2 in
        let e : ℕ = beside c r hc side.is_rank in
        record {
          cell = e;
          f = f;
          is_cell = beside_is_cell c r hc side.is_rank;
          is_facet = side.is_facet;
          lies = λ p has.
              let k = from_In-map (corner v.kind v.sizes e) (facet_corners v.kind (length v.sizes) f) p (In_from (facet_points v.kind v.sizes e f) p has) in
              let offset : slice_index (corner_offset v.kind (length v.sizes) r k.0) i ≡ x =
              side.lies (corner_offset v.kind (length v.sizes) r k.0)
              (In-map (corner_offset v.kind (length v.sizes) r) (facet_corners v.kind (length v.sizes) f) k.0 k.1) in
              let cube : slice_index (cube_of v.kind v.sizes e) i ≡ slice_index (cube_of v.kind v.sizes c) i =
              ap (λ (y : List ℕ). slice_index y i) (beside_cube c r hc side.is_rank) in
              let rank : slice_index (corner_offset v.kind (length v.sizes) (rank_of v.kind v.sizes e) k.0) i
              ≡ slice_index (corner_offset v.kind (length v.sizes) r k.0) i =
              ap (λ (q : ℕ). slice_index (corner_offset v.kind (length v.sizes) q k.0) i) (beside_rank c r hc side.is_rank) in
              ap (λ (q : List ℕ). slice_index q i) k.2 ∙ omega (arith, coordinate_of v.kind v.sizes fit e k.0 i hi, cube, rank, offset, at);
          has = λ k hk on.
              let offset : slice_index (corner_offset v.kind (length v.sizes) (rank_of v.kind v.sizes c) k) i ≡ x =
              omega (arith, coordinate_of v.kind v.sizes fit c k i hi, on, at) in
              let l =
              from_In-map (corner_offset v.kind (length v.sizes) r) (facet_corners v.kind (length v.sizes) f)
              (corner_offset v.kind (length v.sizes) (rank_of v.kind v.sizes c) k) (side.has k hk offset) in
              Contains_from (facet_points v.kind v.sizes e f) (corner v.kind v.sizes c k)
              (subst (λ (p : List ℕ). In p (facet_points v.kind v.sizes e f)) (sym (corner_beside c r hc side.is_rank k l.0 l.2))
              (In-map (corner v.kind v.sizes e) (facet_corners v.kind (length v.sizes) f) l.0 l.1));
        }

  hr : (c : ℕ) → rank_of v.kind v.sizes c < cells_per_cube v.kind (length v.sizes)
  hr c = below v.kind v.sizes fit c

  -- a cell with a corner at the first samples of an axis, and one with a corner at the last
  low_has : (c i : ℕ) → c < cell_count v.kind v.sizes → i < length v.sizes → slice_index (cube_of v.kind v.sizes c) i ≡ 0 → HasSide c i 0
  low_has c i hc hi at = side_of c i 0 0 hc hi (omega (arith, at)) (low_side v.kind (length v.sizes) is regular.fits (rank_of v.kind v.sizes c) i (hr c) hi)

  low_from : (c i k : ℕ) → c < cell_count v.kind v.sizes → i < length v.sizes → k < corner_count v.kind (length v.sizes)
      → slice_index (corner v.kind v.sizes c k) i ≡ 0 → HasSide c i 0
  low_from c i k hc hi hk on = low_has c i hc hi (omega (arith, coordinate_of v.kind v.sizes fit c k i hi, on))

  high_from : (c i k : ℕ) → c < cell_count v.kind v.sizes → i < length v.sizes → k < corner_count v.kind (length v.sizes)
      → slice_index (corner v.kind v.sizes c k) i ≡ 2 * (slice_index v.sizes i - 1) → HasSide c i (2 * (slice_index v.sizes i - 1))
  high_from c i k hc hi hk on =
      let inside = cube_below v.sizes (c / per) (cube_in v.kind v.sizes c hc) i hi in
      side_of c i 2 (2 * (slice_index v.sizes i - 1)) hc hi
      (omega (arith, coordinate_of v.kind v.sizes fit c k i hi, on, inside, small_offset v.kind v.sizes fit c k i hk))
      (high_side v.kind (length v.sizes) is regular.fits (rank_of v.kind v.sizes c) i (hr c) hi)

  -- ---- edges of a cell

  -- all ends of the edges have the value in axis i
  abbrev EndsAt : ℕ → ℕ → List Edge → Type 0
  EndsAt i value es = All (λ p. slice_index p i ≡ value) (ends_of es)

  end_in : (es : List Edge) (e : Edge) (p : List ℕ) → Contains es e → In p (both_ends e) → Contains (ends_of es) p
  end_in es e p has j = Contains_from (ends_of es) p (In-flat_map both_ends es e p (In_from es e has) j)

  ends_at : (i value : ℕ) (es : List Edge) (e : Edge) → EndsAt i value es → Contains es e → (slice_index e.low i ≡ value) × (slice_index e.high i ≡ value)
  ends_at i value es e all has = (
    each-from_All (λ p. slice_index p i ≡ value) (ends_of es) all e.low (end_in es e e.low has (inl refl)),
    each-from_All (λ p. slice_index p i ≡ value) (ends_of es) all e.high (end_in es e e.high has (inr (inl refl))),
  )

  module _ (c : ℕ) (hc : c < cell_count v.kind v.sizes) where
    -- edges of the cell at the value lie in the facet on this side
    edge_lies : (i value : ℕ) (s : HasSide c i value) (e : Edge) → HasEdge v.kind v.sizes c e → slice_index e.low i ≡ value
        → slice_index e.high i ≡ value → LiesIn e (facet_points v.kind v.sizes s.cell s.f)
    edge_lies i value s e has low high =
        let ends = ends_are_corners v.kind (length v.sizes) is regular.fits has.0 has.1 in
        elim (ends_of_edge v.kind v.sizes (ends_are_corners v.kind (length v.sizes) is regular.fits) c has.0 e has.2) [
          | inl o ↦ (
            at_corner (edge_ends v.kind (length v.sizes) has.0).0 ends.0 e.low o.0 low,
            at_corner (edge_ends v.kind (length v.sizes) has.0).1 ends.1 e.high o.1 high,
          )
          | inr o ↦ (
            at_corner (edge_ends v.kind (length v.sizes) has.0).1 ends.1 e.low o.0 low,
            at_corner (edge_ends v.kind (length v.sizes) has.0).0 ends.0 e.high o.1 high,
          )
        ]
      where
        at_corner : (k : ℕ) → k < corner_count v.kind (length v.sizes) → (p : List ℕ) → corner v.kind v.sizes c k ≡ p → slice_index p i ≡ value
            → Contains (facet_points v.kind v.sizes s.cell s.f) p
        at_corner k hk p same at = subst (Contains (facet_points v.kind v.sizes s.cell s.f)) same (s.has k hk (ap (λ (q : List ℕ). slice_index q i) same ∙ at))

    -- an edge of the cell has a corner at its low end
    low_corner : (e : Edge) → HasEdge v.kind v.sizes c e → (k : ℕ) × (k < corner_count v.kind (length v.sizes)) × (corner v.kind v.sizes c k ≡ e.low)
    low_corner e has =
        let ends = ends_are_corners v.kind (length v.sizes) is regular.fits has.0 has.1 in
        elim (ends_of_edge v.kind v.sizes (ends_are_corners v.kind (length v.sizes) is regular.fits) c has.0 e has.2) [
          | inl o ↦ ((edge_ends v.kind (length v.sizes) has.0).0, ends.0, o.0)
          | inr o ↦ ((edge_ends v.kind (length v.sizes) has.0).1, ends.1, o.0)
        ]

    -- in the facet on a side, which is free
    in_side : KeepsAll v → (i value : ℕ) → i < length v.sizes → (value ≡ 0) ⊎ (value ≡ 2 * (slice_index v.sizes i - 1)) → (es : List Edge)
        → All (HasEdge v.kind v.sizes c) es → EndsAt i value es → HasSide c i value → LieInFreeFacet v es
    in_side all i value hi which es edges ends s = (
      s.cell,
      s.f,
      all_cells v all s.cell s.is_cell,
      s.is_facet,
      outer_is_free v regular s.cell s.f s.is_cell s.is_facet (i, hi, outer which),
      All-from_each (λ (e : Edge). LiesIn e (facet_points v.kind v.sizes s.cell s.f)) es (λ e has.
          let at = ends_at i value es e ends has in
          edge_lies i value s e (each-from_All (HasEdge v.kind v.sizes c) es edges e has) at.0 at.1),
    )
      where
        points : (y : ℕ) → value ≡ y → All (λ p. slice_index p i ≡ y) (facet_points v.kind v.sizes s.cell s.f)
        points y same = All-from_each (λ p. slice_index p i ≡ y) (facet_points v.kind v.sizes s.cell s.f) (λ p has. s.lies p has ∙ same)

        outer : (value ≡ 0) ⊎ (value ≡ 2 * (slice_index v.sizes i - 1)) →
            All (λ p. slice_index p i ≡ 0) (facet_points v.kind v.sizes s.cell s.f)
            ⊎ All (λ p. slice_index p i ≡ 2 * (slice_index v.sizes i - 1)) (facet_points v.kind v.sizes s.cell s.f)
        outer (inl low) = inl (points 0 low)
        outer (inr high) = inr (points (2 * (slice_index v.sizes i - 1)) high)

  -- some edges at the first or the last samples of an axis
  some_in_side : KeepsAll v → (c : ℕ) → c < cell_count v.kind v.sizes → (e : Edge) (es : List Edge) → All (HasEdge v.kind v.sizes c) (e ∷ es)
      → OnOuterBoundary v.sizes (ends_of (e ∷ es)) → LieInFreeFacet v (e ∷ es)
  some_in_side all c hc e es edges (i, hi, inl low) =
      let k = low_corner c hc e (each-from_All (HasEdge v.kind v.sizes c) (e ∷ es) edges e (0, omega arith, refl)) in
      let at = (ends_at i 0 (e ∷ es) e low (0, omega arith, refl)).0 in
      in_side c hc all i 0 hi (inl refl) (e ∷ es) edges low (low_from c i k.0 hc hi k.1 (ap (λ (q : List ℕ). slice_index q i) k.2 ∙ at))
  some_in_side all c hc e es edges (i, hi, inr high) =
      let k = low_corner c hc e (each-from_All (HasEdge v.kind v.sizes c) (e ∷ es) edges e (0, omega arith, refl)) in
      let at = (ends_at i (2 * (slice_index v.sizes i - 1)) (e ∷ es) e high (0, omega arith, refl)).0 in
      in_side c hc all i (2 * (slice_index v.sizes i - 1)) hi (inr refl) (e ∷ es) edges high
      (high_from c i k.0 hc hi k.1 (ap (λ (q : List ℕ). slice_index q i) k.2 ∙ at))

  -- a grid with a cell has a free facet
  some_free : KeepsAll v → (c i : ℕ) → c < cell_count v.kind v.sizes → i < length v.sizes → LieInFreeFacet v []
  some_free all c i hc hi =
      let first : 0 < cell_count v.kind v.sizes = omega (arith, hc) in
      let none : 0 / per ≡ 0 = omega arith in
      let stands : slice_index (cube_of v.kind v.sizes 0) i ≡ 0 = ap (λ (n : ℕ). slice_index (cube_at v.sizes n) i) none ∙ first_cube v.sizes i hi in
      in_side 0 first all i 0 hi (inl refl) [] (All-from_each (HasEdge v.kind v.sizes 0) [] (λ e has. absurd (omega (arith, has.1))))
      (All-from_each (λ p. slice_index p i ≡ 0) [] (λ p has. absurd (omega (arith, has.1)))) (low_has 0 i first hi stands)

  -- from the outer boundary
  from_outer : KeepsAll v → (c : ℕ) (es : List Edge) → c < cell_count v.kind v.sizes → All (HasEdge v.kind v.sizes c) es
      → OnOuterBoundary v.sizes (ends_of es) → LieInFreeFacet v es
  from_outer all c [] hc edges on = some_free all c on.0 hc on.1
  from_outer all c (e ∷ es) hc edges on = some_in_side all c hc e es edges on

  -- to the outer boundary
  to_outer : KeepsAll v → (es : List Edge) → LieInFreeFacet v es → OnOuterBoundary v.sizes (ends_of es)
  to_outer all es (cell, f, kept, hf, free, lies) = go (free_is_outer_one v regular cell f (cells_below v cell kept) hf all free)
    where
      inside : (p : List ℕ) → Contains (ends_of es) p → Contains (facet_points v.kind v.sizes cell f) p
      inside p has =
          let e = from_In-flat_map both_ends es p (In_from (ends_of es) p has) in
          let there = each-from_All (λ (x : Edge). LiesIn x (facet_points v.kind v.sizes cell f)) es lies e.0 (Contains_from es e.0 e.1) in
          one_of e.0 e.2 there
        where
          one_of : (e : Edge) → In p (both_ends e) → LiesIn e (facet_points v.kind v.sizes cell f) → Contains (facet_points v.kind v.sizes cell f) p
          one_of e (inl same) there = subst (Contains (facet_points v.kind v.sizes cell f)) (sym same) there.0
          one_of e (inr (inl same)) there = subst (Contains (facet_points v.kind v.sizes cell f)) (sym same) there.1
          one_of e (inr (inr past)) there = absurd past

      ends : (i value : ℕ) → All (λ p. slice_index p i ≡ value) (facet_points v.kind v.sizes cell f) → EndsAt i value es
      ends i value points =
          All-from_each (λ p. slice_index p i ≡ value) (ends_of es)
          (λ p has. each-from_All (λ q. slice_index q i ≡ value) (facet_points v.kind v.sizes cell f) points p (inside p has))

      go : OnOuterBoundary v.sizes (facet_points v.kind v.sizes cell f) → OnOuterBoundary v.sizes (ends_of es)
      go (i, hi, inl low) = (i, hi, inl (ends i 0 low))
      go (i, hi, inr high) = (i, hi, inr (ends i (2 * (slice_index v.sizes i - 1)) high))

  -- edges of one cell lie in a free facet exactly where their ends lie on the outer boundary
  pub boundary_is_outer : BoundaryIsOuter v
  boundary_is_outer fits_kind all c es hc edges = (to_outer all es, from_outer all c es hc edges)

  -- a face of a simplex lies on the boundary exactly where the ends of its edges lie on the outer boundary
  pub faces_outer : (simplices : List (List ℕ)) → FacesAreOuter v simplices
  faces_outer simplices = faces_are_outer v simplices boundary_is_outer

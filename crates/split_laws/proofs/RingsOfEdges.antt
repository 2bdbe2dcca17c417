-- The cells at the places of an arc are the ring of the edge.
use Rattle.std.proofs.Common.{◌≡◌, ℕ, zero, suc, ◌+◌, ◌-◌, ◌*◌, ◌/◌, ◌%◌, ◌<◌, ◌≤◌, Bool, true, false, not, ◌&&◌, List, [], ◌∷◌, ◌++◌, length}
use Rattle.std.proofs.Common.{refl, ap, sym, ◌∙◌, subst, arith, inl, inr, ℤ, if◌then◌else◌}
use Rattle.std.specs.Prelude.{◌==◌, ◌⊎◌, ◌↔◌, ⊤, nat_le, pos, ◌+ℤ◌, map, filter, slice_index, slice_index_or, Contains, All, IsTrue}
use Rattle.std.specs.List.{list_all, AllAdjacentBelow}
use Rattle.std.proofs.lemmas.Int.{ints}
use Rattle.std.proofs.lemmas.List.{get_or-map, length-map}
use Rattle.std.proofs.lemmas.Bool.Decides.{nat_tests}
use Rattle.iso_model.specs.declared.Kind.{Kind}
use Rattle.lists.specs.Orders.{numbers, has, is_distinct}
use Rattle.lists.specs.Members.{In}
use Rattle.lists.proofs.MemberLaws.{In_from, Contains_from, In_of_has, In-map, In-filter, In-numbers, all_In, All-from_In}
use Rattle.lists.proofs.Tests.{and_left, and_right, next_place}
use Rattle.iso_model.specs.Dimensions.{IsDimension}
use Rattle.iso_model.proofs.PointLaws.{length-plus}
use Rattle.iso_model.specs.Points.{point, plus}
use Rattle.iso_model.specs.Cells.{HasDimension, edge_count, edge_ends, edge_in_facet, facet_count, facet_corners, corner_count, corner_in_facet}
use Rattle.iso_model.specs.Splits.{Edge, edge, edge_of_ends, midpoint, corner, corner_offset, cell_count, cells_per_cube, cube_of, rank_of}
use Rattle.iso_model.specs.SplitLaws.{corner_sum}
use Rattle.iso_model.specs.Neighbours.{HasEdge, HaveOwnMidpoints, IsNeighbour, IsRing, LiesIn, IsAcross, shift_across, OnOuterBoundary, SamePoints, ShareFacetAt, facet_points}
use Rattle.split_laws.specs.Standing.{StandsAcross, shift_at}
use Rattle.split_laws.proofs.Coordinates.{coordinate, length-point, length-cube_at, lists_same, cell_fixed, cube_below, cube_in}
use Rattle.split_laws.proofs.Midpoints.{plus_at, midpoint_of_ends}
use Rattle.split_laws.proofs.Offsets.{OffsetsFit, in_facet}
use Rattle.split_laws.proofs.Placement.{below, coordinate_of, small_offset, long_offset}
use Rattle.split_laws.proofs.Passed.{fits, ends_are_corners}
use Rattle.split_laws.proofs.Sharing.{EndsAreCorners, ends_of_edge}
use Rattle.split_laws.proofs.SplitTheorems.{neighbour_is, own_midpoints}
use Rattle.split_checks.specs.declared.rounds.Place.{Place}
use Rattle.split_checks.specs.CellsRound.{sum_of, way_of, IsBelow4, IsWay, HasWay, IsNextTo, AreInTurn, AreOwn, AreRound, stands, before_gap, after_gap, arc_of}
use Rattle.split_laws.specs.RoundEdges.{IsEdge, HasRing, IsMiddle, StandsAt, side_at, sides_at, AreAt, IsInside}
use Rattle.split_checks.proofs.RoundsFound.{places_of}
use Rattle.split_laws.proofs.PlacesThere.{stands_in, cube_there, all_there, out_false, at_length, place_in, cell_in, at_place, IsThere, cells_there}
use Rattle.split_laws.proofs.RoundsHold.{same_parts, arc_in, in_arc, three_axes, three_is, rounds}

module _ (kind : Kind) (sizes : List ℕ) (axes : length sizes ≡ 3) (e : Edge) (cube way : List ℕ)
    (middle : IsMiddle e.low e.high cube way) (c0 : ℕ) (h0 : c0 < cell_count kind sizes)
    (has0 : HasEdge kind sizes c0 e) where
  is_dimension : IsDimension (length sizes)
  is_dimension = subst IsDimension (sym axes) three_is

  has_dimension : HasDimension kind (length sizes)
  has_dimension = subst (HasDimension kind) (sym axes) (three_axes kind)

  fit : OffsetsFit kind (length sizes)
  fit = fits kind (length sizes) is_dimension has_dimension

  ends_in : EndsAreCorners kind (length sizes)
  ends_in = ends_are_corners kind (length sizes) is_dimension has_dimension

  abbrev low_corner : ℕ → ℕ → List ℕ
  low_corner c n = corner kind sizes c (edge_ends kind (length sizes) n).0

  abbrev high_corner : ℕ → ℕ → List ℕ
  high_corner c n = corner kind sizes c (edge_ends kind (length sizes) n).1

  -- ---- sums of ends

  -- the sum of the ends of an edge of a cell, in axis i
  sum_at : (c n i : ℕ) → n < edge_count kind (length sizes) → i < 3 →
      slice_index (midpoint (edge kind sizes c n)) i
      ≡ 4 * slice_index (cube_of kind sizes c) i + slice_index (sum_of kind (rank_of kind sizes c) n) i
  sum_at c n i hn hi =
      let a = (edge_ends kind (length sizes) n).0 in
      let b = (edge_ends kind (length sizes) n).1 in
      let h : i < length sizes = omega (arith, hi, axes) in
      let long_corner : (k : ℕ) → length (corner kind sizes c k) ≡ length sizes =
      λ k. length-point (length sizes)
      (λ j. 2 * slice_index (cube_of kind sizes c) j + slice_index (corner_offset kind (length sizes) (rank_of kind sizes c) k) j) in
      let whole : slice_index (midpoint (edge kind sizes c n)) i ≡ slice_index (corner kind sizes c a) i + slice_index (corner kind sizes c b) i =
      ap (λ (p : List ℕ). slice_index p i) (midpoint_of_ends (corner kind sizes c a) (corner kind sizes c b))
      ∙ plus_at (corner kind sizes c a) (corner kind sizes c b) (long_corner b ∙ sym (long_corner a)) i (omega (arith, h, long_corner a)) in
      let offset = λ (k : ℕ). corner_offset kind (length sizes) (rank_of kind sizes c) k in
      let of_offsets : slice_index (corner_sum kind (length sizes) (rank_of kind sizes c) (edge_ends kind (length sizes) n)) i
      ≡ slice_index (offset a) i + slice_index (offset b) i =
      plus_at (offset a) (offset b)
      (long_offset kind sizes fit c b (ends_in n hn).1 ∙ sym (long_offset kind sizes fit c a (ends_in n hn).0)) i
      (omega (arith, h, long_offset kind sizes fit c a (ends_in n hn).0)) in
      let at_three : slice_index (corner_sum kind (length sizes) (rank_of kind sizes c) (edge_ends kind (length sizes) n)) i
      ≡ slice_index (sum_of kind (rank_of kind sizes c) n) i =
      ap (λ (d : ℕ). slice_index (corner_sum kind d (rank_of kind sizes c) (edge_ends kind d n)) i) axes in
      omega (arith, whole, of_offsets, at_three, coordinate_of kind sizes fit c a i h, coordinate_of kind sizes fit c b i h)

  -- it is at most 4 more than that of the cube
  rank_sum_small : (r n i : ℕ) → r < cells_per_cube kind (length sizes) → n < edge_count kind (length sizes) → i < 3 → slice_index (sum_of kind r n) i ≤ 4
  rank_sum_small r n i hr hn hi =
      let a = (edge_ends kind (length sizes) n).0 in
      let b = (edge_ends kind (length sizes) n).1 in
      let h : i < length sizes = omega (arith, hi, axes) in
      let offset = λ (k : ℕ). corner_offset kind (length sizes) r k in
      let of_offsets : slice_index (corner_sum kind (length sizes) r (edge_ends kind (length sizes) n)) i
      ≡ slice_index (offset a) i + slice_index (offset b) i =
      plus_at (offset a) (offset b) (fit.long r b hr (ends_in n hn).1 ∙ sym (fit.long r a hr (ends_in n hn).0)) i
      (omega (arith, h, fit.long r a hr (ends_in n hn).0)) in
      let at_three : slice_index (corner_sum kind (length sizes) r (edge_ends kind (length sizes) n)) i ≡ slice_index (sum_of kind r n) i =
      ap (λ (d : ℕ). slice_index (corner_sum kind d r (edge_ends kind d n)) i) axes in
      omega (arith, of_offsets, at_three, fit.small r a i hr (ends_in n hn).0, fit.small r b i hr (ends_in n hn).1)

  sum_small : (c n i : ℕ) → n < edge_count kind (length sizes) → i < 3 → slice_index (sum_of kind (rank_of kind sizes c) n) i ≤ 4
  sum_small c n i hn hi = rank_sum_small (rank_of kind sizes c) n i (below kind sizes fit c) hn hi

  long_sum : (c n : ℕ) → n < edge_count kind (length sizes) → length (sum_of kind (rank_of kind sizes c) n) ≡ 3
  long_sum c n hn =
      let a = (edge_ends kind (length sizes) n).0 in
      let b = (edge_ends kind (length sizes) n).1 in
      let offset = λ (k : ℕ). corner_offset kind (length sizes) (rank_of kind sizes c) k in
      let first = long_offset kind sizes fit c a (ends_in n hn).0 in
      let at_three : length (corner_sum kind (length sizes) (rank_of kind sizes c) (edge_ends kind (length sizes) n))
      ≡ length (sum_of kind (rank_of kind sizes c) n) =
      ap (λ (d : ℕ). length (corner_sum kind d (rank_of kind sizes c) (edge_ends kind d n))) axes in
      sym at_three ∙ length-plus (offset a) (offset b) (first ∙ sym (long_offset kind sizes fit c b (ends_in n hn).1)) ∙ first ∙ axes

  -- the ends of the edge are corners of the first cell
  own_ends : ((low_corner c0 has0.0 ≡ e.low) × (high_corner c0 has0.0 ≡ e.high)) ⊎ ((high_corner c0 has0.0 ≡ e.low) × (low_corner c0 has0.0 ≡ e.high))
  own_ends = ends_of_edge kind sizes ends_in c0 has0.0 e has0.2

  long_corner : (c k : ℕ) → length (corner kind sizes c k) ≡ 3
  long_corner c k =
      length-point (length sizes) (λ j. 2 * slice_index (cube_of kind sizes c) j + slice_index (corner_offset kind (length sizes) (rank_of kind sizes c) k) j)
      ∙ axes

  long_ends : (length e.low ≡ 3) × (length e.high ≡ 3)
  long_ends = elim own_ends [
    | inl s ↦ (
      ap (λ (p : List ℕ). length p) (sym s.0) ∙ long_corner c0 (edge_ends kind (length sizes) has0.0).0,
      ap (λ (p : List ℕ). length p) (sym s.1) ∙ long_corner c0 (edge_ends kind (length sizes) has0.0).1,
    )
    | inr s ↦ (
      ap (λ (p : List ℕ). length p) (sym s.0) ∙ long_corner c0 (edge_ends kind (length sizes) has0.0).1,
      ap (λ (p : List ℕ). length p) (sym s.1) ∙ long_corner c0 (edge_ends kind (length sizes) has0.0).0,
    )
  ]

  -- the sum of the ends of the edge
  middle_at : (i : ℕ) → i < 3 → slice_index (midpoint e) i ≡ 4 * slice_index cube i + slice_index way i
  middle_at i hi =
      plus_at e.low e.high (long_ends.1 ∙ sym long_ends.0) i (omega (arith, hi, long_ends.0)) ∙ middle.sums i hi

  -- ---- the place of a cell that has the edge

  abbrev back_of : ℕ → List ℕ
  back_of c = point 3 (λ i. slice_index cube i - slice_index (cube_of kind sizes c) i)

  abbrev place_of : ℕ → Place
  place_of c = record { rank = rank_of kind sizes c; back = back_of c }

  -- where a cell that has the edge stands, in one axis
  record Stood (c i back : ℕ) : Type 0 where
    pub cubes : slice_index (cube_of kind sizes c) i + back ≡ slice_index cube i
    pub small : back ≤ 1
    pub flat : back ≡ 1 → slice_index way i ≡ 0
    pub inside : slice_index (cube_of kind sizes c) i + 1 < slice_index sizes i

  stood : (c n i : ℕ) → c < cell_count kind sizes → n < edge_count kind (length sizes) → edge kind sizes c n ≡ e → i < 3
      → Stood c i (slice_index cube i - slice_index (cube_of kind sizes c) i)
  stood c n i hc hn is hi =
      let sum = sum_at c n i hn hi in
      let same : slice_index (midpoint (edge kind sizes c n)) i ≡ slice_index (midpoint e) i = ap (λ (x : Edge). slice_index (midpoint x) i) is in
      let small = sum_small c n i hn hi in
      let here = middle_at i hi in
      let below_four = middle.small i hi in
      record {
        cubes = omega (arith, sum, same, small, here, below_four);
        small = omega (arith, sum, same, small, here, below_four);
        flat = λ one. omega (arith, sum, same, small, here, below_four, one);
        inside = cube_below sizes (c / cells_per_cube kind (length sizes)) (cube_in kind sizes c hc) i (omega (arith, hi, axes));
      }

  has_way : (c n : ℕ) → c < cell_count kind sizes → n < edge_count kind (length sizes) → edge kind sizes c n ≡ e → HasWay kind way (place_of c) n
  has_way c n hc hn is = record {
    is_rank = subst (λ (d : ℕ). rank_of kind sizes c < cells_per_cube kind d) axes (below kind sizes fit c);
    is_edge = subst (λ (d : ℕ). n < edge_count kind d) axes hn;
    axes = refl;
    sum = lists_same (sum_of kind (rank_of kind sizes c) n) (point 3 (λ i. slice_index way i + 4 * slice_index (back_of c) i))
        (long_sum c n hn ∙ sym (length-point 3 (λ i. slice_index way i + 4 * slice_index (back_of c) i))) (λ i h.
        let hi : i < 3 = omega (arith, h, long_sum c n hn) in
        let s = stood c n i hc hn is hi in
        let sum = sum_at c n i hn hi in
        let same : slice_index (midpoint (edge kind sizes c n)) i ≡ slice_index (midpoint e) i = ap (λ (x : Edge). slice_index (midpoint x) i) is in
        let back_at : slice_index (back_of c) i ≡ slice_index cube i - slice_index (cube_of kind sizes c) i =
        coordinate 3 (λ j. slice_index cube j - slice_index (cube_of kind sizes c) j) i hi in
        omega (
          arith,
          sum,
          same,
          middle_at i hi,
          s.cubes,
          back_at,
          coordinate 3 (λ j. slice_index way j + 4 * slice_index (back_of c) j) i hi,
        ));
  }

  stands_at : (c n : ℕ) → c < cell_count kind sizes → n < edge_count kind (length sizes) → edge kind sizes c n ≡ e
      → StandsAt kind sizes cube (place_of c) c
  stands_at c n hc hn is = record {
    is_cell = hc;
    rank = refl;
    cubes = λ i hi.
        let s = stood c n i hc hn is hi in
        let back_at : slice_index (back_of c) i ≡ slice_index cube i - slice_index (cube_of kind sizes c) i =
        coordinate 3 (λ j. slice_index cube j - slice_index (cube_of kind sizes c) j) i hi in
        omega (arith, s.cubes, back_at);
  }

  -- a cell at a place of the list has the edge
  place_has : (p : Place) (c n : ℕ) → HasWay kind way p n → StandsAt kind sizes cube p c → (edge kind sizes c n ≡ e) × (n < edge_count kind (length sizes))
  place_has p c n has at =
      let hn : n < edge_count kind (length sizes) = subst (λ (d : ℕ). n < edge_count kind d) (sym axes) has.is_edge in
      let long : length (midpoint (edge kind sizes c n)) ≡ 3 =
      ap (λ (p : List ℕ). length p) (midpoint_of_ends (low_corner c n) (high_corner c n))
      ∙ length-plus (low_corner c n) (high_corner c n)
      (long_corner c (edge_ends kind (length sizes) n).0 ∙ sym (long_corner c (edge_ends kind (length sizes) n).1))
      ∙ long_corner c (edge_ends kind (length sizes) n).0 in
      let own : length (midpoint e) ≡ 3 = length-plus e.low e.high (long_ends.0 ∙ sym long_ends.1) ∙ long_ends.0 in
      let same : midpoint (edge kind sizes c n) ≡ midpoint e =
      lists_same (midpoint (edge kind sizes c n)) (midpoint e) (long ∙ sym own) (λ i h.
      let hi : i < 3 = omega (arith, h, long) in
      let of_place : slice_index (sum_of kind (rank_of kind sizes c) n) i ≡ slice_index way i + 4 * slice_index p.back i =
      ap (λ (r : ℕ). slice_index (sum_of kind r n) i) at.rank ∙ ap (λ (x : List ℕ). slice_index x i) has.sum
      ∙ coordinate 3 (λ j. slice_index way j + 4 * slice_index p.back j) i hi in
      omega (arith, sum_at c n i hn hi, of_place, at.cubes i hi, middle_at i hi)) in
      (own_midpoints kind sizes is_dimension has_dimension c c0 (edge kind sizes c n) e at.is_cell h0 (n, hn, refl) has0 same, hn)

  -- ---- the sides of the grid

  abbrev sides : List (Bool × Bool)
  sides = sides_at sizes cube

  own_stands : (c n : ℕ) → c < cell_count kind sizes → n < edge_count kind (length sizes) → edge kind sizes c n ≡ e → stands sides (back_of c) ≡ true
  own_stands c n hc hn is =
      let at = λ (i : ℕ) (hi : i < 3). let s = stood c n i hc hn is hi in
      cube_there (slice_index sizes i) (slice_index cube i) (slice_index (cube_of kind sizes c) i)
      (slice_index cube i - slice_index (cube_of kind sizes c) i) s.cubes s.small s.inside in
      all_there (stands_in (slice_index sizes 0) (slice_index cube 0) (slice_index cube 0 - slice_index (cube_of kind sizes c) 0))
      (stands_in (slice_index sizes 1) (slice_index cube 1) (slice_index cube 1 - slice_index (cube_of kind sizes c) 1))
      (stands_in (slice_index sizes 2) (slice_index cube 2) (slice_index cube 2 - slice_index (cube_of kind sizes c) 2))
      (at 0 (omega arith)) (at 1 (omega arith)) (at 2 (omega arith))

  -- ---- shared facets

  end_in : (c n f k : ℕ) → k < corner_count kind (length sizes) → corner_in_facet kind f k ≡ true
      → Contains (facet_points kind sizes c f) (corner kind sizes c k)
  end_in c n f k hk inside =
      Contains_from (facet_points kind sizes c f) (corner kind sizes c k)
      (In-map (corner kind sizes c) (facet_corners kind (length sizes) f) k
      (In-filter (corner_in_facet kind f) (numbers (corner_count kind (length sizes))) k (In-numbers (corner_count kind (length sizes)) k hk) inside))

  lies_in : (c n f : ℕ) → n < edge_count kind (length sizes) → edge kind sizes c n ≡ e → edge_in_facet kind (length sizes) f n ≡ true
      → LiesIn e (facet_points kind sizes c f)
  lies_in c n f hn is inside =
      let a = (edge_ends kind (length sizes) n).0 in
      let b = (edge_ends kind (length sizes) n).1 in
      let first = end_in c n f a (ends_in n hn).0 (and_left (corner_in_facet kind f a) (corner_in_facet kind f b) inside) in
      let second = end_in c n f b (ends_in n hn).1 (and_right (corner_in_facet kind f a) (corner_in_facet kind f b) inside) in
      let points = Contains (facet_points kind sizes c f) in
      elim (ends_of_edge kind sizes ends_in c n e is) [
        | inl s ↦ (subst points s.0 first, subst points s.1 second)
        | inr s ↦ (subst points s.0 second, subst points s.1 first)
      ]

  moved_over : (x p q a b : ℕ) (s : ℤ) → a + p ≡ x → b + q ≡ x → pos p ≡ pos q +ℤ s → pos b ≡ pos a +ℤ s
  moved_over x p q a b s here there shift = omega (arith, ints, here, there, shift)

  next_share : (p q : Place) (c d : ℕ) → IsNextTo kind way p q → StandsAt kind sizes cube p c → StandsAt kind sizes cube q d → ShareFacetAt kind sizes e c d
  next_share p q c d next here there =
      let has = place_has p c next.edge next.has here in
      let f = next.facet in
      let hf : f < facet_count kind (length sizes) = subst (λ (m : ℕ). f < facet_count kind m) (sym axes) next.is_facet in
      let inside : edge_in_facet kind (length sizes) f next.edge ≡ true =
      subst (λ (m : ℕ). edge_in_facet kind m f next.edge ≡ true) (sym axes) next.facet_has in
      let ranks : IsAcross kind 3 (rank_of kind sizes c) f (rank_of kind sizes d) next.other =
      subst (λ (r : ℕ). IsAcross kind 3 r f (rank_of kind sizes d) next.other) (sym here.rank)
      (subst (λ (r : ℕ). IsAcross kind 3 p.rank f r next.other) (sym there.rank) next.across) in
      let shift_is : (i : ℕ) → slice_index_or (shift_across kind 3 p.rank f) i (pos 0) ≡ shift_at kind sizes c f i =
      λ i.
      ap (λ (r : ℕ). slice_index_or (shift_across kind 3 r f) i (pos 0)) (sym here.rank)
      ∙ ap (λ (m : ℕ). slice_index_or (shift_across kind m (rank_of kind sizes c) f) i (pos 0)) (sym axes) in
      let across : StandsAcross kind sizes c f d = record {
        is_cell = there.is_cell;
        cube = λ i h.
            let hi : i < 3 = omega (arith, h, axes) in
            moved_over (slice_index cube i) (slice_index p.back i) (slice_index q.back i) (slice_index (cube_of kind sizes c) i)
            (slice_index (cube_of kind sizes d) i) (shift_at kind sizes c f i) (here.cubes i hi) (there.cubes i hi)
            (next.cube i hi ∙ ap (λ (z : ℤ). pos (slice_index q.back i) +ℤ z) (shift_is i));
        facet = (next.other, subst (λ (m : ℕ). IsAcross kind m (rank_of kind sizes c) f (rank_of kind sizes d) next.other) (sym axes) ranks);
      } in
      let neighbour = (neighbour_is kind sizes is_dimension has_dimension c f d here.is_cell hf).1 across in
      (f, neighbour.2.0, hf, neighbour.2.1, lies_in c next.edge f has.1 has.0 inside, neighbour.2.2)

  all_share : (ps : List Place) (cells : List ℕ) → AreAt kind sizes cube ps cells → AreInTurn kind way ps → (k d : ℕ) → k + 1 < length cells
      → ShareFacetAt kind sizes e (slice_index_or cells k d) (slice_index_or cells (k + 1) d)
  all_share ps [] all turn k d h = absurd (omega (arith, h))
  all_share ps (c ∷ []) all turn k d h = absurd (omega (arith, h))
  all_share [] (c ∷ x ∷ cells) all turn k d h = absurd all
  all_share (p ∷ []) (c ∷ x ∷ cells) all turn k d h = absurd all.1
  all_share (p ∷ q ∷ ps) (c ∷ x ∷ cells) all turn zero d h = next_share p q c x turn.0 all.0 all.1.0
  all_share (p ∷ q ∷ ps) (c ∷ x ∷ cells) all turn (suc k) d h =
      subst (λ (m : ℕ). ShareFacetAt kind sizes e (slice_index_or (x ∷ cells) k d) (slice_index_or (c ∷ x ∷ cells) m d)) (next_place k)
      (all_share (q ∷ ps) (x ∷ cells) all.1 turn.1 k d (omega (arith, h)))

  -- ---- each cell once

  one_place : (p q : Place) (c : ℕ) → length p.back ≡ 3 → length q.back ≡ 3 → StandsAt kind sizes cube p c → StandsAt kind sizes cube q c → q ≡ p
  one_place p q c lp lq here there =
      same_parts q p (sym there.rank ∙ here.rank)
      (lists_same q.back p.back (lq ∙ sym lp) (λ i h.
      let hi : i < 3 = omega (arith, h, lq) in omega (arith, here.cubes i hi, there.cubes i hi)))

  once_more : (p : Place) (ps : List Place) (c : ℕ) (cells : List ℕ) → StandsAt kind sizes cube p c → AreAt kind sizes cube ps cells
      → ¬ Contains ps p → length p.back ≡ 3 → ((q : Place) → In q ps → length q.back ≡ 3) → is_distinct cells ≡ true → (b : Bool)
      → has cells c ≡ b → (not b && is_distinct cells) ≡ true
  once_more p ps c cells at all own long each later true twice =
      absurd (let r = place_in kind sizes cube ps cells all c (In_of_has cells c twice) in
      let same = one_place p r.0 c long (each r.0 r.1) at r.2 in
      own (Contains_from ps p (subst (λ (x : Place). In x ps) same r.1)))
  once_more p ps c cells at all own long each later false once = later

  each_once : (ps : List Place) (cells : List ℕ) → AreAt kind sizes cube ps cells → AreOwn ps → ((p : Place) → In p ps → length p.back ≡ 3)
      → is_distinct cells ≡ true
  each_once [] [] all own long = refl
  each_once [] (c ∷ cells) all own long = absurd all
  each_once (p ∷ ps) [] all own long = absurd all
  each_once (p ∷ ps) (c ∷ cells) all own long =
      once_more p ps c cells all.0 all.1 own.0 (long p (inl refl)) (λ q i. long q (inr i))
      (each_once ps cells all.1 own.1 (λ q i. long q (inr i))) (has cells c) refl

  -- the edge has a way
  pub is_way : IsWay kind way
  is_way = (
    rank_of kind sizes c0,
    has0.0,
    subst (λ (d : ℕ). rank_of kind sizes c0 < cells_per_cube kind d) axes (below kind sizes fit c0),
    subst (λ (d : ℕ). has0.0 < edge_count kind d) axes has0.1,
    lists_same (way_of (sum_of kind (rank_of kind sizes c0) has0.0)) way (long_way ∙ sym middle.ways) (λ i h.
        let hi : i < 3 = omega (arith, h, long_way) in
        let here : slice_index (way_of (sum_of kind (rank_of kind sizes c0) has0.0)) i
        ≡ slice_index (sum_of kind (rank_of kind sizes c0) has0.0) i % 4 =
        get_or-map (λ c. c % 4) (sum_of kind (rank_of kind sizes c0) has0.0) i 0 0 (omega (arith, hi, long_sum c0 has0.0 has0.1)) in
        let same : slice_index (midpoint (edge kind sizes c0 has0.0)) i ≡ slice_index (midpoint e) i =
        ap (λ (x : Edge). slice_index (midpoint x) i) has0.2 in
        here ∙ way_from (slice_index (sum_of kind (rank_of kind sizes c0) has0.0) i) (slice_index way i) (slice_index cube i)
        (slice_index (cube_of kind sizes c0) i) (omega (arith, sum_at c0 has0.0 i has0.1 hi, same, middle_at i hi)) (middle.small i hi)),
  )
    where
      long_way : length (way_of (sum_of kind (rank_of kind sizes c0) has0.0)) ≡ 3
      long_way = length-map (sum_of kind (rank_of kind sizes c0) has0.0) (λ c. c % 4) ∙ long_sum c0 has0.0 has0.1

      way_from : (s w x y : ℕ) → 4 * y + s ≡ 4 * x + w → w < 4 → s % 4 ≡ w
      way_from s w x y sums small = omega (arith, sums, small)

  -- in each axis the cube of a place stands at the middle cube or one back
  pub back_small : (p : Place) (n : ℕ) → HasWay kind way p n → (i : ℕ) → i < 3 → slice_index p.back i ≤ 1
  back_small p n has i hi =
      let hr : p.rank < cells_per_cube kind (length sizes) = subst (λ (d : ℕ). p.rank < cells_per_cube kind d) (sym axes) has.is_rank in
      let hn : n < edge_count kind (length sizes) = subst (λ (d : ℕ). n < edge_count kind d) (sym axes) has.is_edge in
      let sum : slice_index (sum_of kind p.rank n) i ≡ slice_index way i + 4 * slice_index p.back i =
      ap (λ (x : List ℕ). slice_index x i) has.sum ∙ coordinate 3 (λ j. slice_index way j + 4 * slice_index p.back j) i hi in
      omega (arith, sum, rank_sum_small p.rank n i hr hn hi)

  -- the middle cube is within the samples
  pub within : IsInside sizes cube
  within i hi = let s = stood c0 has0.0 i h0 has0.1 has0.2 hi in omega (arith, s.cubes, s.small, s.inside)

  module _ (places : List Place) (round : AreRound kind way places) where
    -- ---- where the ring closes

    -- where no cube is missing the arc is the whole list
    whole_parts : (ps : List Place) → list_all (λ (p : Place). stands sides p.back) ps ≡ true → (before_gap sides ps ≡ ps) × (after_gap sides ps ≡ [])
    whole_parts [] h = (refl, refl)
    whole_parts (p ∷ ps) h =
        let first = and_left (stands sides p.back) (list_all (λ (q : Place). stands sides q.back) ps) h in
        let rest = whole_parts ps (and_right (stands sides p.back) (list_all (λ (q : Place). stands sides q.back) ps) h) in (
          ap (λ (b : Bool). if b then p ∷ before_gap sides ps else []) first ∙ ap (λ (xs : List Place). p ∷ xs) rest.0,
          ap (λ (b : Bool). if b then after_gap sides ps else filter (λ (x : Place). stands sides x.back) ps) first ∙ rest.1,
        )

    whole_arc : list_all (λ (p : Place). stands sides p.back) places ≡ true → arc_of sides places ≡ places
    whole_arc h =
        let parts = whole_parts places h in
        ap (λ (xs : List Place). xs ++ before_gap sides places) parts.1 ∙ parts.0

    closes_round : (cells : List ℕ) → AreAt kind sizes cube places cells
        → (3 ≤ length cells) × ShareFacetAt kind sizes e (slice_index cells (length cells - 1)) (slice_index cells 0)
    closes_round cells all =
        let long = at_length kind sizes cube places cells all in
        let d : Place = place_of c0 in
        let last = at_place kind sizes cube places cells all (length places - 1) d 0 (omega (arith, round.three)) in
        let first = at_place kind sizes cube places cells all 0 d 0 (omega (arith, round.three)) in
        let share = next_share (slice_index_or places (length places - 1) d) (slice_index_or places 0 d) (slice_index cells (length places - 1))
        (slice_index cells 0) (round.round d) last first in (
          omega (arith, long, round.three),
          subst (λ (n : ℕ). ShareFacetAt kind sizes e (slice_index cells (n - 1)) (slice_index cells 0)) (sym long) share,
        )

    -- ---- where it does not

    -- a missing cube: an axis in which it is
    record Missing (p : Place) : Type 0 where
      pub axis : ℕ
      pub is_axis : axis < 3
      pub out : stands_in (slice_index sizes axis) (slice_index cube axis) (slice_index p.back axis) ≡ false

    first_false : (a b c : Bool) → (a && (b && (c && true))) ≡ false → (a ≡ false) ⊎ ((b ≡ false) ⊎ (c ≡ false))
    first_false true true true h = absurd (cc)
    first_false true true false h = inr (inr refl)
    first_false true false c h = inr (inl refl)
    first_false false b c h = inl refl

    missing_in : (r : ℕ) (back : List ℕ) → length back ≡ 3 → stands sides back ≡ false → Missing (record { rank = r; back = back })
    missing_in r [] long h = absurd (omega (arith, long))
    missing_in r (a ∷ []) long h = absurd (omega (arith, long))
    missing_in r (a ∷ b ∷ []) long h = absurd (omega (arith, long))
    missing_in r (a ∷ b ∷ c ∷ d ∷ back) long h = absurd (omega (arith, long))
    missing_in r (a ∷ b ∷ c ∷ []) long h =
        elim (first_false (stands_in (slice_index sizes 0) (slice_index cube 0) a) (stands_in (slice_index sizes 1) (slice_index cube 1) b)
        (stands_in (slice_index sizes 2) (slice_index cube 2) c) h) [
          | inl out ↦ record { axis = 0; is_axis = omega arith; out = out }
          | inr (inl out) ↦ record { axis = 1; is_axis = omega arith; out = out }
          | inr (inr out) ↦ record { axis = 2; is_axis = omega arith; out = out }
        ]

    first_or_later : (p : Place) (ps : List Place) → (list_all (λ (q : Place). stands sides q.back) ps ≡ false
        → (q : Place) × In q ps × (stands sides q.back ≡ false)) → (b : Bool) → stands sides p.back ≡ b
        → (b && list_all (λ (q : Place). stands sides q.back) ps) ≡ false → (q : Place) × In q (p ∷ ps) × (stands sides q.back ≡ false)
    first_or_later p ps later true is h = let r = later h in (r.0, inr r.1, r.2)
    first_or_later p ps later false is h = (p, inl refl, is)

    some_false : (ps : List Place) → list_all (λ (p : Place). stands sides p.back) ps ≡ false → (p : Place) × In p ps × (stands sides p.back ≡ false)
    some_false [] h = absurd (cc)
    some_false (p ∷ ps) h = first_or_later p ps (some_false ps) (stands sides p.back) refl h

    all_false : (ps : List Place) (p : Place) → In p ps → stands sides p.back ≡ false → (b : Bool)
        → list_all (λ (q : Place). stands sides q.back) ps ≡ b → list_all (λ (q : Place). stands sides q.back) ps ≡ false
    all_false ps p i out true is =
        absurd (let there : stands sides p.back ≡ true = all_In (λ (q : Place). stands sides q.back) ps is p i in
        let both : true ≡ false = sym there ∙ out in cc)
    all_false ps p i out false is = is

    -- ---- the outer boundary

    ends_small : (i : ℕ) → i < 3 →
        (slice_index e.low i ≤ 2 * slice_index (cube_of kind sizes c0) i + 2) × (slice_index e.high i ≤ 2 * slice_index (cube_of kind sizes c0) i + 2)
    ends_small i hi =
        let h : i < length sizes = omega (arith, hi, axes) in
        let a = (edge_ends kind (length sizes) has0.0).0 in
        let b = (edge_ends kind (length sizes) has0.0).1 in
        let first : slice_index (low_corner c0 has0.0) i ≤ 2 * slice_index (cube_of kind sizes c0) i + 2 =
        omega (arith, coordinate_of kind sizes fit c0 a i h, small_offset kind sizes fit c0 a i (ends_in has0.0 has0.1).0) in
        let second : slice_index (high_corner c0 has0.0) i ≤ 2 * slice_index (cube_of kind sizes c0) i + 2 =
        omega (arith, coordinate_of kind sizes fit c0 b i h, small_offset kind sizes fit c0 b i (ends_in has0.0 has0.1).1) in
        let small = λ (p : List ℕ). slice_index p i ≤ 2 * slice_index (cube_of kind sizes c0) i + 2 in
        elim own_ends [ inl s ↦ (subst small s.0 first, subst small s.1 second) | inr s ↦ (subst small s.0 second, subst small s.1 first) ]

    both_at : (i v : ℕ) → slice_index e.low i ≡ v → slice_index e.high i ≡ v → All (λ p. slice_index p i ≡ v) (e.low ∷ e.high ∷ [])
    both_at i v low high = All-from_In (λ p. slice_index p i ≡ v) (e.low ∷ e.high ∷ []) at
      where
        at : (p : List ℕ) → In p (e.low ∷ e.high ∷ []) → slice_index p i ≡ v
        at p (inl same) = ap (λ (q : List ℕ). slice_index q i) same ∙ low
        at p (inr (inl same)) = ap (λ (q : List ℕ). slice_index q i) same ∙ high
        at p (inr (inr past)) = absurd past

    -- the numbers of one axis
    past_last : (n x y w low high : ℕ) → nat_le (x + 2) n ≡ false → y + (x - y) ≡ x → x - y ≤ 1 → (x - y ≡ 1 → w ≡ 0) → y + 1 < n
        → low + high ≡ 4 * x + w → low ≤ 2 * y + 2 → high ≤ 2 * y + 2 → (low ≡ 2 * (n - 1)) × (high ≡ 2 * (n - 1))
    past_last n x y w low high out cubes small flat inside sums low_small high_small =
        let few : n < x + 2 = grind (arith, nat_tests, out) in
        let one : x - y ≡ 1 = omega (arith, few, cubes, small, inside) in
        let none = flat one in (
          omega (arith, few, one, none, inside, sums, low_small, high_small, cubes),
          omega (arith, few, one, none, inside, sums, low_small, high_small, cubes),
        )

    before_first : (x w b s low high : ℕ) → nat_le 1 x ≡ false → s ≡ w + 4 * suc b → s ≤ 4 → low + high ≡ 4 * x + w → (low ≡ 0) × (high ≡ 0)
    before_first x w b s low high out sum small sums =
        let none : x ≡ 0 = grind (arith, nat_tests, out) in (omega (arith, none, sum, small, sums), omega (arith, none, sum, small, sums))

    border_by : (i back s : ℕ) → i < 3 → stands_in (slice_index sizes i) (slice_index cube i) back ≡ false → s ≡ slice_index way i + 4 * back → s ≤ 4
        → OnOuterBoundary sizes (e.low ∷ e.high ∷ [])
    border_by i zero s hi out sum small =
        let at = stood c0 has0.0 i h0 has0.1 has0.2 hi in
        let ends = ends_small i hi in
        let r =
        past_last (slice_index sizes i) (slice_index cube i) (slice_index (cube_of kind sizes c0) i) (slice_index way i) (slice_index e.low i)
        (slice_index e.high i) out at.cubes at.small at.flat at.inside (middle.sums i hi) ends.0 ends.1 in
        (i, omega (arith, hi, axes), inr (both_at i (2 * (slice_index sizes i - 1)) r.0 r.1))
    border_by i (suc b) s hi out sum small =
        let back : (suc b == 0) ≡ false = grind (arith, nat_tests) in
        let none : nat_le 1 (slice_index cube i) ≡ false =
        sym (ap (λ (t : Bool). if t then nat_le (slice_index cube i + 2) (slice_index sizes i) else nat_le 1 (slice_index cube i)) back) ∙ out in
        let r =
        before_first (slice_index cube i) (slice_index way i) b s (slice_index e.low i) (slice_index e.high i) none sum small (middle.sums i hi) in
        (i, omega (arith, hi, axes), inl (both_at i 0 r.0 r.1))

    to_border : list_all (λ (p : Place). stands sides p.back) places ≡ false → OnOuterBoundary sizes (e.low ∷ e.high ∷ [])
    to_border h =
        let p = some_false places h in
        let has = round.has p.0 (Contains_from places p.0 p.1) in
        let out = missing_in p.0.rank p.0.back has.1.axes p.2 in
        let hr : p.0.rank < cells_per_cube kind (length sizes) = subst (λ (d : ℕ). p.0.rank < cells_per_cube kind d) (sym axes) has.1.is_rank in
        let hn : has.0 < edge_count kind (length sizes) = subst (λ (d : ℕ). has.0 < edge_count kind d) (sym axes) has.1.is_edge in
        border_by out.axis (slice_index p.0.back out.axis) (slice_index (sum_of kind p.0.rank has.0) out.axis) out.is_axis out.out
        (ap (λ (x : List ℕ). slice_index x out.axis) has.1.sum
        ∙ coordinate 3 (λ j. slice_index way j + 4 * slice_index p.0.back j) out.axis out.is_axis)
        (rank_sum_small p.0.rank has.0 out.axis hr hn out.is_axis)

    leaves_low : (size x w : ℕ) → 0 ≡ 4 * x + w → (w ≡ 0) × (stands_in size x 1 ≡ false)
    leaves_low size x w sums =
        let none : x ≡ 0 = omega (arith, sums) in (omega (arith, sums), grind (arith, nat_tests, none))

    leaves_high : (size x w y : ℕ) → 2 * (size - 1) + 2 * (size - 1) ≡ 4 * x + w → w < 4 → y + 1 < size → (w ≡ 0) × (stands_in size x 0 ≡ false)
    leaves_high size x w y sums small some =
        let last : x + 1 ≡ size = omega (arith, sums, small, some) in (omega (arith, sums, small, some), grind (arith, nat_tests, last))

    from_border : OnOuterBoundary sizes (e.low ∷ e.high ∷ []) → list_all (λ (p : Place). stands sides p.back) places ≡ false
    from_border (i, h, inl all) =
        let hi : i < 3 = omega (arith, h, axes) in
        let low : slice_index e.low i ≡ 0 = all 0 [] (omega arith) in
        let high : slice_index e.high i ≡ 0 = all 1 [] (omega arith) in
        let r = leaves_low (slice_index sizes i) (slice_index cube i) (slice_index way i) (omega (arith, low, high, middle.sums i hi)) in
        let p = (round.both i hi r.0).1 in
        let has = round.has p.0 p.1 in
        all_false places p.0 (In_from places p.0 p.1)
        (out_false sizes cube p.0.back has.1.axes i hi
        (ap (λ (b : ℕ). stands_in (slice_index sizes i) (slice_index cube i) b) p.2 ∙ r.1)) (list_all (λ (q : Place). stands sides q.back) places) refl
    from_border (i, h, inr all) =
        let hi : i < 3 = omega (arith, h, axes) in
        let low : slice_index e.low i ≡ 2 * (slice_index sizes i - 1) = all 0 [] (omega arith) in
        let high : slice_index e.high i ≡ 2 * (slice_index sizes i - 1) = all 1 [] (omega arith) in
        let at = stood c0 has0.0 i h0 has0.1 has0.2 hi in
        let r = leaves_high (slice_index sizes i) (slice_index cube i) (slice_index way i) (slice_index (cube_of kind sizes c0) i)
        (omega (arith, low, high, middle.sums i hi)) (middle.small i hi) at.inside in
        let p = (round.both i hi r.0).0 in
        let has = round.has p.0 p.1 in
        all_false places p.0 (In_from places p.0 p.1)
        (out_false sizes cube p.0.back has.1.axes i hi
        (ap (λ (b : ℕ). stands_in (slice_index sizes i) (slice_index cube i) b) p.2 ∙ r.1)) (list_all (λ (q : Place). stands sides q.back) places) refl

    -- ---- the ring

    member_from : (cells : List ℕ) → AreAt kind sizes cube (arc_of sides places) cells → (c : ℕ) → Contains cells c
        → (c < cell_count kind sizes) × HasEdge kind sizes c e
    member_from cells all c has_c =
        let p = place_in kind sizes cube (arc_of sides places) cells all c (In_from cells c has_c) in
        let listed = round.has p.0 (Contains_from places p.0 (arc_in sides places p.0 p.1).0) in
        let found = place_has p.0 c listed.0 listed.1 p.2 in
        (p.2.is_cell, (listed.0, found.1, found.0))

    same_cell : (c d n : ℕ) → StandsAt kind sizes cube (place_of c) c → StandsAt kind sizes cube (place_of c) d → d ≡ c
    same_cell c d n here there =
        cell_fixed kind sizes d c there.is_cell here.is_cell
        (lists_same (cube_of kind sizes d) (cube_of kind sizes c)
        (length-cube_at sizes (d / cells_per_cube kind (length sizes)) ∙ sym (length-cube_at sizes (c / cells_per_cube kind (length sizes)))) (λ i h.
        let hi : i < 3 = omega (arith, h, length-cube_at sizes (d / cells_per_cube kind (length sizes)), axes) in
        omega (arith, here.cubes i hi, there.cubes i hi)))
        there.rank

    to_member : (cells : List ℕ) → AreAt kind sizes cube (arc_of sides places) cells → (c : ℕ) → (c < cell_count kind sizes) × HasEdge kind sizes c e
        → Contains cells c
    to_member cells all c is =
        let n = is.1.0 in
        let listed = round.all (place_of c) n (has_way c n is.0 is.1.1 is.1.2) in
        let there = own_stands c n is.0 is.1.1 is.1.2 in
        let in_places = in_arc sides places (place_of c) (In_from places (place_of c) listed) there in
        let d = cell_in kind sizes cube (arc_of sides places) cells all (place_of c) in_places in
        let same = same_cell c d.0 n (stands_at c n is.0 is.1.1 is.1.2) d.2 in
        Contains_from cells c (subst (λ (x : ℕ). In x cells) same d.1)

    -- the cells at the places of the arc are the ring
    pub ring_is : (cells : List ℕ) → AreAt kind sizes cube (arc_of sides places) cells
        → IsRing kind sizes e cells (list_all (λ (p : Place). stands sides p.back) places)
    ring_is cells all = record {
      members = λ c. (member_from cells all c, to_member cells all c);
      once = each_once (arc_of sides places) cells all
          (round.own (side_at (slice_index sizes 0) (slice_index cube 0)) (side_at (slice_index sizes 1) (slice_index cube 1))
          (side_at (slice_index sizes 2) (slice_index cube 2)))
          (λ p i. (round.has p (Contains_from places p (arc_in sides places p i).0)).1.axes);
      consecutive = all_share (arc_of sides places) cells all
          (round.arcs (side_at (slice_index sizes 0) (slice_index cube 0)) (side_at (slice_index sizes 1) (slice_index cube 1))
          (side_at (slice_index sizes 2) (slice_index cube 2)));
      closes = λ h. closes_round cells (subst (λ (ps : List Place). AreAt kind sizes cube ps cells) (whole_arc h) all);
      ends = (to_border, from_border);
    }

    -- the cells that stand there
    pub arc_cells : (cells : List ℕ) × AreAt kind sizes cube (arc_of sides places) cells
    arc_cells = cells_there kind sizes cube axes within (arc_of sides places) each
      where
        each : (p : Place) → In p (arc_of sides places) → IsThere kind sizes cube axes within p
        each p i =
            let r = arc_in sides places p i in
            let listed = round.has p (Contains_from places p r.0) in
            record { is_rank = listed.1.is_rank; long = listed.1.axes; small = back_small p listed.0 listed.1; there = r.1 }

-- ---- each edge has a ring

-- the middle cube of an edge, and its way
abbrev middle_cube : Edge → List ℕ
middle_cube e = point 3 (λ i. (slice_index e.low i + slice_index e.high i) / 4)

abbrev own_way : Edge → List ℕ
own_way e = point 3 (λ i. (slice_index e.low i + slice_index e.high i) % 4)

middle_is : (e : Edge) → IsMiddle e.low e.high (middle_cube e) (own_way e)
middle_is e = record {
  cubes = length-point 3 (λ i. (slice_index e.low i + slice_index e.high i) / 4);
  ways = length-point 3 (λ i. (slice_index e.low i + slice_index e.high i) % 4);
  sums = λ i hi.
      omega (
        arith,
        coordinate 3 (λ j. (slice_index e.low j + slice_index e.high j) / 4) i hi,
        coordinate 3 (λ j. (slice_index e.low j + slice_index e.high j) % 4) i hi,
      );
  small = λ i hi. omega (arith, coordinate 3 (λ j. (slice_index e.low j + slice_index e.high j) % 4) i hi);
}

pub has_ring : (kind : Kind) (sizes : List ℕ) → length sizes ≡ 3 → (e : Edge) → IsEdge kind sizes e → HasRing kind sizes e
has_ring kind sizes axes e is =
    let cube = middle_cube e in
    let way = own_way e in
    let middle = middle_is e in
    let round = rounds kind way (is_way kind sizes axes e cube way middle is.0 is.1 is.2) in
    let cells = arc_cells kind sizes axes e cube way middle is.0 is.1 is.2 (places_of kind way) round in (
      cells.0,
      list_all (λ (p : Place). stands (sides_at sizes cube) p.back) (places_of kind way),
      ring_is kind sizes axes e cube way middle is.0 is.1 is.2 (places_of kind way) round cells.0 cells.1,
    )

-- the same of a grid with as many axes as the kind has
pub grid_rings : (kind : Kind) (d : ℕ) → d ≡ 3 → (sizes : List ℕ) → length sizes ≡ d → (e : Edge) → IsEdge kind sizes e → HasRing kind sizes e
grid_rings kind d three sizes long = has_ring kind sizes (long ∙ three)

-- the ends of an edge are below twice the greatest size
pub ends_bounded : (kind : Kind) (sizes : List ℕ) → length sizes ≡ 3 → (most : ℕ) → ((i : ℕ) → i < length sizes → slice_index sizes i ≤ most)
    → (e : Edge) (c : ℕ) → c < cell_count kind sizes → HasEdge kind sizes c e → (i : ℕ) → i < 3 → slice_index e.low i + slice_index e.high i ≤ 4 * most
ends_bounded kind sizes axes most few e c hc has i hi =
    let h : i < length sizes = omega (arith, hi, axes) in
    let is = subst IsDimension (sym axes) three_is in
    let fits_kind = subst (HasDimension kind) (sym axes) (three_axes kind) in
    let fit = fits kind (length sizes) is fits_kind in
    let ends_in = ends_are_corners kind (length sizes) is fits_kind in
    let a = (edge_ends kind (length sizes) has.0).0 in
    let b = (edge_ends kind (length sizes) has.0).1 in
    let inside = cube_below sizes (c / cells_per_cube kind (length sizes)) (cube_in kind sizes c hc) i h in
    let first : slice_index (corner kind sizes c a) i ≤ 2 * most =
    omega (arith, coordinate_of kind sizes fit c a i h, small_offset kind sizes fit c a i (ends_in has.0 has.1).0, inside, few i h) in
    let second : slice_index (corner kind sizes c b) i ≤ 2 * most =
    omega (arith, coordinate_of kind sizes fit c b i h, small_offset kind sizes fit c b i (ends_in has.0 has.1).1, inside, few i h) in
    let small = λ (p : List ℕ). slice_index p i ≤ 2 * most in
    elim (ends_of_edge kind sizes ends_in c has.0 e has.2) [
      | inl s ↦ omega (arith, subst small s.0 first, subst small s.1 second)
      | inr s ↦ omega (arith, subst small s.0 second, subst small s.1 first)
    ]

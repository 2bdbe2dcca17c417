-- The edges of kept cells: each has its own number in its cell, and each bipolar one its own place in the list of all.
use Rattle.std.proofs.Common.{◌≡◌, ℕ, zero, suc, ◌+◌, ◌*◌, ◌<◌, Bool, true, false, not, cond, List, [], ◌∷◌, length, refl, ap, sym, ◌∙◌, subst, arith, inl, inr}
use Rattle.std.specs.Prelude.{◌⊎◌, ◌↔◌, nat_lt, slice_index, slice_index_or, Contains}
use Rattle.std.specs.List.{position_or_len}
use Rattle.std.proofs.lemmas.Bool.Decides.{nat_tests}
use Rattle.std.proofs.lemmas.List.Sums.{passes_at_first}
use Rattle.std.proofs.lemmas.List.FromFn.{get_or-map-range_with_len, length-map-range_with_len}
use Rattle.std.proofs.lemmas.Slice.Eq.{bytes_eq-Decides}
use Rattle.iso_model.specs.declared.Kind.{Kind}
use Rattle.lists.specs.Orders.{numbers, same_list}
use Rattle.iso_model.specs.Cells.{HasDimension, corner_count, edge_count, edge_ends}
use Rattle.iso_model.specs.Splits.{Edge, edge, corner, corner_offset, rank_of, cube_of, cell_count, midpoint}
use Rattle.iso_model.specs.Neighbours.{HasEdge}
use Rattle.iso_model.specs.Values.{Volume, IsRegularVolume, is_kept, cells}
use Rattle.iso_model.specs.Bipolar.{is_bipolar, cell_edges, kept_edges, bipolar_edges, bipolar_edge, AreBipolarEdges, same_edge, place_in}
use Rattle.iso_model.specs.Tables.{Table}
use Rattle.iso_model.proofs.BipolarLaws.{bipolar_edges-are}
use Rattle.iso_model.proofs.DimensionLaws.{dimension_cases}
use Rattle.iso_model.proofs.OrderLaws.{Earlier, keys_strict, comes_first-irreflexive}
use Rattle.iso_model.specs.Dimensions.{IsDimension}
use Rattle.cell_lattice.specs.CellLemmas.{ordered_ends, own_edges}
use Rattle.split_laws.proofs.Coordinates.{lists_same}
use Rattle.split_laws.proofs.Offsets.{OffsetsFit}
use Rattle.split_laws.proofs.Placement.{below, coordinate_of, long_offset}
use Rattle.split_laws.proofs.Sharing.{ends_of_edge}
use Rattle.split_laws.proofs.Passed.{fits, ends_are_corners}
use Rattle.split_laws.proofs.SplitTheorems.{own_midpoints}
use Rattle.glue_laws.proofs.Pieces.{Has}
use Rattle.volume_pieces.proofs.PiecesOf.{pieces_of}
use Rattle.lists.specs.Members.{In, Distinct, AscendsBy}
use Rattle.lists.proofs.Contained.{Contains-at, Contains-filtered, Contains-passes}
use Rattle.lists.proofs.MemberLaws.{In_from_place, Contains_from, In-map, In-flat_map, In-numbers}
use Rattle.lists.proofs.Orderings.{steps_ascend_by}
use Rattle.lists.proofs.Tests.{and_left, and_right}
use Rattle.std.proofs.lemmas.Bool.{and_from}
use Rattle.lists.proofs.DistinctLists.{Distinct-filter, Distinct-range}
use Rattle.iso_model.proofs.SignLaws.{edge_itself}

-- ---- kept cells

-- no cell is listed twice
pub cells_distinct : (v : Volume) → Distinct (cells v)
unfolding cells
cells_distinct v =
    Distinct-filter (is_kept v) (numbers (cell_count v.kind v.sizes)) (Distinct-range 0 (cell_count v.kind v.sizes))

-- ---- the corners and the edges of one cell

pairs : (p q : ℕ × ℕ) → p.0 ≡ q.0 → p.1 ≡ q.1 → p ≡ q
pairs p q a b = λ i. (a i, b i)

module _ (kind : Kind) (sizes : List ℕ) (has : HasDimension kind (length sizes)) where
  abbrev is : IsDimension (length sizes)
  is = dimension_cases kind (length sizes) has

  abbrev fit : OffsetsFit kind (length sizes)
  fit = fits kind (length sizes) is has

  -- different corners of a cell are different points
  pub own_corner : (c j k : ℕ) → j < corner_count kind (length sizes) → k < corner_count kind (length sizes)
      → corner kind sizes c j ≡ corner kind sizes c k → j ≡ k
  own_corner c j k hj hk same =
      fit.own (rank_of kind sizes c) (below kind sizes fit c) j k hj hk
      (lists_same (corner_offset kind (length sizes) (rank_of kind sizes c) j) (corner_offset kind (length sizes) (rank_of kind sizes c) k)
      (long_offset kind sizes fit c j hj ∙ sym (long_offset kind sizes fit c k hk))
      (λ i h.
      let in_axes : i < length sizes = omega (arith, h, long_offset kind sizes fit c j hj) in
      let equal : slice_index (corner kind sizes c j) i ≡ slice_index (corner kind sizes c k) i = ap (λ (p : List ℕ). slice_index p i) same in
      offsets_equal (slice_index (cube_of kind sizes c) i) (slice_index (corner_offset kind (length sizes) (rank_of kind sizes c) j) i)
      (slice_index (corner_offset kind (length sizes) (rank_of kind sizes c) k) i) (slice_index (corner kind sizes c j) i)
      (slice_index (corner kind sizes c k) i)
      (coordinate_of kind sizes fit c j i in_axes) (coordinate_of kind sizes fit c k i in_axes) equal))
    where
      offsets_equal : (x o p a b : ℕ) → a ≡ 2 * x + o → b ≡ 2 * x + p → a ≡ b → o ≡ p
      offsets_equal x o p a b e f s = omega (arith, e, f, s)

  abbrev Ordered : ℕ × ℕ → Type 0
  Ordered p = (p.0 < p.1) × (p.1 < corner_count kind (length sizes))

  -- two corners of a cell are these ends
  abbrev AreEnds : ℕ → ℕ × ℕ → List ℕ → List ℕ → Type 0
  AreEnds c p low high =
      ((corner kind sizes c p.0 ≡ low) × (corner kind sizes c p.1 ≡ high)) ⊎ ((corner kind sizes c p.1 ≡ low) × (corner kind sizes c p.0 ≡ high))

  -- different edges of a cell are different edges of the grid
  pub own_edge : (c a b : ℕ) → a < edge_count kind (length sizes) → b < edge_count kind (length sizes) → edge kind sizes c a ≡ edge kind sizes c b → a ≡ b
  own_edge c a b ha hb same =
      let x = edge kind sizes c a in
      let first = ends_of_edge kind sizes (ends_are_corners kind (length sizes) is has) c a x refl in
      let second = ends_of_edge kind sizes (ends_are_corners kind (length sizes) is has) c b x (sym same) in
      let ends =
      cases (edge_ends kind (length sizes) a) (edge_ends kind (length sizes) b) x.low x.high (ordered_ends kind (length sizes) is has a ha)
      (ordered_ends kind (length sizes) is has b hb) first second in
      own_edges kind (length sizes) is has a b ha hb (pairs (edge_ends kind (length sizes) a) (edge_ends kind (length sizes) b) ends.0 ends.1)
    where
      one : (j k : ℕ) (point : List ℕ) → j < corner_count kind (length sizes) → k < corner_count kind (length sizes) → corner kind sizes c j ≡ point
          → corner kind sizes c k ≡ point → j ≡ k
      one j k point hj hk e f = own_corner c j k hj hk (e ∙ sym f)

      first_below : (p : ℕ × ℕ) → Ordered p → p.0 < corner_count kind (length sizes)
      first_below p o = omega (arith, o.0, o.1)

      cases : (p q : ℕ × ℕ) (low high : List ℕ) → Ordered p → Ordered q → AreEnds c p low high → AreEnds c q low high → (p.0 ≡ q.0) × (p.1 ≡ q.1)
      cases p q low high op oq (inl s) (inl t) = (one p.0 q.0 low (first_below p op) (first_below q oq) s.0 t.0, one p.1 q.1 high op.1 oq.1 s.1 t.1)
      cases p q low high op oq (inl s) (inr t) =
          absurd (omega (arith, op.0, oq.0, one p.0 q.1 low (first_below p op) oq.1 s.0 t.0, one p.1 q.0 high op.1 (first_below q oq) s.1 t.1))
      cases p q low high op oq (inr s) (inl t) =
          absurd (omega (arith, op.0, oq.0, one p.1 q.0 low op.1 (first_below q oq) s.0 t.0, one p.0 q.1 high (first_below p op) oq.1 s.1 t.1))
      cases p q low high op oq (inr s) (inr t) = (one p.0 q.0 high (first_below p op) (first_below q oq) s.1 t.1, one p.1 q.1 low op.1 oq.1 s.0 t.0)

-- ---- places in lists of edges

-- two edges with the same ends are the same
pub same_edge_is : (d e : Edge) → same_edge d e ≡ true → d ≡ e
same_edge_is d e h =
    let low : d.low ≡ e.low = (bytes_eq-Decides d.low e.low).0 (and_left (same_list d.low e.low) (same_list d.high e.high) h) in
    let high : d.high ≡ e.high = (bytes_eq-Decides d.high e.high).0 (and_right (same_list d.low e.low) (same_list d.high e.high) h) in
    λ i. record { low = low i; high = high i }

-- an edge of a list has a place in it
pub place_below : (es : List Edge) (e : Edge) → In e es → place_in es e < length es
place_below [] e i = absurd i
place_below (d ∷ es) e (inl s) = subst (λ (x : Edge). place_in (x ∷ es) e < length (d ∷ es)) s (rw (edge_itself e) (omega arith))
place_below (d ∷ es) e (inr i) = go (same_edge e d) (position_or_len (same_edge e) es) (place_below es e i)
  where
    go : (b : Bool) (m : ℕ) → m < length es → cond (not b) (1 + m) 0 < length (d ∷ es)
    go true m h = omega arith
    go false m h = omega (arith, h)

-- and stands there
pub at_place : (es : List Edge) (e d : Edge) → In e es → slice_index_or es (place_in es e) d ≡ e
at_place es e d i = sym (same_edge_is e (slice_index_or es (place_in es e) d) (passes_at_first (same_edge e) es d (place_below es e i)))

-- in a list whose midpoints ascend the edge at a place has this place
pub place_at : (es : List Edge) → AscendsBy (Earlier midpoint) es → (k : ℕ) (d : Edge) → k < length es → place_in es (slice_index_or es k d) ≡ k
place_at [] up k d h = absurd (omega (arith, h))
place_at (x ∷ es) up zero d h = rw (edge_itself x) refl
place_at (x ∷ es) up (suc k) d h =
    let inside : k < length es = omega (arith, h) in
    let e : Edge = slice_index_or es k d in
    step (same_edge e x) (position_or_len (same_edge e) es)
    (λ s.
    comes_first-irreflexive (midpoint x)
    (subst (λ (y : Edge). Earlier midpoint x y) (same_edge_is e x s) (up.0 e (Contains-at es k d inside))))
    (place_at es up.1 k d inside)
  where
    step : (b : Bool) (m : ℕ) → (b ≡ true → ⊥) → m ≡ k → cond (not b) (1 + m) 0 ≡ suc k
    step true m apart s = absurd (apart refl)
    step false m apart s = omega (arith, s)

-- ---- the list of all bipolar edges

module _ (v : Volume) (regular : IsRegularVolume v) where
  abbrev dimension : IsDimension (length v.sizes)
  dimension = dimension_cases v.kind (length v.sizes) regular.fits

  list_is : AreBipolarEdges v (bipolar_edges v)
  list_is = bipolar_edges-are v (own_midpoints v.kind v.sizes dimension regular.fits)

  -- an edge of a cell is in the list of its edges
  pub in_cell : (c e : ℕ) → e < edge_count v.kind (length v.sizes) → In (edge v.kind v.sizes c e) (cell_edges v c)
  in_cell c e h = In-map (edge v.kind v.sizes c) (numbers (edge_count v.kind (length v.sizes))) e (In-numbers (edge_count v.kind (length v.sizes)) e h)

  -- a bipolar edge of a kept cell is in the list of all
  pub listed : (c e : ℕ) → In c (cells v) → e < edge_count v.kind (length v.sizes) → is_bipolar v (edge v.kind v.sizes c e) ≡ true
      → In (edge v.kind v.sizes c e) (bipolar_edges v)
  listed c e i h b =
      let x : Edge = edge v.kind v.sizes c e in
      let kept : Contains (kept_edges v) x = Contains_from (kept_edges v) x (In-flat_map (cell_edges v) (cells v) c x i (in_cell c e h)) in
      let at = (list_is.members x).1 (Contains-filtered (is_bipolar v) (kept_edges v) x b kept) in
      In_from_place (bipolar_edges v) x at.0 at.1 at.2

  -- each edge of the list is bipolar
  pub listed_bipolar : (k : ℕ) → k < length (bipolar_edges v) → is_bipolar v (bipolar_edge v k) ≡ true
  listed_bipolar k h =
      let e : Edge = bipolar_edge v k in
      let c = (list_is.members e).0 (Contains-at (bipolar_edges v) k (record { low = []; high = [] }) h) in
      Contains-passes (is_bipolar v) (kept_edges v) e c

  -- and stands at its place
  pub listed_place : (k : ℕ) → k < length (bipolar_edges v) → place_in (bipolar_edges v) (bipolar_edge v k) ≡ k
  listed_place k h =
      place_at (bipolar_edges v) (steps_ascend_by (Earlier midpoint) (keys_strict midpoint) (bipolar_edges v) list_is.ascends) k
      (record { low = []; high = [] }) h

  -- an edge of a cell stands in the list of its edges at its own number
  pub own_number : (c e : ℕ) → e < edge_count v.kind (length v.sizes) → position_or_len (same_edge (edge v.kind v.sizes c e)) (cell_edges v c) ≡ e
  own_number c e h =
      let x : Edge = edge v.kind v.sizes c e in
      let count : ℕ = edge_count v.kind (length v.sizes) in
      let n : ℕ = place_in (cell_edges v c) x in
      let long : length (cell_edges v c) ≡ count = length-map-range_with_len (edge v.kind v.sizes c) 0 count in
      let inside : n < count = omega (arith, long, place_below (cell_edges v c) x (in_cell c e h)) in
      let there : slice_index_or (cell_edges v c) n x ≡ edge v.kind v.sizes c n =
      get_or-map-range_with_len (edge v.kind v.sizes c) 0 count n n x inside (omega arith) in
      own_edge v.kind v.sizes regular.fits c n e inside h (sym there ∙ at_place (cell_edges v c) x x (in_cell c e h))

  -- ---- of the pieces

  module _ (t : Table) where
    -- a bipolar edge of a cell is one of its edges, and bipolar
    pub bipolar_is : (c e : ℕ) → (pieces_of v t).is_bipolar c e ≡ true
        → (e < edge_count v.kind (length v.sizes)) × (is_bipolar v (edge v.kind v.sizes c e) ≡ true)
    bipolar_is c e b =
        let test = and_left (nat_lt e (edge_count v.kind (length v.sizes))) (is_bipolar v (edge v.kind v.sizes c e)) b in
        (less e (edge_count v.kind (length v.sizes)) test, and_right (nat_lt e (edge_count v.kind (length v.sizes))) (is_bipolar v (edge v.kind v.sizes c e)) b)
      where
        less : (a n : ℕ) → nat_lt a n ≡ true → a < n
        less a n h = grind (arith, nat_tests)

    -- and each bipolar edge of the cell is one of the piece
    pub is_bipolar_from : (c e : ℕ) → e < edge_count v.kind (length v.sizes) → is_bipolar v (edge v.kind v.sizes c e) ≡ true
        → (pieces_of v t).is_bipolar c e ≡ true
    is_bipolar_from c e h b =
        and_from (nat_lt e (edge_count v.kind (length v.sizes))) (is_bipolar v (edge v.kind v.sizes c e))
        (less e (edge_count v.kind (length v.sizes)) h) b
      where
        less : (a n : ℕ) → a < n → nat_lt a n ≡ true
        less a n q = grind (arith, nat_tests)

    -- the place of a bipolar edge of a kept cell is one of the list, and the edge stands there
    pub place_edge : (c e : ℕ) → In c (cells v) → (pieces_of v t).is_bipolar c e ≡ true →
        ((pieces_of v t).place c e < length (bipolar_edges v)) × (bipolar_edge v ((pieces_of v t).place c e) ≡ edge v.kind v.sizes c e)
    place_edge c e i b =
        let is_one = bipolar_is c e b in
        let l = listed c e i is_one.0 is_one.1 in
        (place_below (bipolar_edges v) (edge v.kind v.sizes c e) l, at_place (bipolar_edges v) (edge v.kind v.sizes c e) (record { low = []; high = [] }) l)

    -- from the place of a bipolar edge back to its number in the cell
    pub back : (c e : ℕ) → In c (cells v) → (pieces_of v t).is_bipolar c e ≡ true → (pieces_of v t).local c ((pieces_of v t).place c e) ≡ e
    back c e i b = ap (λ (x : Edge). position_or_len (same_edge x) (cell_edges v c)) (place_edge c e i b).1 ∙ own_number c e (bipolar_is c e b).0

    -- where a kept cell has the bipolar edge at a place, with its number
    pub has_at : (c k n : ℕ) → k < length (bipolar_edges v) → n < edge_count v.kind (length v.sizes) → edge v.kind v.sizes c n ≡ bipolar_edge v k →
        ((pieces_of v t).is_bipolar c n ≡ true) × ((pieces_of v t).place c n ≡ k)
    has_at c k n hk hn same = (
      is_bipolar_from c n hn (ap (is_bipolar v) same ∙ listed_bipolar k hk),
      ap (place_in (bipolar_edges v)) same ∙ listed_place k hk,
    )

    -- a kept cell has a bipolar edge with a place exactly where it has the edge that stands there
    pub has_edge : (c k : ℕ) → In c (cells v) → k < length (bipolar_edges v) → Has (pieces_of v t) c k ↔ HasEdge v.kind v.sizes c (bipolar_edge v k)
    has_edge c k i hk = (
      λ has. (has.0, (bipolar_is c has.0 has.1).0, sym (place_edge c has.0 i has.1).1 ∙ ap (bipolar_edge v) has.2),
      λ has. let at = has_at c k has.0 hk has.1 has.2 in (has.0, at.0, at.1),
    )

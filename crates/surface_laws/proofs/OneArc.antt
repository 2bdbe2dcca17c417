-- Where each cell of a regular volume of three dimensions is kept, all cells that have a bipolar edge stand on one arc.
use Rattle.std.proofs.Common.{◌≡◌, ℕ, zero, suc, ◌+◌, ◌-◌, ◌<◌, Bool, true, not, ◌&&◌, List, [], ◌∷◌, length, Some, sym, ◌∙◌, subst}
use Rattle.std.proofs.Common.{arith, inl, inr, refl}
use Rattle.std.specs.Prelude.{◌⊎◌, ◌/◌, ◌==◌, ◌||◌, nat_lt, pos, negsuc, slice_index}
use Rattle.std.proofs.lemmas.Bool.{ltb-true, eqb-true, or_cases, and_from}
use Rattle.std.proofs.lemmas.Int.{ints}
use Rattle.iso_model.specs.declared.Kind.{Kind}
use Rattle.iso_model.specs.Cells.{edge_count, edge_in_facet, edge_ends, facet_count}
use Rattle.iso_model.specs.Splits.{edge, rank_of, cell_count, cells_per_cube, cube_of}
use Rattle.iso_model.specs.Neighbours.{facet_offsets}
use Rattle.iso_model.specs.Boundary.{KeepsAll}
use Rattle.iso_model.specs.Values.{Volume, IsRegularVolume, cells}
use Rattle.iso_model.specs.Bipolar.{bipolar_edges, bipolar_edge}
use Rattle.iso_model.specs.Surface.{IsCellAt}
use Rattle.iso_model.specs.Links.{OnOneArc}
use Rattle.iso_model.specs.Tables.{Table}
use Rattle.split_checks.specs.CubeShifts.{meets, move_to, stays}
use Rattle.split_checks.specs.AcrossTests.{move_across, next_across, next_at}
use Rattle.split_laws.specs.Standing.{shift_at, LeavesGrid}
use Rattle.split_laws.proofs.Coordinates.{cell_fixed, cube_below, cube_in}
use Rattle.split_laws.proofs.Placement.{Moved, below, moved_by, stands_there, meet_where_same}
use Rattle.split_laws.proofs.Passed.{ends_are_corners}
use Rattle.split_laws.proofs.Across.{less_one, length-move}
use Rattle.split_laws.proofs.SplitTheorems.{boundary_is}
use Rattle.volume_pieces.proofs.PiecesOf.{pieces_of, across_of}
use Rattle.volume_pieces.proofs.Edges.{has_at}
use Rattle.volume_pieces.proofs.FreeFacets.{free_from_none}
use Rattle.volume_pieces.proofs.PiecesAcross.{across_meets, cell_and_facet}
use Rattle.volume_pieces.proofs.AcrossStands.{volume_dimension, fit_of, below_cells, meets_stands}
use Rattle.split_checks.specs.RingTests.{AtEdge, at_edge, first_end, second_end, ends_meet, ends_cross, move_over, way_on, step, goes_well}
use Rattle.split_checks.specs.WayTests.{is_part, left_after, is_there, comes_to, has_way}
use Rattle.split_checks.proofs.WaysFound.{ways_pass}
use Rattle.surface_laws.proofs.SameEdges.{ends_match, one_edge}
use Rattle.link_laws.proofs.Arcs.{FacetHas, OnArc, stay, over_facet}
use Rattle.surface_laws.proofs.LinkedArcs.{from_cell_at, to_one_arc}
use Rattle.surface_laws.proofs.OuterFacets.{free_is_outer_one}
use Rattle.lists.specs.Members.{In}
use Rattle.lists.proofs.Tests.{not_or, and_left, and_right}
use Rattle.surface_laws.proofs.KeptRings.{none_or_some}
use Rattle.split_laws.proofs.NeighbourLaws.{shift_is_less_one}

-- ---- parts of moves

-- in each axis a part of a move stays, or does as the move does
part_at : (ss ms : List ℕ) → is_part ss ms ≡ true → (i : ℕ) → i < length ss → (slice_index ss i ≡ 1) ⊎ (slice_index ss i ≡ slice_index ms i)
part_at [] ms h i q = absurd (omega (arith, q))
part_at (s ∷ ss) [] h i q = absurd (cc)
part_at (s ∷ ss) (m ∷ ms) h zero q = elim (or_cases (s == 1) (s == m) (and_left ((s == 1) || (s == m)) (is_part ss ms) h)) [
  | inl e ↦ inl (eqb-true s 1 e)
  | inr e ↦ inr (eqb-true s m e)
]
part_at (s ∷ ss) (m ∷ ms) h (suc i) q = part_at ss ms (and_right ((s == 1) || (s == m)) (is_part ss ms) h) i (omega (arith, q))

left_at : (ss ms : List ℕ) → length ss ≡ length ms → (i : ℕ) → i < length ss → slice_index (left_after ss ms) i ≡ slice_index ms i + 1 - slice_index ss i
left_at [] ms long i q = absurd (omega (arith, q))
left_at (s ∷ ss) [] long i q = absurd (omega (arith, long))
left_at (s ∷ ss) (m ∷ ms) long zero q = refl
left_at (s ∷ ss) (m ∷ ms) long (suc i) q = left_at ss ms (omega (arith, long)) i (omega (arith, q))

left_length : (ss ms : List ℕ) → length ss ≡ length ms → length (left_after ss ms) ≡ length ms
left_length [] [] long = refl
left_length [] (m ∷ ms) long = absurd (omega (arith, long))
left_length (s ∷ ss) [] long = absurd (omega (arith, long))
left_length (s ∷ ss) (m ∷ ms) long = omega (arith, left_length ss ms (omega (arith, long)))

-- where the next cube stands, what is left of the move leads from it to the last one
left_balance : (a e d s m l : ℕ) → e + 1 ≡ a + s → d + 1 ≡ a + m → l ≡ m + 1 - s → (s ≡ 1) ⊎ (s ≡ m) → d + 1 ≡ e + l
left_balance a e d s m l over whole left (inl stays_here) = omega (arith, over, whole, left, stays_here)
left_balance a e d s m l over whole left (inr same) = omega (arith, over, whole, left, same)

moves_on : (kind : Kind) (sizes : List ℕ) (a e d : ℕ) (ss ms : List ℕ) → Moved kind sizes a e ss → Moved kind sizes a d ms → is_part ss ms ≡ true
    → Moved kind sizes e d (left_after ss ms)
moves_on kind sizes a e d ss ms over whole part =
    let long : length ss ≡ length ms = over.long ∙ sym whole.long in
    record {
      long = left_length ss ms long ∙ whole.long;
      at = λ i h.
          let q : i < length ss = omega (arith, h, over.long) in
          left_balance (slice_index (cube_of kind sizes a) i) (slice_index (cube_of kind sizes e) i) (slice_index (cube_of kind sizes d) i)
          (slice_index ss i) (slice_index ms i) (slice_index (left_after ss ms) i)
          (over.at i h) (whole.at i h) (left_at ss ms long i q) (part_at ss ms part i q);
    }

-- ---- the grid is not left

moves_down : (m : ℕ) → less_one m ≡ negsuc 0 → m ≡ 0
moves_down zero e = refl
moves_down (suc m) e = absurd (omega (arith, ints, e))

moves_up : (m : ℕ) → less_one m ≡ pos 1 → m ≡ 2
moves_up zero e = absurd (cc)
moves_up (suc m) e = omega (arith, ints, e)

-- a step that is a part of the move to a cube of the grid leads out of it in no axis
below_first : (x y s m : ℕ) → s ≡ 0 → x ≡ 0 → y + 1 ≡ x + m → (s ≡ 1) ⊎ (s ≡ m) → ⊥
below_first x y s m down first whole (inl stays_here) = omega (arith, down, stays_here)
below_first x y s m down first whole (inr same) = omega (arith, down, first, whole, same)

past_last : (x y s m n : ℕ) → s ≡ 2 → x + 2 ≡ n → y + 1 < n → y + 1 ≡ x + m → (s ≡ 1) ⊎ (s ≡ m) → ⊥
past_last x y s m n up last inside whole (inl stays_here) = omega (arith, up, stays_here)
past_last x y s m n up last inside whole (inr same) = omega (arith, up, last, inside, whole, same)

leaves_at : (kind : Kind) (sizes : List ℕ) (c f d i s m : ℕ) → i < length sizes → d < cell_count kind sizes → shift_at kind sizes c f i ≡ less_one s
    → (s ≡ 1) ⊎ (s ≡ m) →
    slice_index (cube_of kind sizes d) i + 1 ≡ slice_index (cube_of kind sizes c) i + m →
    ((shift_at kind sizes c f i ≡ negsuc 0) × (slice_index (cube_of kind sizes c) i ≡ 0))
    ⊎ ((shift_at kind sizes c f i ≡ pos 1) × (slice_index (cube_of kind sizes c) i + 2 ≡ slice_index sizes i))
    → ⊥
leaves_at kind sizes c f d i s m h hd shift part whole (inl low) =
    below_first (slice_index (cube_of kind sizes c) i) (slice_index (cube_of kind sizes d) i) s m (moves_down s (sym shift ∙ low.0)) low.1 whole part
leaves_at kind sizes c f d i s m h hd shift part whole (inr high) =
    past_last (slice_index (cube_of kind sizes c) i) (slice_index (cube_of kind sizes d) i) s m (slice_index sizes i) (moves_up s (sym shift ∙ high.0)) high.1
    (cube_below sizes (d / cells_per_cube kind (length sizes)) (cube_in kind sizes d hd) i h) whole part

never_leaves : (kind : Kind) (sizes : List ℕ) (c f d : ℕ) (ms : List ℕ) → d < cell_count kind sizes → Moved kind sizes c d ms →
    is_part (move_across (length sizes) (facet_offsets kind (length sizes) (rank_of kind sizes c) f)) ms ≡ true → LeavesGrid kind sizes c f → ⊥
never_leaves kind sizes c f d ms hd whole part out =
    let ss = move_across (length sizes) (facet_offsets kind (length sizes) (rank_of kind sizes c) f) in
    let i = out.0 in
    let in_move : i < length ss = omega (arith, out.1, length-move (length sizes) (facet_offsets kind (length sizes) (rank_of kind sizes c) f)) in
    leaves_at kind sizes c f d i (slice_index ss i) (slice_index ms i) out.1 hd (shift_is_less_one kind sizes c f i out.1)
    (part_at ss ms part i in_move) (whole.at i out.1) out.2

module _ (v : Volume) (regular : IsRegularVolume v) (t : Table) (all : KeepsAll v) (k : ℕ) (hk : k < length (bipolar_edges v)) (d : ℕ)
    (is_last : In d (cells v)) where
  -- the cell across a facet, where the step is a part of the move to the cell d
  across_there : (m f : ℕ) (ms : List ℕ) → In m (cells v) → f < facet_count v.kind (length v.sizes) → Moved v.kind v.sizes m d ms →
      is_part (move_across (length v.sizes) (facet_offsets v.kind (length v.sizes) (rank_of v.kind v.sizes m) f)) ms ≡ true
      → (e : ℕ) × (g : ℕ) × (across_of v m f ≡ Some (cell_and_facet e g))
  across_there m f ms i hf whole part = elim (none_or_some (across_of v m f)) [
    | inr found ↦ found
    | inl none ↦ absurd (let hm = below_cells v regular m i in
        never_leaves v.kind v.sizes m f d ms (below_cells v regular d is_last) whole part
        ((boundary_is v.kind v.sizes (volume_dimension v regular) regular.fits m f hm hf).0
        (free_is_outer_one v regular m f hm hf all (free_from_none v m f none))))
  ]

  -- the move leads home
  arrives : (m n : ℕ) (ms : List ℕ) → In m (cells v) → Moved v.kind v.sizes m d ms
      → is_there (at_edge (rank_of v.kind v.sizes m) n) ms (rank_of v.kind v.sizes d) ≡ true → OnArc (pieces_of v t) k m d
  arrives m n ms i whole h =
      let cube = stands_there v.kind v.sizes (fit_of v regular) m d ms whole (and_left (stays ms) (rank_of v.kind v.sizes m == rank_of v.kind v.sizes d) h) in
      let rank =
      eqb-true (rank_of v.kind v.sizes m) (rank_of v.kind v.sizes d)
      (and_right (stays ms) (rank_of v.kind v.sizes m == rank_of v.kind v.sizes d) h) in
      let same : m ≡ d = cell_fixed v.kind v.sizes m d (below_cells v regular m i) (below_cells v regular d is_last) cube rank in
      subst (OnArc (pieces_of v t) k m) same stay

  -- the cell after a step: it has the edge, and what is left of the move leads from it to d
  record StepsTo (m f : ℕ) (after : AtEdge) (left : List ℕ) : Type 0 where
    cell : ℕ
    facet : ℕ
    is_facet : f < facet_count v.kind (length v.sizes)
    is_across : across_of v m f ≡ Some (cell_and_facet cell facet)
    facet_has : FacetHas (pieces_of v t) m f k
    is_cell : In cell (cells v)
    rank : rank_of v.kind v.sizes cell ≡ after.rank
    in_edges : after.edge < edge_count v.kind (length v.sizes)
    has : edge v.kind v.sizes cell after.edge ≡ bipolar_edge v k
    moved : Moved v.kind v.sizes cell d left

  module _ (m n f : ℕ) (ms : List ℕ) (i : In m (cells v)) (hn : n < edge_count v.kind (length v.sizes))
      (has : edge v.kind v.sizes m n ≡ bipolar_edge v k) (whole : Moved v.kind v.sizes m d ms) where
    abbrev s : AtEdge
    s = at_edge (rank_of v.kind v.sizes m) n

    abbrev over : List ℕ
    over = move_over v.kind (length v.sizes) (at_edge (rank_of v.kind v.sizes m) n) f

    abbrev after : AtEdge
    after = step v.kind (length v.sizes) (next_across v.kind (length v.sizes)) (at_edge (rank_of v.kind v.sizes m) n) f

    steps_to : goes_well v.kind (length v.sizes) s f after ≡ true → is_part over ms ≡ true → StepsTo m f after (left_after over ms)
    steps_to well part =
        let a = nat_lt f (facet_count v.kind (length v.sizes)) in
        let b = edge_in_facet v.kind (length v.sizes) f n in
        let x = nat_lt after.edge (edge_count v.kind (length v.sizes)) in
        let y = ends_meet v.kind (length v.sizes) s over after in
        let three = and_left (a && b && x) y well in
        let hf = ltb-true f (facet_count v.kind (length v.sizes)) (and_left a b (and_left (a && b) x three)) in
        let ht = ltb-true after.edge (edge_count v.kind (length v.sizes)) (and_right (a && b) x three) in
        let next = across_there m f ms i hf whole part in
        let e : ℕ = next.0 in
        let found = across_meets v m f e next.1 next.2 in
        let there = meets_stands v regular m f i hf e next.1 found in
        let met : ends_meet v.kind (length v.sizes) s over (at_edge (rank_of v.kind v.sizes e) after.edge) ≡ true =
        subst (λ (r : ℕ). ends_meet v.kind (length v.sizes) s over (at_edge r after.edge) ≡ true) (sym there.rank)
        (and_right (a && b && x) y well) in
        let first = meets (first_end v.kind (length v.sizes) s) over (first_end v.kind (length v.sizes) (at_edge (rank_of v.kind v.sizes e) after.edge)) in
        let second = meets (second_end v.kind (length v.sizes) s) over (second_end v.kind (length v.sizes) (at_edge (rank_of v.kind v.sizes e) after.edge)) in
        let held = has_at v regular t m k n hk hn has in
        record {
          cell = e;
          facet = next.1;
          is_facet = hf;
          is_across = next.2;
          facet_has = (n, held.0, and_right a b (and_left (a && b) x three), held.1);
          is_cell = found.is_cell;
          rank = there.rank;
          in_edges = ht;
          has =
              one_edge v.kind v.sizes (fit_of v regular) (ends_are_corners v.kind (length v.sizes) (volume_dimension v regular) regular.fits) m n e
              after.edge hn ht over there.moved (and_left first second met) (and_right first second met)
              ∙ has;
          moved = moves_on v.kind v.sizes m e d over ms there.moved whole part;
        }

  -- a walk that comes to the rank of d in its cube is one from cell to cell, on one arc
  way_stands : (fuel g m n : ℕ) (ms : List ℕ) → In m (cells v) → n < edge_count v.kind (length v.sizes) → edge v.kind v.sizes m n ≡ bipolar_edge v k
      → Moved v.kind v.sizes m d ms →
      comes_to v.kind (length v.sizes) (next_across v.kind (length v.sizes)) fuel g (at_edge (rank_of v.kind v.sizes m) n) ms
      (rank_of v.kind v.sizes d)
      ≡ true
      → OnArc (pieces_of v t) k m d
  way_stands zero g m n ms i hn has whole h = arrives m n ms i whole h
  way_stands (suc fuel) g m n ms i hn has whole h =
      elim (or_cases (is_there here ms (rank_of v.kind v.sizes d)) ((well && part) && later) h) [
        | inl home ↦ arrives m n ms i whole home
        | inr on ↦ (let two = and_left (well && part) later on in
            let to : StepsTo m f (after m n f ms i hn has whole) (left_after (over m n f ms i hn has whole) ms) =
            steps_to m n f ms i hn has whole (and_left well part two) (and_right well part two) in
            over_facet {d = to.cell} f to.facet to.is_facet to.is_across to.facet_has
            (way_stands fuel (next_at (next_across v.kind (length v.sizes)) (rank_of v.kind v.sizes m) f).1 to.cell
            (after m n f ms i hn has whole).edge (left_after (over m n f ms i hn has whole) ms) to.is_cell to.in_edges to.has to.moved
            (from_there to.cell to.rank (and_right (well && part) later on))))
      ]
    where
      here : AtEdge
      here = at_edge (rank_of v.kind v.sizes m) n

      f : ℕ
      f = way_on v.kind (length v.sizes) (at_edge (rank_of v.kind v.sizes m) n) g

      well : Bool
      well = goes_well v.kind (length v.sizes) here f (after m n f ms i hn has whole)

      part : Bool
      part = is_part (over m n f ms i hn has whole) ms

      from_rank : ℕ → ℕ → Bool
      from_rank r e =
          comes_to v.kind (length v.sizes) (next_across v.kind (length v.sizes)) fuel
          (next_at (next_across v.kind (length v.sizes)) (rank_of v.kind v.sizes m) f).1 (at_edge r e)
          (left_after (over m n f ms i hn has whole) ms) (rank_of v.kind v.sizes d)

      later : Bool
      later = from_rank (after m n f ms i hn has whole).rank (after m n f ms i hn has whole).edge

      from_there : (e : ℕ) → rank_of v.kind v.sizes e ≡ (after m n f ms i hn has whole).rank → later ≡ true
          → from_rank (rank_of v.kind v.sizes e) (after m n f ms i hn has whole).edge ≡ true
      from_there e rank rest = subst (λ (r : ℕ). from_rank r (after m n f ms i hn has whole).edge ≡ true) (sym rank) rest

  -- where two cells have the edge, there is a way from the one to the other
  module _ (three : length v.sizes ≡ 3) (c n m : ℕ) (is_first : In c (cells v)) (hn : n < edge_count v.kind (length v.sizes))
      (hm : m < edge_count v.kind (length v.sizes)) (has : edge v.kind v.sizes c n ≡ bipolar_edge v k)
      (has_last : edge v.kind v.sizes d m ≡ bipolar_edge v k) where
    abbrev here : AtEdge
    here = at_edge (rank_of v.kind v.sizes c) n

    abbrev last : AtEdge
    last = at_edge (rank_of v.kind v.sizes d) m

    abbrev straight : List ℕ
    straight =
        move_to (first_end v.kind (length v.sizes) (at_edge (rank_of v.kind v.sizes c) n))
        (first_end v.kind (length v.sizes) (at_edge (rank_of v.kind v.sizes d) m))

    abbrev crossed : List ℕ
    crossed =
        move_to (first_end v.kind (length v.sizes) (at_edge (rank_of v.kind v.sizes c) n))
        (second_end v.kind (length v.sizes) (at_edge (rank_of v.kind v.sizes d) m))

    abbrev way_by : List ℕ → Bool
    way_by ms = has_way v.kind (length v.sizes) (next_across v.kind (length v.sizes)) (at_edge (rank_of v.kind v.sizes c) n) ms (rank_of v.kind v.sizes d)

    by_way : (ms : List ℕ) → Moved v.kind v.sizes c d ms
        → has_way v.kind (length v.sizes) (next_across v.kind (length v.sizes)) (at_edge (rank_of v.kind v.sizes c) n) ms (rank_of v.kind v.sizes d)
        ≡ true
        → OnArc (pieces_of v t) k c d
    by_way ms whole h =
        let one = facet_count v.kind (length v.sizes) in
        let other = way_on v.kind (length v.sizes) here (facet_count v.kind (length v.sizes)) in
        elim (or_cases (comes_to v.kind (length v.sizes) (next_across v.kind (length v.sizes)) 7 one here ms (rank_of v.kind v.sizes d))
        (comes_to v.kind (length v.sizes) (next_across v.kind (length v.sizes)) 7 other here ms (rank_of v.kind v.sizes d)) h) [
          | inl w ↦ way_stands 7 one c n ms is_first hn has whole w
          | inr w ↦ way_stands 7 other c n ms is_first hn has whole w
        ]

    pub way_found : OnArc (pieces_of v t) k c d
    way_found =
        let fit = fit_of v regular in
        let ends_in = ends_are_corners v.kind (length v.sizes) (volume_dimension v regular) regular.fits in
        let passed =
        ways_pass v.kind (length v.sizes) three (rank_of v.kind v.sizes c) n (rank_of v.kind v.sizes d) m (below v.kind v.sizes fit c) hn
        (below v.kind v.sizes fit d) hm in
        let first = not (ends_meet v.kind (length v.sizes) here straight last) || way_by straight in
        let second = not (ends_cross v.kind (length v.sizes) here crossed last) || way_by crossed in
        elim (ends_match v.kind v.sizes fit ends_in c n d m (has ∙ sym has_last)) [
          | inl s ↦ (let moved = moved_by v.kind v.sizes fit c d (edge_ends v.kind (length v.sizes) n).0 (edge_ends v.kind (length v.sizes) m).0
              (ends_in n hn).0 (ends_in m hm).0 s.0 in
              by_way straight moved (not_or (ends_meet v.kind (length v.sizes) here straight last) (way_by straight) (and_left first second passed)
              (and_from (meets (first_end v.kind (length v.sizes) here) straight (first_end v.kind (length v.sizes) last))
              (meets (second_end v.kind (length v.sizes) here) straight (second_end v.kind (length v.sizes) last))
              (meet_where_same v.kind v.sizes fit c d straight moved (edge_ends v.kind (length v.sizes) n).0 (edge_ends v.kind (length v.sizes) m).0
              (ends_in n hn).0 (ends_in m hm).0 s.0)
              (meet_where_same v.kind v.sizes fit c d straight moved (edge_ends v.kind (length v.sizes) n).1 (edge_ends v.kind (length v.sizes) m).1
              (ends_in n hn).1 (ends_in m hm).1 s.1))))
          | inr s ↦ (let moved = moved_by v.kind v.sizes fit c d (edge_ends v.kind (length v.sizes) n).0 (edge_ends v.kind (length v.sizes) m).1
              (ends_in n hn).0 (ends_in m hm).1 s.0 in
              by_way crossed moved (not_or (ends_cross v.kind (length v.sizes) here crossed last) (way_by crossed) (and_right first second passed)
              (and_from (meets (first_end v.kind (length v.sizes) here) crossed (second_end v.kind (length v.sizes) last))
              (meets (second_end v.kind (length v.sizes) here) crossed (first_end v.kind (length v.sizes) last))
              (meet_where_same v.kind v.sizes fit c d crossed moved (edge_ends v.kind (length v.sizes) n).0 (edge_ends v.kind (length v.sizes) m).1
              (ends_in n hn).0 (ends_in m hm).1 s.0)
              (meet_where_same v.kind v.sizes fit c d crossed moved (edge_ends v.kind (length v.sizes) n).1 (edge_ends v.kind (length v.sizes) m).0
              (ends_in n hn).1 (ends_in m hm).0 s.1))))
        ]

-- where each cell is kept, all cells that have a bipolar edge stand on one arc
pub one_arc : (v : Volume) → IsRegularVolume v → Table → length v.sizes ≡ 3 → KeepsAll v → (k c d : ℕ) → k < length (bipolar_edges v)
    → IsCellAt v (bipolar_edge v k) c → IsCellAt v (bipolar_edge v k) d → OnOneArc v (bipolar_edge v k) c d
one_arc v regular t three all k c d hk at_c at_d =
    let i = from_cell_at v t regular k hk c at_c in
    let j = from_cell_at v t regular k hk d at_d in
    to_one_arc v t regular k hk (way_found v regular t all k hk d j.0 three c at_c.1.0 at_d.1.0 i.0 at_c.1.1 at_d.1.1 at_c.1.2 at_d.1.2) i.0 i.1

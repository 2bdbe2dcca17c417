-- Two corners of a cell that are as far apart as the ends of an edge have an edge between them; so an edge of a grid between two corners of a cell is
-- an edge of the cell.
use Rattle.std.proofs.Common.{◌≡◌, ℕ, suc, ◌+◌, ◌-◌, ◌*◌, ◌<◌, Bool, true, not, ◌&&◌, ◌||◌, List, [], ◌∷◌, length, refl, ap, sym, ◌∙◌, subst, arith, inl, inr}
use Rattle.std.specs.Prelude.{◌⊎◌, ◌≢◌, ◌==◌, nat_le, slice_index}
use Rattle.std.specs.List.{list_all, list_any}
use Rattle.std.proofs.lemmas.Bool.{eqb-true, or_cases}
use Rattle.iso_model.specs.declared.Kind.{Kind}
use Rattle.iso_model.specs.declared.Kind.TheVariants.{Cube, Simplex, Pyramid}
use Rattle.lists.specs.Orders.{numbers}
use Rattle.iso_model.specs.Cells.{HasDimension, corner_count, edges, edge_count, edge_ends}
use Rattle.iso_model.specs.Splits.{Edge, edge, edge_of_ends, corner, corner_offset, cells_per_cube, rank_of, cube_of}
use Rattle.iso_model.proofs.BipolarLaws.{length-corner}
use Rattle.iso_model.proofs.DimensionLaws.{dimension_cases}
use Rattle.iso_model.specs.Dimensions.{IsDimension, of_each_cell}
use Rattle.cell_lattice.specs.CellLemmas.{ordered_ends, as_many_edges}
use Rattle.split_laws.proofs.Offsets.{OffsetsFit}
use Rattle.split_laws.proofs.Placement.{below, coordinate_of, long_offset}
use Rattle.split_laws.proofs.Midpoints.{either_order}
use Rattle.split_laws.proofs.Sharing.{ends_of_edge}
use Rattle.split_laws.proofs.Passed.{fits, ends_are_corners}
use Rattle.volume_pieces.proofs.Edges.{own_corner}
use Rattle.lists.proofs.Tests.{not_refused, and_left, and_right}
use Rattle.lists.proofs.Contained.{any_default, Contains-at}
use Rattle.lists.specs.Members.{In}
use Rattle.lists.proofs.MemberLaws.{In_from, Contains_from, from_any, all_In, all_below}

-- ---- distances

-- how far apart two points are, summed over the axes
abbrev pub distance : List ℕ → List ℕ → ℕ
distance [] q = 0
distance (x ∷ p) [] = 0
distance (x ∷ p) (y ∷ q) = (x - y) + (y - x) + distance p q

distance_back : (p q : List ℕ) → distance p q ≡ distance q p
distance_back [] [] = refl
distance_back [] (y ∷ q) = refl
distance_back (x ∷ p) [] = refl
distance_back (x ∷ p) (y ∷ q) = omega (arith, distance_back p q)

-- two points that are moved alike are as far apart as before
moved_alike : (p q o r : List ℕ) (move : ℕ → ℕ) → length q ≡ length p → length o ≡ length p → length r ≡ length p
    → ((i : ℕ) → i < length p → slice_index p i ≡ move i + slice_index o i) → ((i : ℕ) → i < length p → slice_index q i ≡ move i + slice_index r i)
    → distance p q ≡ distance o r
moved_alike [] q [] r move lq lo lr hp hq = refl
moved_alike [] q (b ∷ o) r move lq lo lr hp hq = absurd (omega (arith, lo))
moved_alike (x ∷ p) [] o r move lq lo lr hp hq = absurd (omega (arith, lq))
moved_alike (x ∷ p) (y ∷ q) [] r move lq lo lr hp hq = absurd (omega (arith, lo))
moved_alike (x ∷ p) (y ∷ q) (b ∷ o) [] move lq lo lr hp hq = absurd (omega (arith, lr))
moved_alike (x ∷ p) (y ∷ q) (b ∷ o) (c ∷ r) move lq lo lr hp hq =
    let first : x ≡ move 0 + b = hp 0 (omega arith) in
    let second : y ≡ move 0 + c = hq 0 (omega arith) in
    let rest : distance p q ≡ distance o r =
    moved_alike p q o r (λ i. move (suc i)) (omega (arith, lq)) (omega (arith, lo)) (omega (arith, lr)) (λ i h. hp (suc i) (omega (arith, h)))
    (λ i h. hq (suc i) (omega (arith, h))) in
    omega (arith, first, second, rest)

-- ---- short pairs of corners

-- ends of an edge may be this far apart: of cubes and pyramids at most 3, of simplices any two corners
abbrev pub is_short : Kind → ℕ → Bool
is_short Cube far = nat_le far 3
is_short Simplex far = true
is_short Pyramid far = nat_le far 3

abbrev pair_is_short : Kind → ℕ → ℕ → ℕ → ℕ → Bool
pair_is_short kind d r a b = is_short kind (distance (corner_offset kind d r a) (corner_offset kind d r b))

abbrev edge_is_short : Kind → ℕ → ℕ → ℕ × ℕ → Bool
edge_is_short kind d r ends = pair_is_short kind d r ends.0 ends.1

-- an edge has these two corners, in either order
abbrev is_between : ℕ → ℕ → ℕ × ℕ → Bool
is_between a b ends = (ends.0 == a) && (ends.1 == b) || (ends.0 == b) && (ends.1 == a)

abbrev chord_at : Kind → ℕ → ℕ → List (ℕ × ℕ) → ℕ → ℕ → Bool
chord_at kind d r es a b = (a == b) || not (pair_is_short kind d r a b) || list_any (is_between a b) es

abbrev chords_of : Kind → ℕ → List (ℕ × ℕ) → ℕ → Bool
chords_of kind d es r = list_all (λ a. list_all (chord_at kind d r es a) (numbers (corner_count kind d))) (numbers (corner_count kind d))

-- each edge of each rank is short
abbrev EdgesAreShort : Kind → ℕ → Type 0
EdgesAreShort kind d = (r : ℕ) → r < cells_per_cube kind d → list_all (edge_is_short kind d r) (edges kind d) ≡ true

edges_are_short : (kind : Kind) (d : ℕ) → IsDimension d → HasDimension kind d → EdgesAreShort kind d
edges_are_short =
    of_each_cell EdgesAreShort (λ r h. refl) (λ r h. refl) (λ r h. refl) (λ r h. refl) (λ r h. refl) (λ r h. refl)
    (λ r h. all_below 6 (λ k. list_all (edge_is_short Pyramid 3 k) (edges Pyramid 3)) refl r h)

-- each short pair of corners of each rank is an edge
abbrev ChordsAreEdges : Kind → ℕ → Type 0
ChordsAreEdges kind d = (r : ℕ) → r < cells_per_cube kind d → chords_of kind d (edges kind d) r ≡ true

chords_are_edges : (kind : Kind) (d : ℕ) → IsDimension d → HasDimension kind d → ChordsAreEdges kind d
chords_are_edges =
    of_each_cell ChordsAreEdges (λ r h. refl) (λ r h. refl) (λ r h. refl) (λ r h. refl) (λ r h. refl) (λ r h. refl)
    (λ r h. all_below 6 (chords_of Pyramid 3 (edges Pyramid 3)) refl r h)

-- ---- the edge between two corners

-- edge n has the corners a and b
abbrev pub IsBetween : Kind → ℕ → ℕ → ℕ → ℕ → Type 0
IsBetween kind d n a b = (((edge_ends kind d n).0 ≡ a) × ((edge_ends kind d n).1 ≡ b)) ⊎ (((edge_ends kind d n).0 ≡ b) × ((edge_ends kind d n).1 ≡ a))

between_from : (a b : ℕ) (ends : ℕ × ℕ) → is_between a b ends ≡ true → ((ends.0 ≡ a) × (ends.1 ≡ b)) ⊎ ((ends.0 ≡ b) × (ends.1 ≡ a))
between_from a b ends h = elim (or_cases (ends.0 == a && (ends.1 == b)) (ends.0 == b && (ends.1 == a)) h) [
  | inl e ↦ inl (eqb-true ends.0 a (and_left (ends.0 == a) (ends.1 == b) e), eqb-true ends.1 b (and_right (ends.0 == a) (ends.1 == b) e))
  | inr e ↦ inr (eqb-true ends.0 b (and_left (ends.0 == b) (ends.1 == a) e), eqb-true ends.1 a (and_right (ends.0 == b) (ends.1 == a) e))
]

module _ (kind : Kind) (d : ℕ) (is : IsDimension d) (has : HasDimension kind d) where
  short_edge : (r n : ℕ) → r < cells_per_cube kind d → n < edge_count kind d → edge_is_short kind d r (edge_ends kind d n) ≡ true
  short_edge r n hr hn =
      let inside : n < length (edges kind d) = omega (arith, hn, as_many_edges kind d is has) in
      all_In (edge_is_short kind d r) (edges kind d) (edges_are_short kind d is has r hr) (edge_ends kind d n)
      (In_from (edges kind d) (edge_ends kind d n) (Contains-at (edges kind d) n (0, 0) inside))

  short_chord : (r a b : ℕ) → r < cells_per_cube kind d → a < corner_count kind d → b < corner_count kind d → a ≢ b
      → pair_is_short kind d r a b ≡ true → (n : ℕ) × (n < edge_count kind d) × IsBetween kind d n a b
  short_chord r a b hr ha hb differ short =
      let row =
      all_below (corner_count kind d) (λ i. list_all (chord_at kind d r (edges kind d) i) (numbers (corner_count kind d)))
      (chords_are_edges kind d is has r hr) a ha in
      let at = all_below (corner_count kind d) (chord_at kind d r (edges kind d) a) row b hb in
      elim (or_cases (a == b || not (pair_is_short kind d r a b)) (list_any (is_between a b) (edges kind d)) at) [
        | inl first ↦ (elim (or_cases (a == b) (not (pair_is_short kind d r a b)) first) [
          | inl same ↦ absurd (differ (eqb-true a b same))
          | inr far ↦ absurd (not_refused (pair_is_short kind d r a b) far short)
        ])
        | inr found ↦ found_at (from_any (is_between a b) (edges kind d) found)
      ]
    where
      found_at : (p : ℕ × ℕ) × In p (edges kind d) × (is_between a b p ≡ true) → (n : ℕ) × (n < edge_count kind d) × IsBetween kind d n a b
      found_at f =
          let at = Contains_from (edges kind d) f.0 f.1 in
          let stands : edge_ends kind d at.0 ≡ f.0 = any_default (edges kind d) at.0 (0, 0) f.0 at.1 ∙ at.2 in (
            at.0,
            omega (arith, at.1, as_many_edges kind d is has),
            between_from a b (edge_ends kind d at.0) (subst (λ (p : ℕ × ℕ). is_between a b p ≡ true) (sym stands) f.2),
          )

-- ---- in a grid

-- an edge of two ends that are given in either order
two_ends : (p q low high : List ℕ) → length q ≡ length p → ((p ≡ low) × (q ≡ high)) ⊎ ((q ≡ low) × (p ≡ high)) → edge_of_ends p q ≡ edge_of_ends low high
two_ends p q low high long (inl s) = ap (λ (x : List ℕ). edge_of_ends x q) s.0 ∙ ap (edge_of_ends low) s.1
two_ends p q low high long (inr s) = either_order p q long ∙ ap (λ (x : List ℕ). edge_of_ends x p) s.0 ∙ ap (edge_of_ends low) s.1

module _ (kind : Kind) (sizes : List ℕ) (has : HasDimension kind (length sizes)) where
  abbrev is : IsDimension (length sizes)
  is = dimension_cases kind (length sizes) has

  abbrev fit : OffsetsFit kind (length sizes)
  fit = fits kind (length sizes) is has

  -- two corners are as far apart as their offsets
  corners_apart : (c j k : ℕ) → j < corner_count kind (length sizes) → k < corner_count kind (length sizes)
      → distance (corner kind sizes c j) (corner kind sizes c k)
      ≡ distance (corner_offset kind (length sizes) (rank_of kind sizes c) j) (corner_offset kind (length sizes) (rank_of kind sizes c) k)
  corners_apart c j k hj hk =
      moved_alike (corner kind sizes c j) (corner kind sizes c k) (corner_offset kind (length sizes) (rank_of kind sizes c) j)
      (corner_offset kind (length sizes) (rank_of kind sizes c) k) (λ i. 2 * slice_index (cube_of kind sizes c) i)
      (length-corner kind sizes c k ∙ sym (length-corner kind sizes c j)) (long_offset kind sizes fit c j hj ∙ sym (length-corner kind sizes c j))
      (long_offset kind sizes fit c k hk ∙ sym (length-corner kind sizes c j))
      (λ i h. coordinate_of kind sizes fit c j i (omega (arith, h, length-corner kind sizes c j)))
      (λ i h. coordinate_of kind sizes fit c k i (omega (arith, h, length-corner kind sizes c j)))

  -- two points are the ends of an edge of a cell
  abbrev AreEnds : ℕ → ℕ → List ℕ → List ℕ → Type 0
  AreEnds c n low high =
      ((corner kind sizes c (edge_ends kind (length sizes) n).0 ≡ low) × (corner kind sizes c (edge_ends kind (length sizes) n).1 ≡ high))
      ⊎ ((corner kind sizes c (edge_ends kind (length sizes) n).1 ≡ low) × (corner kind sizes c (edge_ends kind (length sizes) n).0 ≡ high))

  module _ (c e : ℕ) (he : e < edge_count kind (length sizes)) where
    -- the ends of an edge are different points
    corners_differ : corner kind sizes c (edge_ends kind (length sizes) e).0 ≢ corner kind sizes c (edge_ends kind (length sizes) e).1
    corners_differ met =
        let ends = ends_are_corners kind (length sizes) is has e he in
        omega (
          arith,
          (ordered_ends kind (length sizes) is has e he).0,
          own_corner kind sizes has c (edge_ends kind (length sizes) e).0 (edge_ends kind (length sizes) e).1 ends.0 ends.1 met,
        )

    ends_differ : (low high : List ℕ) → AreEnds c e low high → low ≢ high
    ends_differ low high (inl s) same = corners_differ (s.0 ∙ same ∙ sym s.1)
    ends_differ low high (inr s) same = corners_differ (s.1 ∙ sym same ∙ sym s.0)

    -- and not far apart
    ends_near : (low high : List ℕ) → AreEnds c e low high → is_short kind (distance low high) ≡ true
    ends_near low high are =
        let ends = ends_are_corners kind (length sizes) is has e he in
        let a = (edge_ends kind (length sizes) e).0 in
        let b = (edge_ends kind (length sizes) e).1 in
        let near : is_short kind (distance (corner kind sizes c a) (corner kind sizes c b)) ≡ true =
        ap (is_short kind) (corners_apart c a b ends.0 ends.1) ∙ short_edge kind (length sizes) is has (rank_of kind sizes c) e (below kind sizes fit c) he in
        elim are [
          | inl s ↦
              ap (λ (p : List ℕ). is_short kind (distance p high)) (sym s.0)
              ∙ ap (λ (q : List ℕ). is_short kind (distance (corner kind sizes c a) q)) (sym s.1) ∙ near
          | inr s ↦
              ap (λ (p : List ℕ). is_short kind (distance p high)) (sym s.0)
              ∙ ap (λ (q : List ℕ). is_short kind (distance (corner kind sizes c b) q)) (sym s.1)
              ∙ ap (is_short kind) (distance_back (corner kind sizes c b) (corner kind sizes c a)) ∙ near
        ]

    -- where both ends of an edge are corners of another cell, it is the edge of that cell between them
    pub edge_there : (d a b : ℕ) → a < corner_count kind (length sizes) → b < corner_count kind (length sizes)
        → corner kind sizes d a ≡ (edge kind sizes c e).low → corner kind sizes d b ≡ (edge kind sizes c e).high
        → (n : ℕ) × (n < edge_count kind (length sizes)) × IsBetween kind (length sizes) n a b × (edge kind sizes d n ≡ edge kind sizes c e)
    edge_there d a b ha hb first second =
        let x : Edge = edge kind sizes c e in
        let mine = ends_of_edge kind sizes (ends_are_corners kind (length sizes) is has) c e x refl in
        let differ = λ (same : a ≡ b). ends_differ x.low x.high mine (sym first ∙ ap (corner kind sizes d) same ∙ second) in
        let short : pair_is_short kind (length sizes) (rank_of kind sizes d) a b ≡ true =
        ap (is_short kind) (sym (corners_apart d a b ha hb)) ∙ ap (λ (p : List ℕ). is_short kind (distance p (corner kind sizes d b))) first
        ∙ ap (λ (q : List ℕ). is_short kind (distance x.low q)) second ∙ ends_near x.low x.high mine in
        let n = short_chord kind (length sizes) is has (rank_of kind sizes d) a b (below kind sizes fit d) ha hb differ short in
        let theirs = placed n.0 a b n.2 x.low x.high first second in
        let here : edge kind sizes c e ≡ edge_of_ends x.low x.high = joined c e x.low x.high mine in
        let there : edge kind sizes d n.0 ≡ edge_of_ends x.low x.high = joined d n.0 x.low x.high theirs in
        (n.0, n.1, n.2, there ∙ sym here)
      where
        placed : (n a b : ℕ) → IsBetween kind (length sizes) n a b → (low high : List ℕ) → corner kind sizes d a ≡ low → corner kind sizes d b ≡ high
            → AreEnds d n low high
        placed n a b (inl s) low high f g = inl (ap (corner kind sizes d) s.0 ∙ f, ap (corner kind sizes d) s.1 ∙ g)
        placed n a b (inr s) low high f g = inr (ap (corner kind sizes d) s.1 ∙ f, ap (corner kind sizes d) s.0 ∙ g)

        joined : (cell n : ℕ) (low high : List ℕ) → AreEnds cell n low high → edge kind sizes cell n ≡ edge_of_ends low high
        joined cell n low high are =
            let p = corner kind sizes cell (edge_ends kind (length sizes) n).0 in
            let q = corner kind sizes cell (edge_ends kind (length sizes) n).1 in
            two_ends p q low high
            (length-corner kind sizes cell (edge_ends kind (length sizes) n).1
            ∙ sym (length-corner kind sizes cell (edge_ends kind (length sizes) n).0))
            are

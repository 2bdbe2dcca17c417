-- Cells of a grid that have one edge: their ranks and their numbers of the edge may meet, and tell the cell.
use Rattle.std.proofs.Common.{◌≡◌, ℕ, ◌+◌, ◌*◌, ◌<◌, true, List, length, refl, ap, sym, ◌∙◌, arith, inl, inr}
use Rattle.std.specs.Prelude.{◌⊎◌, ◌/◌, slice_index}
use Rattle.iso_model.specs.declared.Kind.{Kind}
use Rattle.iso_model.specs.Cells.{edge_count, edge_ends}
use Rattle.iso_model.specs.Splits.{edge, edge_of_ends, corner, corner_offset, cell_count, cells_per_cube, cube_of, rank_of}
use Rattle.split_checks.specs.CubeShifts.{meets, move_to}
use Rattle.split_laws.proofs.Coordinates.{cell_fixed, lists_same, length-cube_at}
use Rattle.split_laws.proofs.Offsets.{OffsetsFit}
use Rattle.split_laws.proofs.Placement.{Moved, moved_by, meet_where_same, same_where_meet, coordinate_of}
use Rattle.split_laws.proofs.Sharing.{EndsAreCorners, ends_of_edge}
use Rattle.split_checks.specs.RingTests.{AtEdge, at_edge, first_end, second_end, ends_meet, ends_cross, may_meet}
use Rattle.std.proofs.lemmas.Bool.{and_from, or_left, or_right}

module _ (kind : Kind) (sizes : List ℕ) (fit : OffsetsFit kind (length sizes)) (ends_in : EndsAreCorners kind (length sizes)) where
  -- a cell, by its rank and the number of an edge in it
  abbrev pub state : ℕ → ℕ → AtEdge
  state c n = at_edge (rank_of kind sizes c) n

  abbrev pub low_corner : ℕ → ℕ → List ℕ
  low_corner c n = corner kind sizes c (edge_ends kind (length sizes) n).0

  abbrev pub high_corner : ℕ → ℕ → List ℕ
  high_corner c n = corner kind sizes c (edge_ends kind (length sizes) n).1

  -- the ends of an edge are those of the other, first to first or first to second
  pub ends_match : (c n d m : ℕ) → edge kind sizes c n ≡ edge kind sizes d m →
      ((low_corner c n ≡ low_corner d m) × (high_corner c n ≡ high_corner d m)) ⊎ ((low_corner c n ≡ high_corner d m) × (high_corner c n ≡ low_corner d m))
  ends_match c n d m same =
      cases (low_corner c n) (high_corner c n) (low_corner d m) (high_corner d m) (edge kind sizes c n).low (edge kind sizes c n).high
      (ends_of_edge kind sizes ends_in c n (edge kind sizes c n) refl) (ends_of_edge kind sizes ends_in d m (edge kind sizes c n) (sym same))
    where
      cases : (p q p' q' low high : List ℕ) → ((p ≡ low) × (q ≡ high)) ⊎ ((q ≡ low) × (p ≡ high)) → ((p' ≡ low) × (q' ≡ high)) ⊎ ((q' ≡ low) × (p' ≡ high)) →
          ((p ≡ p') × (q ≡ q')) ⊎ ((p ≡ q') × (q ≡ p'))
      cases p q p' q' low high (inl s) (inl t) = inl (s.0 ∙ sym t.0, s.1 ∙ sym t.1)
      cases p q p' q' low high (inl s) (inr t) = inr (s.0 ∙ sym t.0, s.1 ∙ sym t.1)
      cases p q p' q' low high (inr s) (inl t) = inr (s.1 ∙ sym t.1, s.0 ∙ sym t.0)
      cases p q p' q' low high (inr s) (inr t) = inl (s.1 ∙ sym t.1, s.0 ∙ sym t.0)

  module _ (c n d m : ℕ) (hn : n < edge_count kind (length sizes)) (hm : m < edge_count kind (length sizes)) where
    -- cells that have one edge may meet at it
    pub may_meet_there : edge kind sizes c n ≡ edge kind sizes d m → may_meet kind (length sizes) (state c n) (state d m) ≡ true
    may_meet_there same = cases (ends_match c n d m same)
      where
        cases : ((low_corner c n ≡ low_corner d m) × (high_corner c n ≡ high_corner d m))
            ⊎ ((low_corner c n ≡ high_corner d m) × (high_corner c n ≡ low_corner d m))
            → may_meet kind (length sizes) (state c n) (state d m) ≡ true
        cases (inl s) =
            let move = move_to (first_end kind (length sizes) (state c n)) (first_end kind (length sizes) (state d m)) in
            let moved =
            moved_by kind sizes fit c d (edge_ends kind (length sizes) n).0 (edge_ends kind (length sizes) m).0 (ends_in n hn).0 (ends_in m hm).0
            s.0 in
            or_left (ends_meet kind (length sizes) (state c n) move (state d m))
            (ends_cross kind (length sizes) (state c n)
            (move_to (first_end kind (length sizes) (state c n)) (second_end kind (length sizes) (state d m))) (state d m))
            (and_from (meets (first_end kind (length sizes) (state c n)) move (first_end kind (length sizes) (state d m)))
            (meets (second_end kind (length sizes) (state c n)) move (second_end kind (length sizes) (state d m)))
            (meet_where_same kind sizes fit c d move moved (edge_ends kind (length sizes) n).0 (edge_ends kind (length sizes) m).0 (ends_in n hn).0
            (ends_in m hm).0 s.0)
            (meet_where_same kind sizes fit c d move moved (edge_ends kind (length sizes) n).1 (edge_ends kind (length sizes) m).1 (ends_in n hn).1
            (ends_in m hm).1 s.1))
        cases (inr s) =
            let move = move_to (first_end kind (length sizes) (state c n)) (second_end kind (length sizes) (state d m)) in
            let moved =
            moved_by kind sizes fit c d (edge_ends kind (length sizes) n).0 (edge_ends kind (length sizes) m).1 (ends_in n hn).0 (ends_in m hm).1
            s.0 in
            or_right
            (ends_meet kind (length sizes) (state c n)
            (move_to (first_end kind (length sizes) (state c n)) (first_end kind (length sizes) (state d m))) (state d m))
            (ends_cross kind (length sizes) (state c n) move (state d m))
            (and_from (meets (first_end kind (length sizes) (state c n)) move (second_end kind (length sizes) (state d m)))
            (meets (second_end kind (length sizes) (state c n)) move (first_end kind (length sizes) (state d m)))
            (meet_where_same kind sizes fit c d move moved (edge_ends kind (length sizes) n).0 (edge_ends kind (length sizes) m).1 (ends_in n hn).0
            (ends_in m hm).1 s.0)
            (meet_where_same kind sizes fit c d move moved (edge_ends kind (length sizes) n).1 (edge_ends kind (length sizes) m).0 (ends_in n hn).1
            (ends_in m hm).0 s.1))

    -- where the ends meet in the moved cube, and_from have one edge
    pub one_edge : (move : List ℕ) → Moved kind sizes c d move
        → meets (first_end kind (length sizes) (state c n)) move (first_end kind (length sizes) (state d m)) ≡ true →
        meets (second_end kind (length sizes) (state c n)) move (second_end kind (length sizes) (state d m)) ≡ true → edge kind sizes d m ≡ edge kind sizes c n
    one_edge move moved first second =
        let low =
        same_where_meet kind sizes fit c d move moved (edge_ends kind (length sizes) n).0 (edge_ends kind (length sizes) m).0 (ends_in n hn).0
        (ends_in m hm).0 first in
        let high =
        same_where_meet kind sizes fit c d move moved (edge_ends kind (length sizes) n).1 (edge_ends kind (length sizes) m).1 (ends_in n hn).1
        (ends_in m hm).1 second in
        sym (ap (λ (p : List ℕ). edge_of_ends p (high_corner c n)) low ∙ ap (λ (q : List ℕ). edge_of_ends (low_corner d m) q) high)

  abbrev low_at : ℕ → ℕ → ℕ → ℕ
  low_at a n i = slice_index (corner_offset kind (length sizes) (rank_of kind sizes a) (edge_ends kind (length sizes) n).0) i

  abbrev high_at : ℕ → ℕ → ℕ → ℕ
  high_at a n i = slice_index (corner_offset kind (length sizes) (rank_of kind sizes a) (edge_ends kind (length sizes) n).1) i

  -- two cells of one rank that have one edge with one number are the same cell
  pub one_cell : (c d n : ℕ) → c < cell_count kind sizes → d < cell_count kind sizes → rank_of kind sizes c ≡ rank_of kind sizes d
      → edge kind sizes c n ≡ edge kind sizes d n → c ≡ d
  one_cell c d n hc hd rank same =
      cell_fixed kind sizes c d hc hd
      (lists_same (cube_of kind sizes c) (cube_of kind sizes d)
      (length-cube_at sizes (c / cells_per_cube kind (length sizes)) ∙ sym (length-cube_at sizes (d / cells_per_cube kind (length sizes)))) (λ i q.
      at i (omega (arith, q, length-cube_at sizes (c / cells_per_cube kind (length sizes)))) (ends_match c n d n same)))
      rank
    where
      balance : (a b k l i : ℕ) → i < length sizes → corner kind sizes a k ≡ corner kind sizes b l →
          2 * slice_index (cube_of kind sizes a) i + slice_index (corner_offset kind (length sizes) (rank_of kind sizes a) k) i
          ≡ 2 * slice_index (cube_of kind sizes b) i + slice_index (corner_offset kind (length sizes) (rank_of kind sizes b) l) i
      balance a b k l i h e = sym (coordinate_of kind sizes fit a k i h) ∙ ap (λ (p : List ℕ). slice_index p i) e ∙ coordinate_of kind sizes fit b l i h

      straight : (x y o o' : ℕ) → 2 * x + o ≡ 2 * y + o' → o ≡ o' → x ≡ y
      straight x y o o' e s = omega (arith, e, s)

      crossed : (x y o p o' p' : ℕ) → 2 * x + o ≡ 2 * y + p' → 2 * x + p ≡ 2 * y + o' → o ≡ o' → p ≡ p' → x ≡ y
      crossed x y o p o' p' e f s t = omega (arith, e, f, s, t)

      at : (i : ℕ) → i < length sizes
          → ((low_corner c n ≡ low_corner d n) × (high_corner c n ≡ high_corner d n))
          ⊎ ((low_corner c n ≡ high_corner d n) × (high_corner c n ≡ low_corner d n))
          →
          slice_index (cube_of kind sizes c) i ≡ slice_index (cube_of kind sizes d) i
      at i h (inl s) =
          straight (slice_index (cube_of kind sizes c) i) (slice_index (cube_of kind sizes d) i) (low_at c n i) (low_at d n i)
          (balance c d (edge_ends kind (length sizes) n).0 (edge_ends kind (length sizes) n).0 i h s.0)
          (ap (λ (r : ℕ). slice_index (corner_offset kind (length sizes) r (edge_ends kind (length sizes) n).0) i) rank)
      at i h (inr s) =
          crossed (slice_index (cube_of kind sizes c) i) (slice_index (cube_of kind sizes d) i) (low_at c n i) (high_at c n i) (low_at d n i) (high_at d n i)
          (balance c d (edge_ends kind (length sizes) n).0 (edge_ends kind (length sizes) n).1 i h s.0)
          (balance c d (edge_ends kind (length sizes) n).1 (edge_ends kind (length sizes) n).0 i h s.1)
          (ap (λ (r : ℕ). slice_index (corner_offset kind (length sizes) r (edge_ends kind (length sizes) n).0) i) rank)
          (ap (λ (r : ℕ). slice_index (corner_offset kind (length sizes) r (edge_ends kind (length sizes) n).1) i) rank)

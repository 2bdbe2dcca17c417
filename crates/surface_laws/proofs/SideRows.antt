-- The rows of a placed simplex: their turn is that of the canonical cell, negated where the cell is odd.
use Rattle.std.proofs.Common.{◌≡◌, ℕ, suc, ◌+◌, ◌*◌, ◌<◌, Bool, true, false, List, [], ◌∷◌, ◌++◌, length, refl, ap, sym, ◌∙◌, subst, arith, inl, inr, ℤ}
use Rattle.std.specs.Prelude.{map, pos, ◌-ℤ◌, ◌==◌, slice_index, if◌then◌else◌}
use Rattle.std.specs.Int.{bit_at}
use Rattle.std.proofs.lemmas.Int.{ints}
use Rattle.iso_model.specs.declared.Kind.{Kind}
use Rattle.iso_model.specs.declared.Kind.TheVariants.{Cube, Simplex, Pyramid}
use Rattle.iso_model.specs.Points.{point, plus}
use Rattle.iso_model.specs.Turns.{turn, signed, difference, side_rows}
use Rattle.iso_model.specs.Cells.{HasDimension, corner_count, corner_point, midpoint_between, edge_count, edge_ends, edge_midpoint}
use Rattle.iso_model.specs.Splits.{corner_offset, cube_of, rank_of, corner, edge, midpoint, is_odd_cell}
use Rattle.iso_model.specs.SplitLaws.{corner_sum, AreCorners}
use Rattle.iso_model.proofs.BipolarLaws.{length-corner}
use Rattle.iso_model.specs.Dimensions.{IsDimension}
use Rattle.split_laws.proofs.Coordinates.{length-point}
use Rattle.split_laws.proofs.Offsets.{OffsetsFit}
use Rattle.split_laws.proofs.Placement.{below, coordinate_of, long_offset}
use Rattle.split_laws.proofs.Midpoints.{plus_at, midpoint_of_ends}
use Rattle.split_laws.proofs.Passed.{fits, ends_are_corners}
use Rattle.split_laws.proofs.SplitTheorems.{turns_kept}
use Rattle.lists.specs.Members.{In}
use Rattle.lists.proofs.MemberLaws.{All-from_In}
use Rattle.iso_model.proofs.PointLaws.{length-plus_as}

-- ---- differences by coordinates

-- two differences are equal where they are so in each axis
pub differences_same : (p q r s : List ℕ) → length q ≡ length p → length r ≡ length p → length s ≡ length p →
    ((i : ℕ) → i < length p → slice_index p i + slice_index s i ≡ slice_index r i + slice_index q i) → difference p q ≡ difference r s
differences_same [] [] [] [] lq lr ls same = refl
differences_same [] [] [] (z ∷ s) lq lr ls same = absurd (omega (arith, ls))
differences_same [] [] (y ∷ r) s lq lr ls same = absurd (omega (arith, lr))
differences_same [] (y ∷ q) r s lq lr ls same = absurd (omega (arith, lq))
differences_same (x ∷ p) [] r s lq lr ls same = absurd (omega (arith, lq))
differences_same (x ∷ p) (y ∷ q) [] s lq lr ls same = absurd (omega (arith, lr))
differences_same (x ∷ p) (y ∷ q) (z ∷ r) [] lq lr ls same = absurd (omega (arith, ls))
differences_same (x ∷ p) (y ∷ q) (z ∷ r) (w ∷ s) lq lr ls same =
    let sums : x + w ≡ z + y = same 0 (omega arith) in
    let first : (pos x -ℤ pos y) ≡ (pos z -ℤ pos w) = omega (arith, ints, sums) in
    let rest : difference p q ≡ difference r s =
    differences_same p q r s (omega (arith, lq)) (omega (arith, lr)) (omega (arith, ls)) (λ i h. same (suc i) (omega (arith, h))) in
    rw (first, rest) refl

pyramid_case : (d k : ℕ) (b : Bool) → length (if b then point d (λ i. 1) else point d (λ i. 2 * bit_at k i)) ≡ d
pyramid_case d k true = length-point d (λ i. 1)
pyramid_case d k false = length-point d (λ i. 2 * bit_at k i)

-- a corner of the canonical cell has a coordinate for each axis
pub length-corner_point : (kind : Kind) (d k : ℕ) → length (corner_point kind d k) ≡ d
length-corner_point Cube d k = length-point d _
length-corner_point Simplex d k = length-point d _
length-corner_point Pyramid d k = pyramid_case d k (k == 4)

-- ---- a row by the corners of its points

-- from a sum of two corners to another
abbrev Row : Type 0
Row = (ℕ × ℕ) × (ℕ × ℕ)

abbrev canonical_row : Kind → ℕ → Row → List ℤ
canonical_row kind d r = difference (midpoint_between kind d r.0) (midpoint_between kind d r.1)

abbrev placed_row : Kind → ℕ → ℕ → Row → List ℤ
placed_row kind d rank r = difference (corner_sum kind d rank r.0) (corner_sum kind d rank r.1)

-- from corner n to corner p
abbrev direction_row : ℕ → ℕ → Row
direction_row p n = ((p, n), (n, n))

-- from the midpoint of edge a to that of edge x
abbrev edge_row : Kind → ℕ → ℕ → ℕ → Row
edge_row kind d a x = (edge_ends kind d x, edge_ends kind d a)

canonical_direction : (kind : Kind) (d p n : ℕ) → canonical_row kind d (direction_row p n) ≡ difference (corner_point kind d p) (corner_point kind d n)
canonical_direction kind d p n =
    let P = corner_point kind d p in
    let N = corner_point kind d n in
    let lp = length-corner_point kind d p in
    let ln = length-corner_point kind d n in
    let sum_long : length (plus P N) ≡ d = length-plus_as P N (ln ∙ sym lp) ∙ lp in
    differences_same (plus P N) (plus N N) P N (length-plus_as N N refl ∙ ln ∙ sym sum_long) (lp ∙ sym sum_long) (ln ∙ sym sum_long) (λ i h.
    let in_axes : i < d = omega (arith, h, sum_long) in
    omega (arith, plus_at P N (ln ∙ sym lp) i (omega (arith, in_axes, lp)), plus_at N N refl i (omega (arith, in_axes, ln))))

canonical_rows : (kind : Kind) (d a p n : ℕ) (w : List ℕ) →
    map (canonical_row kind d) (map (edge_row kind d a) w ++ direction_row p n ∷ [])
    ≡ map (λ q. difference q (edge_midpoint kind d a)) (map (edge_midpoint kind d) w)
    ++ difference (corner_point kind d p) (corner_point kind d n) ∷ []
canonical_rows kind d a p n [] = rw (canonical_direction kind d p n) refl
canonical_rows kind d a p n (x ∷ w) = ap (λ (rows : List (List ℤ)). canonical_row kind d (edge_row kind d a x) ∷ rows) (canonical_rows kind d a p n w)

module _ (kind : Kind) (sizes : List ℕ) (is : IsDimension (length sizes)) (has : HasDimension kind (length sizes)) (c : ℕ) where
  abbrev D : ℕ
  D = length sizes

  abbrev rank : ℕ
  rank = rank_of kind sizes c

  fit : OffsetsFit kind (length sizes)
  fit = fits kind (length sizes) is has

  -- the midpoint of an edge of the cell
  abbrev middle : ℕ → List ℕ
  middle x = midpoint (edge kind sizes c x)

  -- the sum of two corners of the cell, against that of their offsets
  module _ (k l : ℕ) (hk : k < corner_count kind (length sizes)) (hl : l < corner_count kind (length sizes)) where
    abbrev offsets_sum : List ℕ
    offsets_sum = plus (corner_offset kind (length sizes) (rank_of kind sizes c) k) (corner_offset kind (length sizes) (rank_of kind sizes c) l)

    long_offsets : length offsets_sum ≡ length sizes
    long_offsets =
        length-plus_as (corner_offset kind D rank k) (corner_offset kind D rank l)
        (long_offset kind sizes fit c l hl ∙ sym (long_offset kind sizes fit c k hk))
        ∙ long_offset kind sizes fit c k hk

    offsets_at : (i : ℕ) → i < length sizes
        → slice_index offsets_sum i
        ≡ slice_index (corner_offset kind (length sizes) (rank_of kind sizes c) k) i
        + slice_index (corner_offset kind (length sizes) (rank_of kind sizes c) l) i
    offsets_at i h =
        plus_at (corner_offset kind D rank k) (corner_offset kind D rank l)
        (long_offset kind sizes fit c l hl ∙ sym (long_offset kind sizes fit c k hk)) i (omega (arith, h, long_offset kind sizes fit c k hk))

    sum_at : (i : ℕ) → i < length sizes
        → slice_index (plus (corner kind sizes c k) (corner kind sizes c l)) i ≡ 4 * slice_index (cube_of kind sizes c) i + slice_index offsets_sum i
    sum_at i h =
        let at =
        plus_at (corner kind sizes c k) (corner kind sizes c l) (length-corner kind sizes c l ∙ sym (length-corner kind sizes c k)) i
        (omega (arith, h, length-corner kind sizes c k)) in
        omega (arith, at, offsets_at i h, coordinate_of kind sizes fit c k i h, coordinate_of kind sizes fit c l i h)

  abbrev BelowEdges : ℕ → Type 0
  BelowEdges x = x < edge_count kind (length sizes)

  placed_direction : (p n : ℕ) → p < corner_count kind (length sizes) → n < corner_count kind (length sizes)
      → placed_row kind (length sizes) (rank_of kind sizes c) (direction_row p n) ≡ difference (corner kind sizes c p) (corner kind sizes c n)
  placed_direction p n hp hn =
      let first = long_offsets p n hp hn in
      let second = long_offsets n n hn hn in
      differences_same (offsets_sum p n hp hn) (offsets_sum n n hn hn) (corner kind sizes c p) (corner kind sizes c n) (second ∙ sym first)
      (length-corner kind sizes c p ∙ sym first) (length-corner kind sizes c n ∙ sym first) (λ i h.
      let in_axes : i < length sizes = omega (arith, h, first) in
      omega (
        arith,
        offsets_at p n hp hn i in_axes,
        offsets_at n n hn hn i in_axes,
        coordinate_of kind sizes fit c p i in_axes,
        coordinate_of kind
            sizes fit c n i in_axes,
      ))

  placed_edge : (a x : ℕ) → BelowEdges a → BelowEdges x
      → placed_row kind (length sizes) (rank_of kind sizes c) (edge_row kind (length sizes) a x) ≡ difference (middle x) (middle a)
  placed_edge a x ha hx =
      let a0 = (edge_ends kind D a).0 in
      let a1 = (edge_ends kind D a).1 in
      let x0 = (edge_ends kind D x).0 in
      let x1 = (edge_ends kind D x).1 in
      let a_in = ends_are_corners kind D is has a ha in
      let x_in = ends_are_corners kind D is has x hx in
      let first = long_offsets x0 x1 x_in.0 x_in.1 in
      let second = long_offsets a0 a1 a_in.0 a_in.1 in
      let sum_x = plus (corner kind sizes c x0) (corner kind sizes c x1) in
      let sum_a = plus (corner kind sizes c a0) (corner kind sizes c a1) in
      let long : (k l : ℕ) → length (plus (corner kind sizes c k) (corner kind sizes c l)) ≡ length sizes =
      λ k l.
      length-plus_as (corner kind sizes c k) (corner kind sizes c l) (length-corner kind sizes c l ∙ sym (length-corner kind sizes c k))
      ∙ length-corner kind sizes c k in
      differences_same (offsets_sum x0 x1 x_in.0 x_in.1) (offsets_sum a0 a1 a_in.0 a_in.1) sum_x sum_a (second ∙ sym first) (long x0 x1 ∙ sym first)
      (long a0 a1 ∙ sym first) (λ i h.
      let in_axes : i < length sizes = omega (arith, h, first) in
      omega (arith, sum_at x0 x1 x_in.0 x_in.1 i in_axes, sum_at a0 a1 a_in.0 a_in.1 i in_axes))
      ∙ ap (λ (m : List ℕ). difference m sum_a) (sym (midpoint_of_ends (corner kind sizes c x0) (corner kind sizes c x1)))
      ∙ ap (difference (middle x)) (sym (midpoint_of_ends (corner kind sizes c a0) (corner kind sizes c a1)))

  placed_rows : (a p n : ℕ) (w : List ℕ) → BelowEdges a → ((x : ℕ) → In x w → BelowEdges x) → p < corner_count kind (length sizes)
      → n < corner_count kind (length sizes) →
      map (placed_row kind (length sizes) (rank_of kind sizes c)) (map (edge_row kind (length sizes) a) w ++ direction_row p n ∷ [])
      ≡ map (λ q. difference q (middle a)) (map middle w) ++ difference (corner kind sizes c p) (corner kind sizes c n) ∷ []
  placed_rows a p n [] ha hw hp hn = rw (placed_direction p n hp hn) refl
  placed_rows a p n (x ∷ w) ha hw hp hn =
      let rest = placed_rows a p n w ha (λ y i. hw y (inr i)) hp hn in
      rw (placed_edge a x ha (hw x (inl refl)), rest) refl

  rows_are_corners : (a p n : ℕ) (w : List ℕ) → BelowEdges a → ((x : ℕ) → In x w → BelowEdges x) → p < corner_count kind (length sizes)
      → n < corner_count kind (length sizes) → (r : Row) → In r (map (edge_row kind (length sizes) a) w ++ direction_row p n ∷ []) →
      AreCorners kind (length sizes) r.0 × AreCorners kind (length sizes) r.1
  rows_are_corners a p n [] ha hw hp hn r (inl e) =
      subst (λ (s : Row). AreCorners kind (length sizes) s.0 × AreCorners kind (length sizes) s.1) (sym e) ((hp, hn), (hn, hn))
  rows_are_corners a p n [] ha hw hp hn r (inr i) = absurd i
  rows_are_corners a p n (x ∷ w) ha hw hp hn r (inl e) =
      subst (λ (s : Row). AreCorners kind (length sizes) s.0 × AreCorners kind (length sizes) s.1) (sym e)
      (ends_are_corners kind (length sizes) is has x (hw x (inl refl)), ends_are_corners kind (length sizes) is has a ha)
  rows_are_corners a p n (x ∷ w) ha hw hp hn r (inr i) = rows_are_corners a p n w ha (λ y j. hw y (inr j)) hp hn r i

  long_rows : (a p n : ℕ) (w : List ℕ) → length (map (edge_row kind (length sizes) a) w ++ direction_row p n ∷ []) ≡ suc (length w)
  long_rows a p n [] = refl
  long_rows a p n (x ∷ w) = ap suc (long_rows a p n w)

  -- the turn of the edges of a tuple of the cell towards one of its corners from another
  pub placed_turn : (w : List ℕ) (p n : ℕ) → length w ≡ length sizes → 0 < length w → ((x : ℕ) → In x w → BelowEdges x)
      → p < corner_count kind (length sizes) → n < corner_count kind (length sizes) →
      turn (side_rows (map middle w) (difference (corner kind sizes c p) (corner kind sizes c n)))
      ≡ signed (is_odd_cell kind sizes c)
      (turn
      (side_rows (map (edge_midpoint kind (length sizes)) w)
      (difference (corner_point kind (length sizes) p) (corner_point kind (length sizes) n))))
  placed_turn [] p n long some hw hp hn = absurd (omega (arith, some))
  placed_turn (a ∷ w) p n long some hw hp hn =
      let ha = hw a (inl refl) in
      let hw' : (x : ℕ) → In x w → BelowEdges x = λ x i. hw x (inr i) in
      let rows = map (edge_row kind D a) w ++ direction_row p n ∷ [] in
      ap turn (sym (placed_rows a p n w ha hw' hp hn))
      ∙ turns_kept kind D is has rank rows (below kind sizes fit c) (long_rows a p n w ∙ long)
      (All-from_In (λ (r : Row). AreCorners kind D r.0 × AreCorners kind D r.1) rows (rows_are_corners a p n w ha hw' hp hn))
      ∙ ap (λ (rs : List (List ℤ)). signed (is_odd_cell kind sizes c) (turn rs)) (canonical_rows kind D a p n w)

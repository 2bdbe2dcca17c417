-- The turn of differences of points of a placed cell is that of the canonical cell, negated where the cell is odd.
use Rattle.std.proofs.Common.{◌≡◌, ℕ, zero, suc, ◌+◌, ◌-◌, ◌<◌, ◌≤◌, Bool, true, false, ◌&&◌, List, [], ◌∷◌, length, refl, ap, sym, ◌∙◌, arith, ℤ}
use Rattle.std.specs.Prelude.{map, pos, ◌-ℤ◌, ◌==◌, slice_index, slice_index_or, nat_lt, nat_le, All, if◌then◌else◌}
use Rattle.std.specs.List.{list_all}
use Rattle.std.proofs.lemmas.Bool.{eqb-true, ltb-true}
use Rattle.std.proofs.lemmas.List.{length-map}
use Rattle.std.proofs.lemmas.List.FromFn.{length-map-range_with_len}
use Rattle.std.proofs.lemmas.List.Elements.{All-head, All-tail}
use Rattle.std.proofs.lemmas.Int.{ints}
use Rattle.iso_model.specs.declared.Kind.{Kind}
use Rattle.lists.specs.Orders.{numbers, same_list}
use Rattle.iso_model.specs.Points.{point}
use Rattle.iso_model.specs.Turns.{turn, signed, difference}
use Rattle.iso_model.specs.Cells.{corner_count, corner_point, midpoint_between}
use Rattle.iso_model.specs.Splits.{corner_offset, is_odd_rank}
use Rattle.iso_model.specs.SplitLaws.{corner_sum, AreCorners, KeepsTurns}
use Rattle.split_checks.specs.ColumnTests.{columns, reversed, placed, keeps_corner, are_axes, turns_well, is_placed_rank}
use Rattle.split_laws.proofs.Coordinates.{coordinate, length-point}
use Rattle.split_laws.proofs.Offsets.{all_small}
use Rattle.split_laws.proofs.Midpoints.{plus_at}
use Rattle.split_laws.proofs.Turning.{turned_row, turn_law}
use Rattle.lists.proofs.MemberLaws.{all_below, at_numbers, lists_equal}
use Rattle.lists.proofs.Tests.{and_left, and_right}
use Rattle.iso_model.proofs.PointLaws.{length-plus_as, length-difference}

-- ---- lists of whole numbers by their places

ints_same : (xs ys : List ℤ) → length ys ≡ length xs → ((i : ℕ) → i < length xs → slice_index_or xs i (pos 0) ≡ slice_index_or ys i (pos 0)) → xs ≡ ys
ints_same [] [] e same = refl
ints_same [] (y ∷ ys) e same = absurd (omega (arith, e))
ints_same (x ∷ xs) [] e same = absurd (omega (arith, e))
ints_same (x ∷ xs) (y ∷ ys) e same =
    let first : x ≡ y = same 0 (omega arith) in
    rw (first, ints_same xs ys (omega (arith, e)) (λ i h. same (suc i) (omega (arith, h)))) refl

difference_at : (p q : List ℕ) → length q ≡ length p → (i : ℕ) → i < length p
    → slice_index_or (difference p q) i (pos 0) ≡ pos (slice_index p i) -ℤ pos (slice_index q i)
difference_at [] q e i h = absurd (omega (arith, h))
difference_at (x ∷ p) [] e i h = absurd (omega (arith, e))
difference_at (x ∷ p) (y ∷ q) e zero h = refl
difference_at (x ∷ p) (y ∷ q) e (suc i) h = difference_at p q (omega (arith, e)) i (omega (arith, h))

-- four reversed coordinates give the negated difference of sums
reversed_case : (b : Bool) (u v w z : ℕ) → u ≤ 2 → v ≤ 2 → w ≤ 2 → z ≤ 2 →
    pos ((if b then 2 - u else u) + (if b then 2 - v else v)) -ℤ pos ((if b then 2 - w else w) + (if b then 2 - z else z))
    ≡ signed b (pos (u + v) -ℤ pos (w + z))
reversed_case true u v w z a b c d = omega (arith, ints, a, b, c, d)
reversed_case false u v w z a b c d = refl

module _ (kind : Kind) (d rank : ℕ) (passed : is_placed_rank kind d rank ≡ true) where
  abbrev cols : List ℕ
  cols = columns kind d rank

  abbrev revs : List Bool
  revs = reversed kind d rank

  abbrev odd : Bool
  odd = is_odd_rank kind d rank

  abbrev axes_test : Bool
  axes_test = are_axes d cols

  abbrev corners_test : Bool
  corners_test = list_all (keeps_corner kind d rank cols revs) (numbers (corner_count kind d))

  first_two : (axes_test && corners_test) ≡ true
  first_two = and_left (axes_test && corners_test) (turns_well d cols revs odd) passed

  turning : turns_well d cols revs odd ≡ true
  turning = and_right (axes_test && corners_test) (turns_well d cols revs odd) passed

  column_in : (i : ℕ) → i < d → slice_index cols i < d
  column_in i h =
      let both_axes = and_left axes_test corners_test first_two in
      let long : length cols ≡ d = eqb-true (length cols) d (and_left (length cols == d) (list_all (λ j. nat_lt j d) cols) both_axes) in
      below_at cols (and_right (length cols == d) (list_all (λ j. nat_lt j d) cols) both_axes) i (omega (arith, long, h))
    where
      below_at : (xs : List ℕ) → list_all (λ j. nat_lt j d) xs ≡ true → (k : ℕ) → k < length xs → slice_index xs k < d
      below_at [] t k q = absurd (omega (arith, q))
      below_at (x ∷ xs) t zero q = ltb-true x d (and_left (nat_lt x d) (list_all (λ j. nat_lt j d) xs) t)
      below_at (x ∷ xs) t (suc k) q = below_at xs (and_right (nat_lt x d) (list_all (λ j. nat_lt j d) xs) t) k (omega (arith, q))

  module _ (k : ℕ) (hk : k < corner_count kind d) where
    at_corner : keeps_corner kind d rank cols revs k ≡ true
    at_corner = all_below (corner_count kind d) (keeps_corner kind d rank cols revs) (and_right axes_test corners_test first_two) k hk

    abbrev same_test : Bool
    same_test = same_list (corner_offset kind d rank k) (point d (placed cols revs (corner_point kind d k)))

    long_corner : length (corner_point kind d k) ≡ d
    long_corner =
        eqb-true (length (corner_point kind d k)) d
        (and_right same_test (length (corner_point kind d k) == d)
        (and_left (same_test && (length (corner_point kind d k) == d)) (list_all (λ x. nat_le x 2) (corner_point kind d k)) at_corner))

    small_corner : (i : ℕ) → slice_index (corner_point kind d k) i ≤ 2
    small_corner i =
        all_small (corner_point kind d k)
        (and_right (same_test && (length (corner_point kind d k) == d)) (list_all (λ x. nat_le x 2) (corner_point kind d k)) at_corner) i

    offset_is : corner_offset kind d rank k ≡ point d (placed cols revs (corner_point kind d k))
    offset_is =
        lists_equal (corner_offset kind d rank k) (point d (placed cols revs (corner_point kind d k)))
        (and_left same_test (length (corner_point kind d k) == d)
        (and_left (same_test && (length (corner_point kind d k) == d)) (list_all (λ x. nat_le x 2) (corner_point kind d k)) at_corner))

    long_offset : length (corner_offset kind d rank k) ≡ d
    long_offset = ap length offset_is ∙ length-point d (placed cols revs (corner_point kind d k))

    offset_at : (i : ℕ) → i < d → slice_index (corner_offset kind d rank k) i ≡ placed cols revs (corner_point kind d k) i
    offset_at i h = ap (λ (p : List ℕ). slice_index p i) offset_is ∙ coordinate d (placed cols revs (corner_point kind d k)) i h

  -- sums of two corners
  module _ (ends : ℕ × ℕ) (corners : AreCorners kind d ends) where
    long_sum : length (corner_sum kind d rank ends) ≡ d
    long_sum =
        length-plus_as (corner_offset kind d rank ends.0) (corner_offset kind d rank ends.1)
        (long_offset ends.1 corners.1 ∙ sym (long_offset ends.0 corners.0))
        ∙ long_offset ends.0 corners.0

    long_middle : length (midpoint_between kind d ends) ≡ d
    long_middle =
        length-plus_as (corner_point kind d ends.0) (corner_point kind d ends.1) (long_corner ends.1 corners.1 ∙ sym (long_corner ends.0 corners.0))
        ∙ long_corner ends.0 corners.0

    sum_at : (i : ℕ) → i < d
        → slice_index (corner_sum kind d rank ends) i
        ≡ placed cols revs (corner_point kind d ends.0) i + placed cols revs (corner_point kind d ends.1) i
    sum_at i h =
        let at =
        plus_at (corner_offset kind d rank ends.0) (corner_offset kind d rank ends.1)
        (long_offset ends.1 corners.1 ∙ sym (long_offset ends.0 corners.0)) i (omega (arith, h, long_offset ends.0 corners.0)) in
        omega (arith, at, offset_at ends.0 corners.0 i h, offset_at ends.1 corners.1 i h)

    middle_at : (j : ℕ) → j < d
        → slice_index (midpoint_between kind d ends) j ≡ slice_index (corner_point kind d ends.0) j + slice_index (corner_point kind d ends.1) j
    middle_at j h =
        plus_at (corner_point kind d ends.0) (corner_point kind d ends.1) (long_corner ends.1 corners.1 ∙ sym (long_corner ends.0 corners.0)) j
        (omega (arith, h, long_corner ends.0 corners.0))

  -- a row of the placed cell is the turned row of the canonical cell
  row_is : (r : (ℕ × ℕ) × (ℕ × ℕ)) → AreCorners kind d r.0 → AreCorners kind d r.1 →
      difference (corner_sum kind d rank r.0) (corner_sum kind d rank r.1)
      ≡ turned_row d cols revs (difference (midpoint_between kind d r.0) (midpoint_between kind d r.1))
  row_is r from to =
      let as_long : length (corner_sum kind d rank r.1) ≡ length (corner_sum kind d rank r.0) = long_sum r.1 to ∙ sym (long_sum r.0 from) in
      let as_long' : length (midpoint_between kind d r.1) ≡ length (midpoint_between kind d r.0) = long_middle r.1 to ∙ sym (long_middle r.0 from) in
      let many : length (difference (corner_sum kind d rank r.0) (corner_sum kind d rank r.1)) ≡ d =
      length-difference (corner_sum kind d rank r.0) (corner_sum kind d rank r.1) as_long ∙ long_sum r.0 from in
      ints_same (difference (corner_sum kind d rank r.0) (corner_sum kind d rank r.1))
      (turned_row d cols revs (difference (midpoint_between kind d r.0) (midpoint_between kind d r.1)))
      (length-map-range_with_len
      (λ i.
      signed (slice_index_or revs i false)
      (slice_index_or (difference (midpoint_between kind d r.0) (midpoint_between kind d r.1)) (slice_index cols i) (pos 0)))
      0 d
      ∙ sym many)
      (λ i q.
      let h : i < d = omega (arith, q, many) in
      let j : ℕ = slice_index cols i in
      let hj : slice_index cols i < d = column_in i h in
      difference_at (corner_sum kind d rank r.0) (corner_sum kind d rank r.1) as_long i (omega (arith, h, long_sum r.0 from))
      ∙ ap (λ (x : ℕ). pos x -ℤ pos (slice_index (corner_sum kind d rank r.1) i)) (sum_at r.0 from i h)
      ∙ ap (λ (y : ℕ). pos (placed cols revs (corner_point kind d r.0.0) i + placed cols revs (corner_point kind d r.0.1) i) -ℤ pos y) (sum_at r.1 to i h)
      ∙ reversed_case (slice_index_or revs i false) (slice_index (corner_point kind d r.0.0) j) (slice_index (corner_point kind d r.0.1) j)
      (slice_index (corner_point kind d r.1.0) j) (slice_index (corner_point kind d r.1.1) j)
      (small_corner r.0.0 from.0 j) (small_corner r.0.1 from.1 j) (small_corner r.1.0 to.0 j) (small_corner r.1.1 to.1 j)
      ∙ ap
      (λ (x : ℕ).
      signed (slice_index_or revs i false)
      (pos x -ℤ pos (slice_index (corner_point kind d r.1.0) j + slice_index (corner_point kind d r.1.1) j)))
      (sym (middle_at r.0 from j hj))
      ∙ ap (λ (y : ℕ). signed (slice_index_or revs i false) (pos (slice_index (midpoint_between kind d r.0) j) -ℤ pos y)) (sym (middle_at r.1 to j hj))
      ∙ ap (signed (slice_index_or revs i false))
      (sym (difference_at (midpoint_between kind d r.0) (midpoint_between kind d r.1) as_long' j (omega (arith, hj, long_middle r.0 from))))
      ∙ sym (at_numbers (λ i'. signed (slice_index_or revs i' false)
      (slice_index_or (difference (midpoint_between kind d r.0) (midpoint_between kind d r.1)) (slice_index cols i') (pos 0))) d i (pos 0) h))

  abbrev Row : Type 0
  Row = (ℕ × ℕ) × (ℕ × ℕ)

  rows_are : (rows : List Row) → All (λ (r : Row). AreCorners kind d r.0 × AreCorners kind d r.1) rows →
      map (λ (r : Row). difference (corner_sum kind d rank r.0) (corner_sum kind d rank r.1)) rows
      ≡ map (turned_row d cols revs) (map (λ (r : Row). difference (midpoint_between kind d r.0) (midpoint_between kind d r.1)) rows)
  rows_are [] all = refl
  rows_are (r ∷ rows) all =
      let first = All-head (λ (s : Row). AreCorners kind d s.0 × AreCorners kind d s.1) r rows all in
      rw (row_is r first.0 first.1, rows_are rows (All-tail (λ (s : Row). AreCorners kind d s.0 × AreCorners kind d s.1) r rows all)) refl

  pub keeps_turns : (rows : List Row) → KeepsTurns kind d rank rows
  keeps_turns rows long all =
      ap turn (rows_are rows all)
      ∙ turn_law d cols revs odd (map (λ (r : Row). difference (midpoint_between kind d r.0) (midpoint_between kind d r.1)) rows)
      (length-map rows (λ (r : Row). difference (midpoint_between kind d r.0) (midpoint_between kind d r.1)) ∙ long) turning

-- The midpoints that are there, height by height and row by row.
use Rattle.std.proofs.Common.{ap, arith, inl, inr, refl, sym, subst, ◌∙◌}
use Rattle.std.proofs.lemmas.Bool.{cases_lt, le-leb, leb-true}
use Rattle.std.proofs.lemmas.List.Elements.{Contains-append_cases, Contains-append_left, Contains-append_right}
use Rattle.std.proofs.lemmas.Nat.{div-add-mod', div-mul-add}
use Rattle.std.proofs.Math.Nat.{add-mul-mod_self_left, mod-eq_of_lt, mod-lt, mul-le-mul_left, mul_comm}
use Rattle.std.specs.Prelude.{Bool, Contains, List, [], ◌∷◌, ◌++◌, false, true, drop, flat_map, length, nat_le, nat_lt, slice_index, suc, zero, ℕ, ◌==◌}
use Rattle.std.specs.Prelude.{◌*◌, ◌+◌, ◌-◌, ◌/◌, ◌%◌, ◌<◌, ◌≤◌, ◌&&◌, ◌≡◌, ◌⊎◌, if◌then◌else◌}
use Rattle.iso_model.specs.Cells.{HasDimension}
use Rattle.iso_model.specs.Points.{comes_first}
use Rattle.iso_model.specs.Values.{Volume}
use Rattle.iso_model.proofs.DimensionLaws.{dimension_cases}
use Rattle.iso_model.proofs.BipolarLaws.{Contains-flat_map}
use Rattle.iso_model.proofs.OrderLaws.{keys_strict}
use Rattle.lists.specs.Members.{AscendsBy, In}
use Rattle.lists.specs.Orders.{numbers}
use Rattle.lists.proofs.Ascending.{Ascends-range}
use Rattle.lists.proofs.Contained.{Contains-filter, Contains-filtered, Contains-head, Contains-joined, Contains-passes, Contains-split, below_contained}
use Rattle.lists.proofs.Contained.{contained_below, none_contained}
use Rattle.lists.proofs.MemberLaws.{Contains_from, In_from}
use Rattle.lists.proofs.Orderings.{ascends_same}
use Rattle.lists.proofs.Tests.{and_left, and_right, lt_of, next_below, of_lt}
use Rattle.edge_middles.specs.GridMiddles.{is_there, middles_there, quarter_points}
use Rattle.edge_middles.specs.MeshMiddles.{middle_height, middles_between}
use Rattle.edge_middles.specs.RowLists.{GoRowByRow, one_there, row_at, row_there, rows_at, sample_row}
use Rattle.edge_middles.proofs.ListedEdges.{there_ascend, there_is}
use Rattle.edge_middles.proofs.MeshMiddles.{Less, by_less}
use Rattle.edge_middles.proofs.NextRows.{HaveParity, first_parity, has_parity, middle_parity, point_parts, rest_parity}
use Rattle.edge_middles.proofs.OrderedPoints.{ComesFirst, append_ascends, first_by_head, first_by_rest, flat_map_ascends, passing_ascend}
use Rattle.edge_middles.proofs.PointsThere.{along_axis, in_points, member_there, stands}
use Rattle.edge_middles.proofs.RowCounts.{some_rest}
use Rattle.std.proofs.lemmas.Bool.Decides.{nat_tests}

-- ---- a row

one_ascends : (v : Volume) (m : List ℕ) → AscendsBy ComesFirst (one_there v m)
one_ascends v m = elim (is_there v m) as (λ b. AscendsBy ComesFirst (if b then m ∷ [] else [])) [
  | true ↦ (λ y c. absurd (none_contained y c), tt)
  | false ↦ tt
]

from_one : (v : Volume) (q m : List ℕ) → Contains (one_there v q) m → (q ≡ m) × (is_there v m ≡ true)
from_one v q m c = by_case (is_there v q) refl c
  where
    by_case : (t : Bool) → is_there v q ≡ t → Contains (if t then q ∷ [] else []) m → (q ≡ m) × (is_there v m ≡ true)
    by_case true e c = elim (Contains-split m q [] c) as (λ _. (q ≡ m) × (is_there v m ≡ true)) [
      | inl same ↦ (same, ap (is_there v) (sym same) ∙ e)
      | inr none ↦ absurd (none_contained m none)
    ]
    by_case false e c = absurd (none_contained m c)

to_one : (v : Volume) (m : List ℕ) → is_there v m ≡ true → Contains (one_there v m) m
to_one v m e = subst (λ t. Contains (if t then m ∷ [] else []) m) (sym e) (Contains-head m [])

module _ (v : Volume) (first second : ℕ → ℕ) where
  from_place : (rest : List ℕ) (x : ℕ) (m : List ℕ) → Contains (one_there v (first x ∷ rest) ++ one_there v (second x ∷ rest)) m
      → (k : ℕ) × ((k ≡ first x) ⊎ (k ≡ second x)) × (k ∷ rest ≡ m) × (is_there v m ≡ true)
  from_place rest x m c = elim (Contains-append_cases (one_there v (first x ∷ rest)) (one_there v (second x ∷ rest)) m c) as
      (λ _. (k : ℕ) × ((k ≡ first x) ⊎ (k ≡ second x)) × (k ∷ rest ≡ m) × (is_there v m ≡ true)) [
        | inl a ↦ (let o = from_one v (first x ∷ rest) m a in (first x, inl refl, o.0, o.1))
        | inr b ↦ (let o = from_one v (second x ∷ rest) m b in (second x, inr refl, o.0, o.1))
      ]

  from_row : (rest m : List ℕ) → Contains (row_there v first second rest) m
      → (k : ℕ) × ((x : ℕ) × (x < slice_index v.sizes 0) × ((k ≡ first x) ⊎ (k ≡ second x))) × (k ∷ rest ≡ m) × (is_there v m ≡ true)
  from_row rest m c =
      let from = Contains-flat_map (λ x. one_there v (first x ∷ rest) ++ one_there v (second x ∷ rest)) (numbers (slice_index v.sizes 0)) m c in
      let at = from_place rest from.0 m from.2 in
      (at.0, (from.0, below_contained (slice_index v.sizes 0) from.0 from.1, at.1), at.2, at.3)

  to_row : (rest : List ℕ) (k x : ℕ) → x < slice_index v.sizes 0 → (k ≡ first x) ⊎ (k ≡ second x) → is_there v (k ∷ rest) ≡ true
      → Contains (row_there v first second rest) (k ∷ rest)
  to_row rest k x few (inl e) there =
      Contains-joined (λ y. one_there v (first y ∷ rest) ++ one_there v (second y ∷ rest)) (numbers (slice_index v.sizes 0)) x (k ∷ rest)
      (contained_below (slice_index v.sizes 0) x few)
      (Contains-append_left (one_there v (first x ∷ rest)) (one_there v (second x ∷ rest)) (k ∷ rest)
      (subst (λ j. Contains (one_there v (j ∷ rest)) (k ∷ rest)) e (to_one v (k ∷ rest) there)))
  to_row rest k x few (inr e) there =
      Contains-joined (λ y. one_there v (first y ∷ rest) ++ one_there v (second y ∷ rest)) (numbers (slice_index v.sizes 0)) x (k ∷ rest)
      (contained_below (slice_index v.sizes 0) x few)
      (Contains-append_right (one_there v (first x ∷ rest)) (one_there v (second x ∷ rest)) (k ∷ rest)
      (subst (λ j. Contains (one_there v (j ∷ rest)) (k ∷ rest)) e (to_one v (k ∷ rest) there)))

  module _ (within : (x : ℕ) → first x < second x) (further : (x y : ℕ) → x < y → second x < first y) where
    place_ascends : (rest : List ℕ) (x : ℕ) → AscendsBy ComesFirst (one_there v (first x ∷ rest) ++ one_there v (second x ∷ rest))
    place_ascends rest x =
        append_ascends ComesFirst (one_there v (first x ∷ rest)) (one_there v (second x ∷ rest))
        (one_ascends v (first x ∷ rest)) (one_ascends v (second x ∷ rest))
        (λ p q a b.
        let one = from_one v (first x ∷ rest) p a in
        let other = from_one v (second x ∷ rest) q b in
        subst (λ y. comes_first y q ≡ true) one.0 (subst (λ z. comes_first (first x ∷ rest) z ≡ true) other.0
        (first_by_head (first x) (second x) rest (within x))))

    between : (x y j k : ℕ) → x < y → (j ≡ first x) ⊎ (j ≡ second x) → (k ≡ first y) ⊎ (k ≡ second y) → j < k
    between x y j k less (inl a) (inl b) = omega (arith, within x, further x y less, a, b)
    between x y j k less (inl a) (inr b) = omega (arith, within x, further x y less, within y, a, b)
    between x y j k less (inr a) (inl b) = omega (arith, further x y less, a, b)
    between x y j k less (inr a) (inr b) = omega (arith, further x y less, within y, a, b)

    row_ascends : (rest : List ℕ) → AscendsBy ComesFirst (row_there v first second rest)
    row_ascends rest =
        flat_map_ascends Less ComesFirst (λ x. one_there v (first x ∷ rest) ++ one_there v (second x ∷ rest)) (numbers (slice_index v.sizes 0))
        (by_less (numbers (slice_index v.sizes 0)) (Ascends-range 0 (slice_index v.sizes 0)))
        (place_ascends rest)
        (λ x y p q i j less a b.
        let one = from_place rest x p a in
        let other = from_place rest y q b in
        subst (λ w. comes_first w q ≡ true) one.2
        (subst (λ z. comes_first (one.0 ∷ rest) z ≡ true) other.2 (first_by_head one.0 other.0 rest (between x y one.0 other.0 less one.1 other.1))))

    -- rows in order
    rows_ascend : (rests : ℕ → List ℕ) (count : ℕ) → ((a b : ℕ) → a < b → b < count → comes_first (rests a) (rests b) ≡ true)
        → AscendsBy ComesFirst (flat_map (λ number. row_there v first second (rests number)) (numbers count))
    rows_ascend rests count order =
        flat_map_ascends Less ComesFirst (λ number. row_there v first second (rests number)) (numbers count)
        (by_less (numbers count) (Ascends-range 0 count)) (λ number. row_ascends (rests number))
        (λ x y p q i j less a b.
        let one = from_row (rests x) p a in
        let other = from_row (rests y) q b in
        subst (λ w. comes_first w q ≡ true) one.2
        (subst (λ z. comes_first (one.0 ∷ rests x) z ≡ true) other.2
        (first_by_rest one.0 other.0 (rests x) (rests y) (order x y less (below_contained count y j)))))

-- ---- the midpoints at a height

-- what is there at a height
pub at_height : (v : Volume) (height : ℕ) (m : List ℕ) → Contains (middles_between v height (height + 1)) m
    → (length m ≡ length v.sizes) × (is_there v m ≡ true) × (middle_height v m ≡ height)
at_height v height m c =
    let test : List ℕ → Bool = λ n. nat_le height (middle_height v n) && nat_lt (middle_height v n) (height + 1) in
    let there = there_is v m (In_from (middles_there v) m (Contains-filter test (middles_there v) m c)) in
    let passes = Contains-passes test (middles_there v) m c in
    let low = leb-true height (middle_height v m) (and_left (nat_le height (middle_height v m)) (nat_lt (middle_height v m) (height + 1)) passes) in
    let high = lt_of (middle_height v m) (height + 1)
    (and_right (nat_le height (middle_height v m)) (nat_lt (middle_height v m) (height + 1)) passes) in
    (there.0, there.1, omega (arith, low, high))

to_height : (v : Volume) (height : ℕ) (m : List ℕ) → length m ≡ length v.sizes → is_there v m ≡ true → middle_height v m ≡ height
    → Contains (middles_between v height (height + 1)) m
to_height v height m long there at =
    let low : nat_le height (middle_height v m) ≡ true = le-leb height (middle_height v m) (omega (arith, at)) in
    let high : nat_lt (middle_height v m) (height + 1) ≡ true = of_lt (middle_height v m) (height + 1) (omega (arith, at)) in
    Contains-filtered (λ n. nat_le height (middle_height v n) && nat_lt (middle_height v n) (height + 1)) (middles_there v) m
    (λ i. low i && high i) (Contains_from (middles_there v) m (member_there v m long there))

pub between_ascends : (v : Volume) (low high : ℕ) → AscendsBy ComesFirst (middles_between v low high)
between_ascends v low high =
    passing_ascend (λ m. nat_le low (middle_height v m) && nat_lt (middle_height v m) high) (middles_there v) (there_ascend v)

-- rows, by which all that is there at a height is there, are the list of it
module _ (v : Volume) (first second : ℕ → ℕ) (within : (x : ℕ) → first x < second x) (further : (x y : ℕ) → x < y → second x < first y) where
  pub by_rows : (height : ℕ) (rests : ℕ → List ℕ) (count : ℕ) → ((a b : ℕ) → a < b → b < count → comes_first (rests a) (rests b) ≡ true)
      → ((number k : ℕ) → number < count → (length (k ∷ rests number) ≡ length v.sizes) × (middle_height v (k ∷ rests number) ≡ height))
      → ((m : List ℕ) → length m ≡ length v.sizes → is_there v m ≡ true → middle_height v m ≡ height
      → (number : ℕ) × (number < count) × ((k : ℕ) × ((x : ℕ) × (x < slice_index v.sizes 0) × ((k ≡ first x) ⊎ (k ≡ second x))) × (k ∷ rests number ≡ m)))
      → middles_between v height (height + 1) ≡ flat_map (λ number. row_there v first second (rests number)) (numbers count)
  by_rows height rests count order shape found =
      ascends_same ComesFirst (keys_strict (λ p. p)) (middles_between v height (height + 1))
      (flat_map (λ number. row_there v first second (rests number)) (numbers count))
      (between_ascends v height (height + 1)) (rows_ascend v first second within further rests count order)
      (λ m. (
        λ c.
            let is = at_height v height m c in
            let at = found m is.0 is.1 is.2 in
            let k = at.2.0 in
            Contains-joined (λ number. row_there v first second (rests number)) (numbers count) at.0 m (contained_below count at.0 at.1)
            (subst (Contains (row_there v first second (rests at.0))) at.2.2
            (to_row v first second (rests at.0) k at.2.1.0 at.2.1.1 at.2.1.2 (ap (is_there v) at.2.2 ∙ is.1))),
        λ c.
            let from = Contains-flat_map (λ number. row_there v first second (rests number)) (numbers count) m c in
            let few : from.0 < count = below_contained count from.0 from.1 in
            let at = from_row v first second (rests from.0) m from.2 in
            let its = shape from.0 at.0 few in
            to_height v height m (ap length (sym at.2) ∙ its.0) at.3 (ap (middle_height v) (sym at.2) ∙ its.1),
      ))

-- a coordinate of half steps joins two samples where the number of steps is odd
pub half_odd : (k : ℕ) → (2 * k % 4 == 2) ≡ (k % 2 == 1)
half_odd k = grind (arith, nat_tests)

-- ---- the rows of a height

pub long_row : (sizes : List ℕ) (height number : ℕ) → length (row_at sizes height number) ≡ length sizes
long_row [] height number = refl
long_row (n ∷ []) height number = refl
long_row (n ∷ m ∷ sizes) height number = ap suc (long_row (m ∷ sizes) height (number / (2 * n - 1)))

row_height : (sizes : List ℕ) (height number k : ℕ) → 1 ≤ length sizes → slice_index (k ∷ row_at sizes height number) (length sizes) ≡ height
row_height [] height number k some = absurd (omega (arith, some))
row_height (n ∷ []) height number k some = refl
row_height (n ∷ m ∷ sizes) height number k some =
    row_height (m ∷ sizes) height (number / (2 * n - 1)) (2 * (number % (2 * n - 1))) (omega arith)

-- of two numbers the one is below the other where its quotient is, or where the quotients are the same and its remainder is
by_parts : (w a b : ℕ) → 0 < w → a < b → (a / w < b / w) ⊎ ((a / w ≡ b / w) × (a % w < b % w))
by_parts w a b some less = elim (cases_lt (a / w) (b / w)) as (λ _. (a / w < b / w) ⊎ ((a / w ≡ b / w) × (a % w < b % w))) [
  | inl below ↦ inl below
  | inr above ↦ elim (cases_lt (b / w) (a / w)) as (λ _. (a / w < b / w) ⊎ ((a / w ≡ b / w) × (a % w < b % w))) [
    | inl more ↦
        let whole : w * (b / w + 1) ≤ w * (a / w) = mul-le-mul_left w (omega (arith, more)) in
        absurd (omega (arith, whole, less, div-add-mod' a w, div-add-mod' b w, mul_comm w (a / w), mul_comm w (b / w), mod-lt b some))
    | inr most ↦
        let same : a / w ≡ b / w = omega (arith, above, most) in
        let both : a / w * w ≡ b / w * w = ap (λ q. q * w) same in
        inr (same, omega (arith, both, less, div-add-mod' a w, div-add-mod' b w))
  ]
]

rows_in_order : (sizes : List ℕ) (height a b : ℕ) → a < b → b < rows_at sizes → comes_first (row_at sizes height a) (row_at sizes height b) ≡ true
rows_in_order [] height a b less few = absurd (omega (arith, less, few))
rows_in_order (n ∷ []) height a b less few = absurd (omega (arith, less, few))
rows_in_order (n ∷ m ∷ sizes) height a b less few =
    let w : ℕ = 2 * n - 1 in
    let split = along_axis w (rows_at (m ∷ sizes)) b few in
    elim (by_parts w a b (omega (arith, split.0)) less) as
    (λ _. comes_first (row_at (n ∷ m ∷ sizes) height a) (row_at (n ∷ m ∷ sizes) height b) ≡ true) [
      | inl below ↦
          first_by_rest (2 * (a % w)) (2 * (b % w)) (row_at (m ∷ sizes) height (a / w)) (row_at (m ∷ sizes) height (b / w))
          (rows_in_order (m ∷ sizes) height (a / w) (b / w) below split.1)
      | inr same ↦
          subst (λ q. comes_first (row_at (n ∷ m ∷ sizes) height a) (2 * (b % w) ∷ row_at (m ∷ sizes) height q) ≡ true) same.0
          (first_by_head (2 * (a % w)) (2 * (b % w)) (row_at (m ∷ sizes) height (a / w)) (omega (arith, same.1)))
    ]

-- a point of the axes after the first with even coordinates is one of the rows of its height
row_of_point : (sizes r : List ℕ) → 1 ≤ length sizes → In r (quarter_points sizes) → length r ≡ length sizes → HaveParity 0 r → (k : ℕ)
    → (number : ℕ) × (number < rows_at sizes) × (row_at sizes (slice_index (k ∷ r) (length sizes)) number ≡ r)
row_of_point [] r some there long even k = absurd (omega (arith, some))
row_of_point (n ∷ sizes) [] some there long even k = absurd (omega (arith, long))
row_of_point (n ∷ []) (h ∷ []) some there long even k = (0, omega arith, refl)
row_of_point (n ∷ []) (h ∷ g ∷ r) some there long even k = absurd (omega (arith, long))
row_of_point (n ∷ m ∷ sizes) (h ∷ r) some there long even k =
    let parts = point_parts n (m ∷ sizes) h r there in
    let more = row_of_point (m ∷ sizes) r (omega arith) parts.1 (omega (arith, long)) (rest_parity 0 h r even) h in
    let w : ℕ = 2 * n - 1 in
    let half : h % 2 ≡ 0 = first_parity 0 h r even in
    let low : h / 2 < w = omega (arith, parts.0, half) in
    let number : ℕ = h / 2 + w * more.0 in
    let left : (h / 2 + w * more.0) % w ≡ h / 2 = add-mul-mod_self_left (h / 2) w more.0 ∙ mod-eq_of_lt low in
    let turned : h / 2 + w * more.0 ≡ more.0 * w + h / 2 = omega (arith, mul_comm w more.0) in
    let whole : (h / 2 + w * more.0) / w ≡ more.0 = ap (λ q. q / w) turned ∙ div-mul-add more.0 w (h / 2) low in
    let twice : 2 * (h / 2) ≡ h = omega (arith, half) in
    let height : ℕ = slice_index (h ∷ r) (length (m ∷ sizes)) in (
      h / 2 + w * more.0,
      next_below (h / 2) w more.0 (rows_at (m ∷ sizes)) low more.1,
      (λ i. 2 * left i ∷ row_at (m ∷ sizes) height (whole i)) ∙ (λ i. twice i ∷ more.2 i),
    )

-- ---- at an even height

first_step : (k n : ℕ) → k % 2 ≡ 0 → k < 4 * n - 3 → (x : ℕ) × (x < n) × ((k ≡ 4 * x) ⊎ (k ≡ 4 * x + 2))
first_step k n even few = elim (cases_lt (k % 4) 2) as (λ _. (x : ℕ) × (x < n) × ((k ≡ 4 * x) ⊎ (k ≡ 4 * x + 2))) [
  | inl low ↦ (k / 4, omega (arith, few), inl (omega (arith, even, low)))
  | inr high ↦ (k / 4, omega (arith, few), inr (omega (arith, even, high)))
]

-- where the coordinates of a point all have one parity, it is that of each
pub parity_at : (b : ℕ) (m : List ℕ) (last : ℕ) → HaveParity b m → last < length m → slice_index m last % 2 ≡ b
parity_at b [] last one inside = absurd (omega (arith, inside))
parity_at b (c ∷ m) zero one inside = first_parity b c m one
parity_at b (c ∷ m) (suc last) one inside = parity_at b m last (rest_parity b c m one) (omega (arith, inside))

pub parity_there : (b height : ℕ) (m : List ℕ) (last : ℕ) → HaveParity b m → last < length m → slice_index m last ≡ height → HaveParity (height % 2) m
parity_there b height m last one inside at = subst (λ c. HaveParity c m) (sym (parity_at b m last one inside) ∙ ap (λ n. n % 2) at) one

module _ (v : Volume) (n : ℕ) (sizes : List ℕ) (is : v.sizes ≡ n ∷ sizes) (some : 1 ≤ length sizes) where
  last_is_end : length v.sizes - 1 ≡ length sizes
  last_is_end = ap (λ s. length s - 1) is ∙ (let e : suc (length sizes) - 1 ≡ length sizes = omega arith in e)

  found_in_row : (height : ℕ) → height % 2 ≡ 0 → (m : List ℕ) → length m ≡ length v.sizes → is_there v m ≡ true → middle_height v m ≡ height
      → (number : ℕ) × (number < rows_at sizes)
      × ((k : ℕ) × ((x : ℕ) × (x < slice_index v.sizes 0) × ((k ≡ 4 * x) ⊎ (k ≡ 4 * x + 2))) × (k ∷ row_at sizes height number ≡ m))
  found_in_row height even [] long there at = absurd (let more : length v.sizes ≡ suc (length sizes) = ap length is in omega (arith, long, more))
  found_in_row height even (k ∷ r) long there at =
      let s = stands v (k ∷ r) there in
      let wide : length v.sizes ≡ suc (length sizes) = ap length is in
      let parity = has_parity (k ∷ r) (middle_parity v.kind (k ∷ r) s.middle) in
      let all : HaveParity 0 (k ∷ r) =
      subst (λ b. HaveParity b (k ∷ r)) even (parity_there parity.0 height (k ∷ r) (length v.sizes - 1) parity.1 (omega (arith, long, wide)) at) in
      let point : In (k ∷ r) (quarter_points (n ∷ sizes)) =
      subst (λ q. In (k ∷ r) (quarter_points q)) is (in_points v.sizes s.cube (k ∷ r) s.inside long s.held) in
      let parts = point_parts n sizes k r point in
      let row = row_of_point sizes r some parts.1 (omega (arith, long, wide)) (rest_parity 0 k r all) k in
      let same : slice_index (k ∷ r) (length sizes) ≡ height = ap (slice_index (k ∷ r)) (sym last_is_end) ∙ at in
      let x = first_step k n (first_parity 0 k r all) parts.0 in
      let size : slice_index v.sizes 0 ≡ n = ap (λ q. slice_index q 0) is in
      let kept : k ∷ row_at sizes height row.0 ≡ k ∷ r =
      ap (λ h. k ∷ row_at sizes h row.0) (sym same) ∙ ap (λ q. k ∷ q) row.2 in
      (row.0, row.1, (k, (x.0, omega (arith, x.1, size), x.2), kept))

pub row_by_row : (v : Volume) (height : ℕ) → HasDimension v.kind (length v.sizes) → GoRowByRow v height
row_by_row v height fits even = by_sizes v.sizes refl
  where
    by_sizes : (s : List ℕ) → v.sizes ≡ s → middles_between v height (height + 1)
        ≡ flat_map (λ number. sample_row v (row_at (drop 1 v.sizes) height number)) (numbers (rows_at (drop 1 v.sizes)))
    by_sizes [] is = absurd (omega (arith, dimension_cases v.kind (length v.sizes) fits, ap length is))
    by_sizes (n ∷ sizes) is =
        let some : 1 ≤ length sizes = some_rest v sizes fits (sym (ap length is)) in
        subst (λ s. middles_between v height (height + 1) ≡ flat_map (λ number. sample_row v (row_at (drop 1 s) height number)) (numbers (rows_at (drop 1 s))))
        (sym is)
        (by_rows v (λ x. 4 * x) (λ x. 4 * x + 2) (λ x. omega arith) (λ x y h. omega (arith, h)) height (row_at sizes height) (rows_at sizes)
        (rows_in_order sizes height)
        (λ number k few. (
          ap suc (long_row sizes height number) ∙ sym (ap length is),
          ap (slice_index (k ∷ row_at sizes height number)) (last_is_end v n sizes is some) ∙ row_height sizes height number k some,
        ))
        (found_in_row v n sizes is some height even))

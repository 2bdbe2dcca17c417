-- The midpoints that are there from height to height, and those of edges to centres.
use Rattle.std.proofs.Common.{ap, arith, inl, inr, refl, sym, subst, ◌∙◌}
use Rattle.std.proofs.lemmas.Bool.{cases_lt, le-leb, leb-true}
use Rattle.std.proofs.lemmas.List.Elements.{Contains-append_cases, Contains-append_left, Contains-append_right}
use Rattle.std.specs.Prelude.{Contains, List, [], ◌∷◌, ◌++◌, true, flat_map, length, nat_le, nat_lt, slice_index, suc, zero, ℕ}
use Rattle.std.specs.Prelude.{◌*◌, ◌+◌, ◌-◌, ◌/◌, ◌%◌, ◌<◌, ◌≤◌, ◌&&◌, ◌==◌, ◌≡◌, ◌≢◌, ◌⊎◌}
use Rattle.iso_model.specs.declared.Kind.{Kind}
use Rattle.iso_model.specs.declared.Kind.TheVariants.{Cube, Simplex, Pyramid}
use Rattle.iso_model.specs.Cells.{HasDimension}
use Rattle.iso_model.specs.Points.{comes_first}
use Rattle.iso_model.specs.Values.{Volume}
use Rattle.iso_model.proofs.DimensionLaws.{dimension_cases}
use Rattle.iso_model.proofs.OrderLaws.{keys_strict}
use Rattle.lists.specs.Members.{In}
use Rattle.lists.specs.Orders.{numbers}
use Rattle.lists.proofs.Contained.{Contains-filter, Contains-filtered, Contains-head, Contains-passes}
use Rattle.lists.proofs.MemberLaws.{In_from}
use Rattle.lists.proofs.Orderings.{ascends_same}
use Rattle.lists.proofs.Tests.{and_left, and_right, lt_of, of_lt}
use Rattle.edge_middles.specs.Middles.{axes_along, is_middle, joins_samples}
use Rattle.edge_middles.specs.GridMiddles.{is_there, middles_there, quarter_points}
use Rattle.edge_middles.specs.MeshMiddles.{middle_height, middles_between}
use Rattle.edge_middles.specs.RowLists.{GoByCentres, HasAllBetween, HasNoneAtOdd, JoinsHeights, centre_row}
use Rattle.edge_middles.proofs.ListedEdges.{there_ascend, there_is}
use Rattle.edge_middles.proofs.NextRows.{HaveParity, first_parity, has_parity, middle_parity, point_parts, rest_parity}
use Rattle.edge_middles.proofs.OrderedPoints.{ComesFirst, append_ascends, first_by_head, first_by_rest}
use Rattle.edge_middles.proofs.PointsThere.{in_points, stands}
use Rattle.edge_middles.proofs.RowLists.{at_height, between_ascends, by_rows, parity_at, parity_there}

-- ---- from height to height

from_between : (v : Volume) (low high : ℕ) (m : List ℕ) → Contains (middles_between v low high) m
    → Contains (middles_there v) m × (low ≤ middle_height v m) × (middle_height v m < high)
from_between v low high m c =
    let passes = Contains-passes (λ n. nat_le low (middle_height v n) && nat_lt (middle_height v n) high) (middles_there v) m c in (
      Contains-filter (λ n. nat_le low (middle_height v n) && nat_lt (middle_height v n) high) (middles_there v) m c,
      leb-true low (middle_height v m) (and_left (nat_le low (middle_height v m)) (nat_lt (middle_height v m) high) passes),
      lt_of (middle_height v m) high (and_right (nat_le low (middle_height v m)) (nat_lt (middle_height v m) high) passes),
    )

to_between : (v : Volume) (low high : ℕ) (m : List ℕ) → Contains (middles_there v) m → low ≤ middle_height v m → middle_height v m < high
    → Contains (middles_between v low high) m
to_between v low high m there above below =
    let first : nat_le low (middle_height v m) ≡ true = le-leb low (middle_height v m) above in
    let second : nat_lt (middle_height v m) high ≡ true = of_lt (middle_height v m) high below in
    Contains-filtered (λ n. nat_le low (middle_height v n) && nat_lt (middle_height v n) high) (middles_there v) m (λ i. first i && second i) there

pub by_last : (last : ℕ) (p q : List ℕ) → length p ≡ suc last → length q ≡ suc last → slice_index p last < slice_index q last → comes_first p q ≡ true
by_last last [] q long wide less = absurd (omega (arith, long))
by_last last (x ∷ p) [] long wide less = absurd (omega (arith, wide))
by_last zero (x ∷ []) (y ∷ []) long wide less = first_by_head x y [] less
by_last zero (x ∷ []) (y ∷ z ∷ q) long wide less = absurd (omega (arith, wide))
by_last zero (x ∷ z ∷ p) (y ∷ q) long wide less = absurd (omega (arith, long))
by_last (suc last) (x ∷ p) (y ∷ q) long wide less = first_by_rest x y p q (by_last last p q (omega (arith, long)) (omega (arith, wide)) less)

some_axis : (v : Volume) → HasDimension v.kind (length v.sizes) → length v.sizes ≡ suc (length v.sizes - 1)
some_axis v fits = omega (arith, dimension_cases v.kind (length v.sizes) fits)

pub joins_heights : (v : Volume) → HasDimension v.kind (length v.sizes) → JoinsHeights v
joins_heights v fits low middle high below above =
    let first : List (List ℕ) = middles_between v low middle in
    let second : List (List ℕ) = middles_between v middle high in
    let some : length v.sizes ≡ suc (length v.sizes - 1) = some_axis v fits in
    ascends_same ComesFirst (keys_strict (λ p. p)) (middles_between v low high) (middles_between v low middle ++ middles_between v middle high)
    (between_ascends v low high)
    (append_ascends ComesFirst (middles_between v low middle) (middles_between v middle high) (between_ascends v low middle)
    (between_ascends v middle high)
    (λ p q c d.
    let one = from_between v low middle p c in
    let other = from_between v middle high q d in
    let long = (there_is v p (In_from (middles_there v) p one.0)).0 in
    let wide = (there_is v q (In_from (middles_there v) q other.0)).0 in
    by_last (length v.sizes - 1) p q (long ∙ some) (wide ∙ some) (omega (arith, one.2, other.1))))
    (λ m. (
      λ c.
          let at = from_between v low high m c in
          elim (cases_lt (middle_height v m) middle) as (λ _. Contains (middles_between v low middle ++ middles_between v middle high) m) [
            | inl under ↦
                Contains-append_left (middles_between v low middle) (middles_between v middle high) m (to_between v low middle m at.0 at.1 under)
            | inr over ↦
                Contains-append_right (middles_between v low middle) (middles_between v middle high) m (to_between v middle high m at.0 over at.2)
          ],
      λ c. elim (Contains-append_cases (middles_between v low middle) (middles_between v middle high) m c) as
          (λ _. Contains (middles_between v low high) m) [
            | inl a ↦ (let at = from_between v low middle m a in to_between v low high m at.0 at.1 (omega (arith, at.2, above)))
            | inr b ↦ (let at = from_between v middle high m b in to_between v low high m at.0 (omega (arith, at.1, below)) at.2)
          ],
    ))

-- along each axis a point of a grid lies below its end
points_below : (sizes m : List ℕ) → In m (quarter_points sizes) → length m ≡ length sizes → (i : ℕ) → i < length sizes
    → slice_index m i < 4 * slice_index sizes i - 3
points_below [] m there long i inside = absurd (omega (arith, inside))
points_below (n ∷ sizes) [] there long i inside = absurd (omega (arith, long))
points_below (n ∷ sizes) (k ∷ r) there long zero inside = (point_parts n sizes k r there).0
points_below (n ∷ sizes) (k ∷ r) there long (suc i) inside =
    points_below sizes r (point_parts n sizes k r there).1 (omega (arith, long)) i (omega (arith, inside))

pub all_between : (v : Volume) → HasDimension v.kind (length v.sizes) → HasAllBetween v
all_between v fits high past =
    let last : ℕ = length v.sizes - 1 in
    let some : length v.sizes ≡ suc (length v.sizes - 1) = some_axis v fits in
    ascends_same ComesFirst (keys_strict (λ p. p)) (middles_between v 0 high) (middles_there v) (between_ascends v 0 high) (there_ascend v)
    (λ m. (
      λ c. (from_between v 0 high m c).0,
      λ c.
          let is = there_is v m (In_from (middles_there v) m c) in
          let s = stands v m is.1 in
          let below = points_below v.sizes m (in_points v.sizes s.cube m s.inside is.0 s.held) is.0 (length v.sizes - 1) (omega (arith, some)) in
          to_between v 0 high m c (omega arith) (omega (arith, below, past)),
    ))

-- ---- odd heights

no_members : (ms : List (List ℕ)) → ((m : List ℕ) → Contains ms m → ⊥) → ms ≡ []
no_members [] none = refl
no_members (m ∷ ms) none = absurd (none m (Contains-head m ms))

pub at_samples : (kind : Kind) (m : List ℕ) → kind ≢ Pyramid → is_middle kind m ≡ true → HaveParity 0 m
at_samples Cube m other e = and_left (joins_samples m) (axes_along m == 1) e
at_samples Simplex m other e = and_left (joins_samples m) (nat_lt 0 (axes_along m)) e
at_samples Pyramid m other e = absurd (other refl)

pub none_at_odd : (v : Volume) (height : ℕ) → HasDimension v.kind (length v.sizes) → HasNoneAtOdd v height
none_at_odd v height fits other odd =
    no_members (middles_between v height (height + 1)) (λ m c.
    let at = at_height v height m c in
    let even = at_samples v.kind m other (stands v m at.1).middle in
    let some = some_axis v fits in
    let last : middle_height v m % 2 ≡ 0 = parity_at 0 m (length v.sizes - 1) even (omega (arith, at.0, some)) in
    let both : middle_height v m % 2 ≡ height % 2 = ap (λ n. n % 2) at.2 in
    omega (arith, last, both, odd))

-- ---- edges to centres

first_step : (k n : ℕ) → k % 2 ≡ 1 → k < 4 * n - 3 → (x : ℕ) × (x < n) × ((k ≡ 4 * x + 1) ⊎ (k ≡ 4 * x + 3))
first_step k n odd few = elim (cases_lt (k % 4) 2) as (λ _. (x : ℕ) × (x < n) × ((k ≡ 4 * x + 1) ⊎ (k ≡ 4 * x + 3))) [
  | inl low ↦ (k / 4, omega (arith, few), inl (omega (arith, odd, low)))
  | inr high ↦ (k / 4, omega (arith, few), inr (omega (arith, odd, high)))
]

module _ (v : Volume) (n m p : ℕ) (is : v.sizes ≡ n ∷ m ∷ p ∷ []) where
  three : length v.sizes ≡ 3
  three = ap length is

  found_centre : (height : ℕ) → height % 2 ≡ 1 → (q : List ℕ) → length q ≡ length v.sizes → is_there v q ≡ true → middle_height v q ≡ height
      → (number : ℕ) × (number < 2 * (m - 1))
      × ((k : ℕ) × ((x : ℕ) × (x < slice_index v.sizes 0) × ((k ≡ 4 * x + 1) ⊎ (k ≡ 4 * x + 3))) × (k ∷ (2 * number + 1) ∷ height ∷ [] ≡ q))
  found_centre height odd [] long there at = absurd (omega (arith, long, three))
  found_centre height odd (k ∷ []) long there at = absurd (omega (arith, long, three))
  found_centre height odd (k ∷ j ∷ []) long there at = absurd (omega (arith, long, three))
  found_centre height odd (k ∷ j ∷ h ∷ g ∷ q) long there at = absurd (omega (arith, long, three))
  found_centre height odd (k ∷ j ∷ h ∷ []) long there at =
      let s = stands v (k ∷ j ∷ h ∷ []) there in
      let parity = has_parity (k ∷ j ∷ h ∷ []) (middle_parity v.kind (k ∷ j ∷ h ∷ []) s.middle) in
      let all : HaveParity 1 (k ∷ j ∷ h ∷ []) =
      subst (λ b. HaveParity b (k ∷ j ∷ h ∷ [])) odd
      (parity_there parity.0 height (k ∷ j ∷ h ∷ []) (length v.sizes - 1) parity.1 (omega (arith, three)) at) in
      let end : length v.sizes - 1 ≡ 2 = omega (arith, three) in
      let last : h ≡ height = sym (ap (slice_index (k ∷ j ∷ h ∷ [])) end) ∙ at in
      let point : In (k ∷ j ∷ h ∷ []) (quarter_points (n ∷ m ∷ p ∷ [])) =
      subst (λ t. In (k ∷ j ∷ h ∷ []) (quarter_points t)) is (in_points v.sizes s.cube (k ∷ j ∷ h ∷ []) s.inside long s.held) in
      let parts = point_parts n (m ∷ p ∷ []) k (j ∷ h ∷ []) point in
      let more = point_parts m (p ∷ []) j (h ∷ []) parts.1 in
      let middle : j % 2 ≡ 1 = first_parity 1 j (h ∷ []) (rest_parity 1 k (j ∷ h ∷ []) all) in
      let x = first_step k n (first_parity 1 k (j ∷ h ∷ []) all) parts.0 in
      let size : slice_index v.sizes 0 ≡ n = ap (λ t. slice_index t 0) is in
      let whole : 2 * (j / 2) + 1 ≡ j = omega (arith, middle) in (
        j / 2,
        omega (arith, more.0, middle),
        (k, (x.0, omega (arith, x.1, size), x.2), λ i. k ∷ whole i ∷ sym last i ∷ []),
      )

pub by_centres : (v : Volume) (height : ℕ) → HasDimension v.kind (length v.sizes) → GoByCentres v height
by_centres v height fits is odd = by_sizes v.sizes refl (subst (λ k. HasDimension k (length v.sizes)) is fits)
  where
    by_sizes : (s : List ℕ) → v.sizes ≡ s → length v.sizes ≡ 3 → middles_between v height (height + 1)
        ≡ flat_map (λ number. centre_row v ((2 * number + 1) ∷ height ∷ [])) (numbers (2 * (slice_index v.sizes 1 - 1)))
    by_sizes [] is three = absurd (omega (arith, three, ap length is))
    by_sizes (n ∷ []) is three = absurd (omega (arith, three, ap length is))
    by_sizes (n ∷ m ∷ []) is three = absurd (omega (arith, three, ap length is))
    by_sizes (n ∷ m ∷ p ∷ q ∷ s) is three = absurd (omega (arith, three, ap length is))
    by_sizes (n ∷ m ∷ p ∷ []) is three =
        let end : length v.sizes - 1 ≡ 2 = omega (arith, three) in
        subst (λ c. middles_between v height (height + 1) ≡ flat_map (λ number. centre_row v ((2 * number + 1) ∷ height ∷ [])) (numbers (2 * (c - 1))))
        (sym (ap (λ t. slice_index t 1) is))
        (by_rows v (λ x. 4 * x + 1) (λ x. 4 * x + 3) (λ x. omega arith) (λ x y h. omega (arith, h)) height (λ number. (2 * number + 1) ∷ height ∷ [])
        (2 * (m - 1)) (λ a b less few. first_by_head (2 * a + 1) (2 * b + 1) (height ∷ []) (omega (arith, less)))
        (λ number k few. (sym three, ap (slice_index (k ∷ (2 * number + 1) ∷ height ∷ [])) end))
        (found_centre v n m p is height odd))

-- Between the end of a row of midpoints and the row after it no edge stands.
use Rattle.std.proofs.Common.{ap, arith, inl, inr, refl, sym, subst, ◌∙◌}
use Rattle.std.proofs.Math.Bool.{and-false}
use Rattle.std.proofs.lemmas.Bool.{or_cases}
use Rattle.std.proofs.lemmas.Bool.Decides.{nat_tests}
use Rattle.std.specs.List.{list_all}
use Rattle.std.specs.Prelude.{Bool, List, [], ◌∷◌, drop, false, true, length, map, nat_lt, slice_index, suc, ℕ}
use Rattle.std.specs.Prelude.{◌*◌, ◌+◌, ◌-◌, ◌%◌, ◌<◌, ◌≤◌, ◌&&◌, ◌||◌, ◌==◌, ◌≡◌, ◌⊎◌, if◌then◌else◌}
use Rattle.iso_model.specs.declared.Kind.{Kind}
use Rattle.iso_model.specs.declared.Kind.TheVariants.{Cube, Simplex, Pyramid}
use Rattle.iso_model.specs.Cells.{HasDimension}
use Rattle.iso_model.specs.Points.{comes_first}
use Rattle.iso_model.specs.Values.{Volume}
use Rattle.lists.specs.Members.{In}
use Rattle.lists.specs.Orders.{numbers, same_list}
use Rattle.lists.proofs.MemberLaws.{from_In-flat_map, from_In-map, from_In-numbers, lists_equal}
use Rattle.lists.proofs.Tests.{and_left, and_right, and_true, equal_of, of_lt}
use Rattle.edge_middles.specs.Middles.{axes_along, is_middle, joins_centre, joins_samples}
use Rattle.edge_middles.specs.GridMiddles.{quarter_points}
use Rattle.edge_middles.specs.RowCounts.{CountsRows, next_row}
use Rattle.edge_middles.proofs.PointsThere.{in_points, stands}
use Rattle.edge_middles.proofs.RowCounts.{before_or_at, counts_between, some_rest}

-- all coordinates have this remainder by 2
abbrev pub HaveParity : ℕ → List ℕ → Type 0
HaveParity b p = list_all (λ c. c % 2 == b) p ≡ true

pub first_parity : (b c : ℕ) (p : List ℕ) → HaveParity b (c ∷ p) → c % 2 ≡ b
first_parity b c p h = equal_of (c % 2) b (and_left (c % 2 == b) (list_all (λ k. k % 2 == b) p) h)

pub rest_parity : (b c : ℕ) (p : List ℕ) → HaveParity b (c ∷ p) → HaveParity b p
rest_parity b c p h = and_right (c % 2 == b) (list_all (λ k. k % 2 == b) p) h

-- two points whose coordinates each have one parity, and that are the same but for the first, have the same parity there
same_parity : (a b k c j d : ℕ) (p q : List ℕ) → HaveParity a (k ∷ j ∷ p) → HaveParity b (c ∷ d ∷ q) → j ∷ p ≡ d ∷ q → k % 2 ≡ c % 2
same_parity a b k c j d p q h g e =
    let same : j ≡ d = ap (λ l. slice_index l 0) e in
    let first : j % 2 ≡ a = first_parity a j p (rest_parity a k (j ∷ p) h) in
    let second : d % 2 ≡ b = first_parity b d q (rest_parity b c (d ∷ q) g) in
    let even : j % 2 ≡ d % 2 = ap (λ n. n % 2) same in
    first_parity a k (j ∷ p) h ∙ sym first ∙ even ∙ second ∙ sym (first_parity b c (d ∷ q) g)

two_further : (k c : ℕ) → k % 2 ≡ c % 2 → nat_lt k (c + 2) ≡ (nat_lt k c || (k == c))
two_further k c e =
    let apart : k ≡ c + 1 → ⊥ = λ s. (let one : (c + 1) % 2 ≡ c % 2 = ap (λ n. n % 2) (sym s) ∙ e in omega (arith, one)) in
    grind (arith, nat_tests, apart)

all_before : (n k c : ℕ) → k < 4 * n - 3 → nat_lt (c + 2) (4 * n - 3) ≡ false → k % 2 ≡ c % 2 → (nat_lt k c || (k == c)) ≡ true
all_before n k c few past e = sym (two_further k c e) ∙ of_lt k (c + 2) within
  where
    within : k < c + 2
    within = grind (arith, nat_tests, few, past)

-- at or before: where the first coordinates are so wherever the others are the same
at_or_before : (f s b e : Bool) → (s ≡ true → (b || e) ≡ true) → (f || s) ≡ ((f || (s && b)) || (e && s))
at_or_before true s b e h = refl
at_or_before false true true e h = refl
at_or_before false true false true h = refl
at_or_before false true false false h = sym (h refl)
at_or_before false false b e h = sym (and-false e)

none_below : (f s : Bool) (k : ℕ) → (f || (s && nat_lt k 0)) ≡ f
none_below f s k = by_case f s
  where
    zero_less : nat_lt k 0 ≡ false
    zero_less = grind (arith, nat_tests)

    by_case : (f s : Bool) → (f || (s && nat_lt k 0)) ≡ f
    by_case true s = refl
    by_case false true = zero_less
    by_case false false = refl

-- a point of a grid, along the first axis and the others
pub point_parts : (n : ℕ) (sizes : List ℕ) (k : ℕ) (r : List ℕ) → In (k ∷ r) (quarter_points (n ∷ sizes)) → (k < 4 * n - 3) × In r (quarter_points sizes)
point_parts n sizes k r there =
    let from = from_In-flat_map (λ o. map (λ i. i ∷ o) (numbers (4 * n - 3))) (quarter_points sizes) (k ∷ r) there in
    let at = from_In-map (λ i. i ∷ from.0) (numbers (4 * n - 3)) (k ∷ r) from.2 in (
      subst (λ i. i < 4 * n - 3) (sym (ap (λ l. slice_index l 0) at.2)) (from_In-numbers (4 * n - 3) at.0 at.1),
      subst (λ o. In o (quarter_points sizes)) (sym (ap (drop 1) at.2)) from.1,
    )

-- one axis more, where another follows
one_axis : (n k c : ℕ) (sizes r rest : List ℕ) → k < 4 * n - 3 → (same_list r rest ≡ true → k % 2 ≡ c % 2)
    → comes_first r (next_row sizes rest) ≡ (comes_first r rest || same_list r rest)
    → comes_first (k ∷ r) (if nat_lt (c + 2) (4 * n - 3) then (c + 2) ∷ rest else 0 ∷ next_row sizes rest)
    ≡ (comes_first (k ∷ r) (c ∷ rest) || same_list (k ∷ r) (c ∷ rest))
one_axis n k c sizes r rest few alike later = by_room (nat_lt (c + 2) (4 * n - 3)) refl
  where
    by_room : (t : Bool) → nat_lt (c + 2) (4 * n - 3) ≡ t → comes_first (k ∷ r) (if t then (c + 2) ∷ rest else 0 ∷ next_row sizes rest)
        ≡ ((comes_first r rest || (same_list r rest && nat_lt k c)) || ((k == c) && same_list r rest))
    by_room true room =
        before_or_at (comes_first r rest) (same_list r rest) (nat_lt k (c + 2)) (nat_lt k c) (k == c) (λ e. two_further k c (alike e))
    by_room false room =
        none_below (comes_first r (next_row sizes rest)) (same_list r (next_row sizes rest)) k ∙ later
        ∙ at_or_before (comes_first r rest) (same_list r rest) (nat_lt k c) (k == c) (λ e. all_before n k c few room (alike e))

-- of the points of a grid whose coordinates all have one parity, those before the row after a row are those at or before the row
before_next : (a b : ℕ) (sizes rest r : List ℕ) → 1 ≤ length sizes → length rest ≡ length sizes → In r (quarter_points sizes) → length r ≡ length sizes
    → HaveParity a r → HaveParity b rest → comes_first r (next_row sizes rest) ≡ (comes_first r rest || same_list r rest)
before_next a b [] rest r some long there wide one other = absurd (omega (arith, some))
before_next a b (n ∷ sizes) [] r some long there wide one other = absurd (omega (arith, long))
before_next a b (n ∷ sizes) (c ∷ rest) [] some long there wide one other = absurd (omega (arith, wide))
before_next a b (n ∷ []) (c ∷ d ∷ rest) (k ∷ r) some long there wide one other = absurd (omega (arith, long))
before_next a b (n ∷ []) (c ∷ []) (k ∷ j ∷ r) some long there wide one other = absurd (omega (arith, wide))
before_next a b (n ∷ []) (c ∷ []) (k ∷ []) some long there wide one other =
    before_or_at false true (nat_lt k (c + 1)) (nat_lt k c) (k == c)
    (λ e. let below : nat_lt k (c + 1) ≡ (nat_lt k c || (k == c)) = grind (arith, nat_tests) in below)
before_next a b (n ∷ m ∷ sizes) (c ∷ []) (k ∷ r) some long there wide one other = absurd (omega (arith, long))
before_next a b (n ∷ m ∷ sizes) (c ∷ d ∷ rest) (k ∷ []) some long there wide one other = absurd (omega (arith, wide))
before_next a b (n ∷ m ∷ sizes) (c ∷ d ∷ rest) (k ∷ j ∷ r) some long there wide one other =
    let parts = point_parts n (m ∷ sizes) k (j ∷ r) there in
    let later = before_next a b (m ∷ sizes) (d ∷ rest) (j ∷ r) (omega arith) (omega (arith, long)) parts.1 (omega (arith, wide))
    (rest_parity a k (j ∷ r) one) (rest_parity b c (d ∷ rest) other) in
    one_axis n k c (m ∷ sizes) (j ∷ r) (d ∷ rest) parts.0
    (λ e. same_parity a b k c j d r rest one other (lists_equal (j ∷ r) (d ∷ rest) e)) later

-- the coordinates of a midpoint all have one parity
pub middle_parity : (kind : Kind) (m : List ℕ) → is_middle kind m ≡ true → (joins_samples m ≡ true) ⊎ (joins_centre m ≡ true)
middle_parity Cube m e = inl (and_left (joins_samples m) (axes_along m == 1) e)
middle_parity Simplex m e = inl (and_left (joins_samples m) (nat_lt 0 (axes_along m)) e)
middle_parity Pyramid m e = elim (or_cases (joins_samples m && axes_along m == 1) (joins_centre m) e) as
    (λ _. (joins_samples m ≡ true) ⊎ (joins_centre m ≡ true)) [
      | inl t ↦ inl (and_left (joins_samples m) (axes_along m == 1) t)
      | inr t ↦ inr t
    ]

pub has_parity : (m : List ℕ) → (joins_samples m ≡ true) ⊎ (joins_centre m ≡ true) → (b : ℕ) × HaveParity b m
has_parity m (inl e) = (0, e)
has_parity m (inr e) = (1, e)

module _ (n : ℕ) (sizes rest : List ℕ) (b : ℕ) (other : HaveParity b rest) (long : length rest ≡ length sizes) (some : 1 ≤ length sizes) where
  past_end : (a c : ℕ) (m : List ℕ) → 4 * n ≤ c + 3 → In m (quarter_points (n ∷ sizes)) → length m ≡ suc (length sizes) → HaveParity a m
      → comes_first m (c ∷ rest) ≡ comes_first m (0 ∷ next_row sizes rest)
  past_end a c [] past there wide one = absurd (omega (arith, wide))
  past_end a c (k ∷ r) past there wide one =
      let parts = point_parts n sizes k r there in
      let all : nat_lt k c ≡ true = of_lt k c (omega (arith, parts.0, past)) in
      ap (λ t. comes_first r rest || (same_list r rest && t)) all
      ∙ ap (λ t. comes_first r rest || t) (and_true (same_list r rest))
      ∙ sym (before_next a b sizes rest r some long parts.1 (omega (arith, wide)) (rest_parity a k r one) other)
      ∙ sym (none_below (comes_first r (next_row sizes rest)) (same_list r (next_row sizes rest)) k)

pub counts_rows : (v : Volume) (rest : List ℕ) → HasDimension v.kind (length v.sizes) → CountsRows v rest
counts_rows v rest fits row parity c past =
    counts_between v (c ∷ rest) (0 ∷ next_row (drop 1 v.sizes) rest) (λ m wide there.
    let s = stands v m there in
    let own = has_parity rest parity in
    let its = has_parity m (middle_parity v.kind m s.middle) in
    by_sizes v.sizes row (some_rest v rest fits row) past m (in_points v.sizes s.cube m s.inside wide s.held) wide own.0 own.1 its.0 its.1)
  where
    by_sizes : (sizes : List ℕ) → suc (length rest) ≡ length sizes → 1 ≤ length rest
        → 4 * slice_index sizes 0 ≤ c + 3 → (m : List ℕ) → In m (quarter_points sizes)
        → length m ≡ length sizes → (b : ℕ) → HaveParity b rest → (a : ℕ) → HaveParity a m
        → comes_first m (c ∷ rest) ≡ comes_first m (0 ∷ next_row (drop 1 sizes) rest)
    by_sizes [] row some past m there wide b other a one = absurd (omega (arith, row))
    by_sizes (n ∷ sizes) row some past m there wide b other a one =
        past_end n sizes rest b other (omega (arith, row)) (omega (arith, row, some)) a c m past there wide one

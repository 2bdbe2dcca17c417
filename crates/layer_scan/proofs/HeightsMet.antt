-- From height to height: where no edge stands at a height, as many come before the next one.
use Rattle.std.proofs.Common.{ap, arith, inl, inr, refl, sym, subst, ◌∙◌}
use Rattle.std.proofs.Math.Bool.{and-false}
use Rattle.std.proofs.Math.Nat.{zero-div, zero-mod}
use Rattle.std.proofs.lemmas.Bool.{cases_eq, false≢true}
use Rattle.std.specs.Prelude.{Bool, List, [], ◌∷◌, drop, false, true, length, nat_lt, slice_index, suc, ℕ}
use Rattle.std.specs.Prelude.{◌&&◌, ◌||◌, ◌%◌, ◌*◌, ◌+◌, ◌-◌, ◌/◌, ◌<◌, ◌≤◌, ◌≡◌, ◌≢◌, ◌⊎◌}
use Rattle.lists.specs.Orders.{same_list}
use Rattle.lists.proofs.MemberLaws.{lists_equal}
use Rattle.lists.proofs.Tests.{and_left, and_right, equal_of, lt_of, of_lt, or_false, same_tests, not_below}
use Rattle.iso_model.specs.declared.Kind.TheVariants.{Pyramid}
use Rattle.iso_model.specs.Cells.{HasDimension}
use Rattle.iso_model.specs.Points.{comes_first}
use Rattle.iso_model.specs.Splits.{cube_at}
use Rattle.iso_model.specs.Values.{Volume}
use Rattle.iso_model.proofs.DimensionLaws.{dimension_cases}
use Rattle.edge_middles.specs.GridMiddles.{count_before, is_there}
use Rattle.edge_middles.specs.Middles.{is_middle}
use Rattle.edge_middles.specs.RowLists.{row_at}
use Rattle.edge_middles.specs.WhatIsThere.{has_cube_at, is_kept_at}
use Rattle.edge_middles.proofs.Heights.{at_samples}
use Rattle.edge_middles.proofs.KeptAround.{stands_where_kept}
use Rattle.edge_middles.proofs.NextRows.{HaveParity, first_parity, has_parity, middle_parity, rest_parity}
use Rattle.edge_middles.proofs.PointsThere.{stands, to_kept}
use Rattle.edge_middles.proofs.RowCounts.{counts_between}
use Rattle.edge_middles.proofs.RowLists.{parity_at, parity_there}
use Rattle.layer_scan.specs.GridEdges.{first_at}
use Rattle.iso_model.proofs.CellCounts.{axes_between}

-- ---- the first point at a height

-- a point that is 0 along the first axis does not come after others of its row
before_row : (c d : ℕ) (p q : List ℕ) → comes_first (c ∷ p) (0 ∷ d ∷ q) ≡ comes_first p (d ∷ q)
before_row c d p q =
    ap (λ t. comes_first p (d ∷ q) || (same_list p (d ∷ q) && t)) (not_below c 0 (omega arith))
    ∙ ap (λ t. comes_first p (d ∷ q) || t) (and-false (same_list p (d ∷ q))) ∙ or_false (comes_first p (d ∷ q))

-- what comes before it stands lower
before_height : (sizes m : List ℕ) (height : ℕ) → 2 ≤ length sizes → length sizes ≤ 4 → length m ≡ length sizes
    → comes_first m (0 ∷ row_at (drop 1 sizes) height 0) ≡ nat_lt (slice_index m (length sizes - 1)) height
before_height [] m height few most long = absurd (omega (arith, few))
before_height (a ∷ []) m height few most long = absurd (omega (arith, few))
before_height (a ∷ b ∷ []) [] height few most long = absurd (omega (arith, long))
before_height (a ∷ b ∷ []) (k ∷ []) height few most long = absurd (omega (arith, long))
before_height (a ∷ b ∷ []) (k ∷ l ∷ []) height few most long = before_row k height (l ∷ []) []
before_height (a ∷ b ∷ []) (k ∷ l ∷ m ∷ more) height few most long = absurd (omega (arith, long))
before_height (a ∷ b ∷ c ∷ []) [] height few most long = absurd (omega (arith, long))
before_height (a ∷ b ∷ c ∷ []) (j ∷ []) height few most long = absurd (omega (arith, long))
before_height (a ∷ b ∷ c ∷ []) (j ∷ k ∷ []) height few most long = absurd (omega (arith, long))
before_height (a ∷ b ∷ c ∷ []) (j ∷ k ∷ l ∷ []) height few most long =
    ap (λ z. comes_first (j ∷ k ∷ l ∷ []) (0 ∷ 2 * z ∷ height ∷ [])) (zero-mod (2 * b - 1))
    ∙ before_row j 0 (k ∷ l ∷ []) (height ∷ []) ∙ before_row k height (l ∷ []) []
before_height (a ∷ b ∷ c ∷ []) (j ∷ k ∷ l ∷ m ∷ more) height few most long = absurd (omega (arith, long))
before_height (a ∷ b ∷ c ∷ d ∷ []) [] height few most long = absurd (omega (arith, long))
before_height (a ∷ b ∷ c ∷ d ∷ []) (i ∷ []) height few most long = absurd (omega (arith, long))
before_height (a ∷ b ∷ c ∷ d ∷ []) (i ∷ j ∷ []) height few most long = absurd (omega (arith, long))
before_height (a ∷ b ∷ c ∷ d ∷ []) (i ∷ j ∷ k ∷ []) height few most long = absurd (omega (arith, long))
before_height (a ∷ b ∷ c ∷ d ∷ []) (i ∷ j ∷ k ∷ l ∷ []) height few most long =
    ap (λ z. comes_first (i ∷ j ∷ k ∷ l ∷ []) (0 ∷ 2 * z ∷ 2 * (0 / (2 * b - 1) % (2 * c - 1)) ∷ height ∷ [])) (zero-mod (2 * b - 1))
    ∙ ap (λ z. comes_first (i ∷ j ∷ k ∷ l ∷ []) (0 ∷ 0 ∷ 2 * (z % (2 * c - 1)) ∷ height ∷ [])) (zero-div (2 * b - 1))
    ∙ ap (λ z. comes_first (i ∷ j ∷ k ∷ l ∷ []) (0 ∷ 0 ∷ 2 * z ∷ height ∷ [])) (zero-mod (2 * c - 1))
    ∙ before_row i 0 (j ∷ k ∷ l ∷ []) (0 ∷ height ∷ []) ∙ before_row j 0 (k ∷ l ∷ []) (height ∷ []) ∙ before_row k height (l ∷ []) []
before_height (a ∷ b ∷ c ∷ d ∷ []) (i ∷ j ∷ k ∷ l ∷ m ∷ more) height few most long = absurd (omega (arith, long))
before_height (a ∷ b ∷ c ∷ d ∷ e ∷ more) m height few most long = absurd (omega (arith, most))

-- where a point does not stand at a height, it is below this height or below the next one alike
not_between : (k height : ℕ) → k ≢ height → nat_lt k height ≡ nat_lt k (height + 1)
not_between k height other = same_tests (nat_lt k height) (nat_lt k (height + 1))
    (λ t. let lt = lt_of k height t in of_lt k (height + 1) (omega (arith, lt)))
    (λ t. let lt = lt_of k (height + 1) t in of_lt k height (omega (arith, lt, other)))

none_at_height : (v : Volume) (height : ℕ) → HasDimension v.kind (length v.sizes)
    → ((m : List ℕ) → length m ≡ length v.sizes → is_there v m ≡ true → slice_index m (length v.sizes - 1) ≢ height)
    → count_before v (first_at v height) ≡ count_before v (first_at v (height + 1))
none_at_height v height fits none =
    let within = axes_between (length v.sizes) (dimension_cases v.kind (length v.sizes) fits) in
    counts_between v (first_at v height) (first_at v (height + 1)) (λ m long there.
    before_height v.sizes m height within.0 within.1 long
    ∙ not_between (slice_index m (length v.sizes - 1)) height (none m long there)
    ∙ sym (before_height v.sizes m (height + 1) within.0 within.1 long))

-- but for pyramids there is no edge at an odd height
pub plain_odd : (v : Volume) (height : ℕ) → HasDimension v.kind (length v.sizes) → v.kind ≢ Pyramid → height % 2 ≡ 1
    → count_before v (first_at v height) ≡ count_before v (first_at v (height + 1))
plain_odd v height fits other odd =
    let within = axes_between (length v.sizes) (dimension_cases v.kind (length v.sizes) fits) in
    none_at_height v height fits (λ m long there at.
    let parity = at_samples v.kind m other (stands v m there).middle in
    let even : slice_index m (length v.sizes - 1) % 2 ≡ 0 = parity_at 0 m (length v.sizes - 1) parity (omega (arith, long, within.0)) in
    let turned : height % 2 ≡ 0 = ap (λ n. n % 2) (sym at) ∙ even in
    omega (arith, turned, odd))

-- ---- in three dimensions

-- the coordinates of a midpoint at an odd height are odd
odd_all : (v : Volume) (height : ℕ) (m : List ℕ) → 2 ≤ length v.sizes → length m ≡ length v.sizes → is_there v m ≡ true → height % 2 ≡ 1
    → slice_index m (length v.sizes - 1) ≡ height → HaveParity 1 m
odd_all v height m few long there odd at =
    let parity = has_parity m (middle_parity v.kind m (stands v m there).middle) in
    subst (λ b. HaveParity b m) odd (parity_there parity.0 height m (length v.sizes - 1) parity.1 (omega (arith, long, few)) at)

-- a grid with no cube along an axis has no edge
cube_along : (sizes x : List ℕ) → has_cube_at sizes x ≡ true → 2 ≤ length sizes → 2 ≤ slice_index sizes 1
cube_along [] x there few = absurd (omega (arith, few))
cube_along (a ∷ []) x there few = absurd (omega (arith, few))
cube_along (a ∷ b ∷ sizes) [] there few = absurd (false≢true there)
cube_along (a ∷ b ∷ sizes) (p ∷ []) there few =
    absurd (false≢true (and_right (nat_lt (p + 1) a) false there))
cube_along (a ∷ b ∷ sizes) (p ∷ q ∷ x) there few =
    let rest = and_right (nat_lt (p + 1) a) (nat_lt (q + 1) b && has_cube_at sizes x) there in
    let lt = lt_of (q + 1) b (and_left (nat_lt (q + 1) b) (has_cube_at sizes x) rest) in
    omega (arith, lt)

some_cube : (v : Volume) (m : List ℕ) → 2 ≤ length v.sizes → is_there v m ≡ true → 2 ≤ slice_index v.sizes 1
some_cube v m few there =
    let s = stands v m there in
    let kept = (stands_where_kept v (cube_at v.sizes s.cube)).0 (to_kept v s.cube s.inside s.kept) in
    cube_along v.sizes (cube_at v.sizes s.cube) (and_left (has_cube_at v.sizes (cube_at v.sizes s.cube)) (v.kept (cube_at v.sizes s.cube)) kept) few

pub no_cubes_no_edges : (v : Volume) (height : ℕ) → HasDimension v.kind (length v.sizes) → slice_index v.sizes 1 ≤ 1
    → count_before v (first_at v height) ≡ count_before v (first_at v (height + 1))
no_cubes_no_edges v height fits none =
    let within = axes_between (length v.sizes) (dimension_cases v.kind (length v.sizes) fits) in
    none_at_height v height fits (λ m long there at. let some = some_cube v m within.0 there in omega (arith, some, none))

-- at an odd height the first row of edges is the one at 1
same_after : (s a b : Bool) → (s ≡ true → a ≡ b) → (s && a) ≡ (s && b)
same_after true a b e = e refl
same_after false a b e = refl

pub centres_start : (v : Volume) (height : ℕ) → length v.sizes ≡ 3 → height % 2 ≡ 1
    → count_before v (0 ∷ 0 ∷ height ∷ []) ≡ count_before v (0 ∷ 1 ∷ height ∷ [])
centres_start v height three odd = counts_between v (0 ∷ 0 ∷ height ∷ []) (0 ∷ 1 ∷ height ∷ []) (λ m long there. by_point m (long ∙ three) there)
  where
    by_point : (m : List ℕ) → length m ≡ 3 → is_there v m ≡ true → comes_first m (0 ∷ 0 ∷ height ∷ []) ≡ comes_first m (0 ∷ 1 ∷ height ∷ [])
    by_point [] long there = absurd (omega (arith, long))
    by_point (j ∷ []) long there = absurd (omega (arith, long))
    by_point (j ∷ k ∷ []) long there = absurd (omega (arith, long))
    by_point (j ∷ k ∷ l ∷ []) long there =
        let last : length v.sizes - 1 ≡ 2 = omega (arith, three) in
        before_row j 0 (k ∷ l ∷ []) (height ∷ [])
        ∙ ap (λ t. nat_lt l height || t) (same_after (same_list (l ∷ []) (height ∷ [])) (nat_lt k 0) (nat_lt k 1) (λ same.
        let at : l ≡ height = ap (λ r. slice_index r 0) (lists_equal (l ∷ []) (height ∷ []) same) in
        let parity = odd_all v height (j ∷ k ∷ l ∷ []) (omega (arith, three)) (long ∙ sym three) there odd
        (ap (slice_index (j ∷ k ∷ l ∷ [])) last ∙ at) in
        let second : k % 2 ≡ 1 = first_parity 1 k (l ∷ []) (rest_parity 1 j (k ∷ l ∷ []) parity) in
        not_below k 0 (omega arith) ∙ sym (not_below k 1 (omega (arith, second)))))
        ∙ sym (before_row j 1 (k ∷ l ∷ []) (height ∷ []))
    by_point (j ∷ k ∷ l ∷ m ∷ more) long there = absurd (omega (arith, long))

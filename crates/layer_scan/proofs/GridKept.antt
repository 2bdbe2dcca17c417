-- The kept cubes of a grid around a row of midpoints, place by place.
use Rattle.std.proofs.Common.{ap, arith, inl, inr, refl, sym, ◌∙◌}
use Rattle.std.proofs.lemmas.List.Folds.{list_any-append}
use Rattle.std.proofs.Math.Bool.{and-false}
use Rattle.std.specs.List.{list_any}
use Rattle.std.specs.Prelude.{Bool, List, [], ◌∷◌, ◌++◌, false, flat_map, length, map, nat_lt, take, true}
use Rattle.std.specs.Prelude.{ℕ, ◌&&◌, ◌||◌, ◌*◌, ◌+◌, ◌-◌, ◌/◌, ◌<◌, ◌≤◌, ◌≡◌, ◌≢◌, ◌⊎◌}
use Rattle.lists.proofs.Tests.{or_false, not_below}
use Rattle.iso_model.specs.Dimensions.{IsDimension, in_each_dimension}
use Rattle.iso_model.specs.Values.{Volume}
use Rattle.iso_model.proofs.DimensionLaws.{dimension_cases}
use Rattle.grid_rows.specs.declared.grids.GridRows.{GridRows}
use Rattle.grid_rows.specs.declared.grids.MiddleAxis.{MiddleAxis}
use Rattle.grid_rows.specs.declared.planes.BitPlane.{BitPlane}
use Rattle.grid_rows.specs.RowNumbers.{upper_half}
use Rattle.edge_middles.specs.WhatIsThere.{cubes_around, has_cube_at, is_kept_around, is_kept_at}
use Rattle.layer_scan.specs.GridPlanes.{AreRowsOf, IsKeptUpright, after_first}
use Rattle.layer_scan.proofs.GridCubes.{told_around, turned}
use Rattle.iso_model.proofs.CellCounts.{axes_between}

-- ---- two places along an axis, and all along the others

either_place : (test : List ℕ → Bool) (a b : ℕ) (rests : List (List ℕ))
    → list_any test (flat_map (λ rest. map (λ y. y ∷ rest) (a ∷ b ∷ [])) rests)
    ≡ (list_any (λ rest. test (a ∷ rest)) rests || list_any (λ rest. test (b ∷ rest)) rests)
either_place test a b [] = refl
either_place test a b (rest ∷ rests) =
    list_any-append test (map (λ y. y ∷ rest) (a ∷ b ∷ [])) (flat_map (λ r. map (λ y. y ∷ r) (a ∷ b ∷ [])) rests)
    ∙ ap (λ t. (test (a ∷ rest) || (test (b ∷ rest) || false)) || t) (either_place test a b rests)
    ∙ ap (λ t. (test (a ∷ rest) || t) || (list_any (λ r. test (a ∷ r)) rests || list_any (λ r. test (b ∷ r)) rests)) (or_false (test (b ∷ rest)))
    ∙ turned (test (a ∷ rest)) (test (b ∷ rest)) (list_any (λ r. test (a ∷ r)) rests) (list_any (λ r. test (b ∷ r)) rests)

-- the cubes at x and at these places along the middle axes, at a height
abbrev pub level : Volume → ℕ → ℕ → ℕ → ℕ → ℕ → Bool
level v axes height x p q = list_any (λ rest. is_kept_at v (x ∷ (take (axes - 2) (p ∷ q ∷ []) ++ rest))) (cubes_around (height ∷ []))

-- those around a row that stands at half steps
abbrev pub IsAroundAt : Volume → ℕ → ℕ → ℕ → ℕ → ℕ → Type 0
IsAroundAt v height x i j axes = is_kept_around v (after_first axes (2 * i) (2 * j) height) x
    ≡ ((level v axes height x (upper_half i - 1) (upper_half j - 1) || level v axes height x (upper_half i - 1) (j / 2))
    || (level v axes height x (i / 2) (upper_half j - 1) || level v axes height x (i / 2) (j / 2)))

doubled : (b : Bool) → b ≡ (b || b)
doubled true = refl
doubled false = refl

four_times : (a b : Bool) → (a || b) ≡ ((a || a) || (b || b))
four_times true b = refl
four_times false true = refl
four_times false false = refl

low_place : (i : ℕ) → (2 * i + 3) / 4 - 1 ≡ upper_half i - 1
low_place i = omega arith

high_place : (i : ℕ) → 2 * i / 4 ≡ i / 2
high_place i = omega arith

pub around_at : (v : Volume) (height x i j axes : ℕ) → IsDimension axes → IsAroundAt v height x i j axes
around_at v height x i j axes is = in_each_dimension (IsAroundAt v height x i j) two three four axes is
  where
    two : IsAroundAt v height x i j 2
    two = let t : Bool = level v 2 height x 0 0 in doubled t ∙ four_times t t

    three : IsAroundAt v height x i j 3
    three =
        let test = λ (p : ℕ). level v 3 height x p 0 in
        either_place (λ rest. is_kept_at v (x ∷ rest)) ((2 * i + 3) / 4 - 1) (2 * i / 4) (cubes_around (height ∷ []))
        ∙ ap (λ p. test p || test (2 * i / 4)) (low_place i) ∙ ap (λ p. test (upper_half i - 1) || test p) (high_place i)
        ∙ four_times (test (upper_half i - 1)) (test (i / 2))

    pair : (p : ℕ) → list_any (λ rest. is_kept_at v (x ∷ p ∷ rest)) (cubes_around (2 * j ∷ height ∷ []))
        ≡ (level v 4 height x p (upper_half j - 1) || level v 4 height x p (j / 2))
    pair p =
        either_place (λ rest. is_kept_at v (x ∷ p ∷ rest)) ((2 * j + 3) / 4 - 1) (2 * j / 4) (cubes_around (height ∷ []))
        ∙ ap (λ q. level v 4 height x p q || level v 4 height x p (2 * j / 4)) (low_place j)
        ∙ ap (λ q. level v 4 height x p (upper_half j - 1) || level v 4 height x p q) (high_place j)

    four : IsAroundAt v height x i j 4
    four =
        let test = λ (p : ℕ). list_any (λ rest. is_kept_at v (x ∷ p ∷ rest)) (cubes_around (2 * j ∷ height ∷ [])) in
        either_place (λ rest. is_kept_at v (x ∷ rest)) ((2 * i + 3) / 4 - 1) (2 * i / 4) (cubes_around (2 * j ∷ height ∷ []))
        ∙ ap (λ p. test p || test (2 * i / 4)) (low_place i) ∙ ap (λ p. test (upper_half i - 1) || test p) (high_place i)
        ∙ ap (λ t. t || test (i / 2)) (pair (upper_half i - 1))
        ∙ ap (λ t. (level v 4 height x (upper_half i - 1) (upper_half j - 1) || level v 4 height x (upper_half i - 1) (j / 2)) || t) (pair (i / 2))

-- ---- past the last cube along a middle axis

pub none_past_second : (rows : GridRows) (sizes : List ℕ) (p q s x : ℕ) → 2 ≤ length sizes → length sizes ≤ 4 → AreRowsOf sizes rows
    → rows.second.cubes ≤ p → p < rows.second.samples → has_cube_at sizes (x ∷ after_first (length sizes) p q s) ≡ false
none_past_second rows [] p q s x few most is h k = absurd (omega (arith, few))
none_past_second rows (a ∷ []) p q s x few most is h k = absurd (omega (arith, few))
none_past_second rows (a ∷ b ∷ []) p q s x few most is h k =
    let samples : rows.second.samples ≡ 1 = ap (λ (m : MiddleAxis). m.samples) is.second in
    let cubes : rows.second.cubes ≡ 1 = ap (λ (m : MiddleAxis). m.cubes) is.second in
    absurd (omega (arith, samples, cubes, h, k))
none_past_second rows (a ∷ b ∷ c ∷ []) p q s x few most is h k =
    let samples : rows.second.samples ≡ b = ap (λ (m : MiddleAxis). m.samples) is.second in
    let cubes : rows.second.cubes ≡ b - 1 = ap (λ (m : MiddleAxis). m.cubes) is.second in
    ap (λ t. nat_lt (x + 1) a && (t && has_cube_at (c ∷ []) (s ∷ []))) (not_below (p + 1) b (omega (arith, samples, cubes, h, k)))
    ∙ and-false (nat_lt (x + 1) a)
none_past_second rows (a ∷ b ∷ c ∷ d ∷ []) p q s x few most is h k =
    let samples : rows.second.samples ≡ b = ap (λ (m : MiddleAxis). m.samples) is.second in
    let cubes : rows.second.cubes ≡ b - 1 = ap (λ (m : MiddleAxis). m.cubes) is.second in
    ap (λ t. nat_lt (x + 1) a && (t && has_cube_at (c ∷ d ∷ []) (q ∷ s ∷ []))) (not_below (p + 1) b (omega (arith, samples, cubes, h, k)))
    ∙ and-false (nat_lt (x + 1) a)
none_past_second rows (a ∷ b ∷ c ∷ d ∷ e ∷ more) p q s x few most is h k = absurd (omega (arith, most))

pub none_past_third : (rows : GridRows) (sizes : List ℕ) (p q s x : ℕ) → 2 ≤ length sizes → length sizes ≤ 4 → AreRowsOf sizes rows
    → rows.third.cubes ≤ q → q < rows.third.samples → has_cube_at sizes (x ∷ after_first (length sizes) p q s) ≡ false
none_past_third rows [] p q s x few most is h k = absurd (omega (arith, few))
none_past_third rows (a ∷ []) p q s x few most is h k = absurd (omega (arith, few))
none_past_third rows (a ∷ b ∷ []) p q s x few most is h k =
    let samples : rows.third.samples ≡ 1 = ap (λ (m : MiddleAxis). m.samples) is.third in
    let cubes : rows.third.cubes ≡ 1 = ap (λ (m : MiddleAxis). m.cubes) is.third in
    absurd (omega (arith, samples, cubes, h, k))
none_past_third rows (a ∷ b ∷ c ∷ []) p q s x few most is h k =
    let samples : rows.third.samples ≡ 1 = ap (λ (m : MiddleAxis). m.samples) is.third in
    let cubes : rows.third.cubes ≡ 1 = ap (λ (m : MiddleAxis). m.cubes) is.third in
    absurd (omega (arith, samples, cubes, h, k))
none_past_third rows (a ∷ b ∷ c ∷ d ∷ []) p q s x few most is h k =
    let samples : rows.third.samples ≡ c = ap (λ (m : MiddleAxis). m.samples) is.third in
    let cubes : rows.third.cubes ≡ c - 1 = ap (λ (m : MiddleAxis). m.cubes) is.third in
    ap (λ t. nat_lt (x + 1) a && (nat_lt (p + 1) b && (t && has_cube_at (d ∷ []) (s ∷ [])))) (not_below (q + 1) c (omega (arith, samples, cubes, h, k)))
    ∙ ap (λ t. nat_lt (x + 1) a && t) (and-false (nat_lt (p + 1) b)) ∙ and-false (nat_lt (x + 1) a)
none_past_third rows (a ∷ b ∷ c ∷ d ∷ e ∷ more) p q s x few most is h k = absurd (omega (arith, most))

-- ---- rows of upright edges

upright_level : (v : Volume) (axes s x p q : ℕ) → level v axes (4 * s + 2) x p q ≡ is_kept_at v (x ∷ after_first axes p q s)
upright_level v axes s x p q =
    let low : (4 * s + 2 + 3) / 4 - 1 ≡ s = omega arith in
    let high : (4 * s + 2) / 4 ≡ s = omega arith in
    let test = λ (t : ℕ). is_kept_at v (x ∷ after_first axes p q t) in
    ap (λ t. test t || (test ((4 * s + 2) / 4) || false)) low ∙ ap (λ t. test s || (test t || false)) high ∙ once (test s)
  where
    once : (b : Bool) → (b || (b || false)) ≡ b
    once true = refl
    once false = refl

pub kept_upright : (v : Volume) (rows : GridRows) (s : ℕ) (plane : BitPlane) → IsKeptUpright v rows s plane
kept_upright v rows s plane fits is tells i j x h k =
    let axes : ℕ = length v.sizes in
    let within = axes_between axes (dimension_cases v.kind axes fits) in
    told_around rows plane x (level v axes (4 * s + 2) x) i j (record {
      clear = tells.clear;
      cubes = λ p q low near. tells.cubes p q x low near ∙ sym (upright_level v axes s x p q);
      none_first = λ p q low high. upright_level v axes s x p q
          ∙ ap (λ t. t && v.kept (x ∷ after_first axes p q s)) (none_past_second rows v.sizes p q s x within.0 within.1 is low high);
      none_last = λ p q low high. upright_level v axes s x p q
          ∙ ap (λ t. t && v.kept (x ∷ after_first axes p q s)) (none_past_third rows v.sizes p q s x within.0 within.1 is low high);
    }) h k ∙ sym (around_at v (4 * s + 2) x i j axes (dimension_cases v.kind axes fits))

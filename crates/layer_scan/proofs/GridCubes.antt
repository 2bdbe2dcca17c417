-- The kept cubes around a row of edges, in the planes of a scan and in a grid.
use Rattle.std.proofs.Common.{ap, arith, inl, inr, refl, sym, ◌∙◌}
use Rattle.std.proofs.lemmas.Bool.{cases_lt}
use Rattle.std.proofs.lemmas.Nat.{div_below, mod_below, same_from_place}
use Rattle.std.specs.Prelude.{Bool, false, map, suc, true, zero}
use Rattle.std.specs.Prelude.{ℕ, ◌%◌, ◌||◌, ◌*◌, ◌+◌, ◌-◌, ◌/◌, ◌<◌, ◌≤◌, ◌≡◌, ◌⊎◌}
use Rattle.lists.proofs.Tests.{next_below}
use Rattle.bit_rows.specs.Rows.{row_bit}
use Rattle.grid_rows.specs.declared.grids.GridRows.{GridRows}
use Rattle.grid_rows.specs.declared.planes.BitPlane.{BitPlane}
use Rattle.grid_rows.specs.MiddleAxes.{edge_span}
use Rattle.grid_rows.specs.Planes.{bit_row}
use Rattle.grid_rows.specs.RowNumbers.{bordered, cube_rows, cubes_around, upper_half}
use Rattle.layer_scan.specs.CubePlanes.{with_border}
use Rattle.layer_scan.specs.RowsOfEdges.{around}
use Rattle.layer_scan.specs.ScanPlanes.{HasClearBorder}
use Rattle.layer_scan.proofs.PlaneRowSteps.{left_positive}

-- ---- a test of places, with a border below the first

abbrev pub with_first : (ℕ → Bool) → ℕ → Bool
with_first test zero = false
with_first test (suc a) = test a

-- on both sides of a half step
both_sides : (test : ℕ → Bool) (i : ℕ) → (with_first test (upper_half i) || with_first test (i / 2 + 1)) ≡ (test (upper_half i - 1) || test (i / 2))
both_sides test i = by_half (upper_half i) refl
  where
    next : (n : ℕ) → with_first test (n + 1) ≡ test n
    next n = let same : n + 1 ≡ suc n = omega arith in ap (with_first test) same

    twice : (b : Bool) → (false || b) ≡ (b || b)
    twice true = refl
    twice false = refl

    by_half : (u : ℕ) → upper_half i ≡ u → (with_first test u || with_first test (i / 2 + 1)) ≡ (test (u - 1) || test (i / 2))
    by_half zero is =
        let low : i / 2 ≡ 0 = omega (arith, is) in
        ap (λ t. false || t) (next (i / 2) ∙ ap test low) ∙ twice (test 0) ∙ ap (λ n. test 0 || test n) (sym low)
    by_half (suc u) is =
        let own : u ≡ suc u - 1 = omega arith in
        ap (λ t. test u || t) (next (i / 2)) ∙ ap (λ n. test n || test (i / 2)) own

crossed : (a b c d : Bool) → (a || (b || (c || (d || false)))) ≡ ((a || b) || (c || d))
crossed true b c d = refl
crossed false true c d = refl
crossed false false true d = refl
crossed false false false true = refl
crossed false false false false = refl

pub turned : (a b c d : Bool) → ((a || b) || (c || d)) ≡ ((a || c) || (b || d))
turned true b c d = refl
turned false true true d = refl
turned false true false d = refl
turned false false true d = refl
turned false false false d = refl

-- around a row that stands at half steps along both middle axes
pub four_sides : (test : ℕ → ℕ → Bool) (i j : ℕ)
    → (with_first (λ p. with_first (test p) (upper_half j)) (upper_half i) || (with_first (λ p. with_first (test p) (upper_half j)) (i / 2 + 1)
    || (with_first (λ p. with_first (test p) (j / 2 + 1)) (upper_half i) || (with_first (λ p. with_first (test p) (j / 2 + 1)) (i / 2 + 1) || false))))
    ≡ ((test (upper_half i - 1) (upper_half j - 1) || test (upper_half i - 1) (j / 2)) || (test (i / 2) (upper_half j - 1) || test (i / 2) (j / 2)))
four_sides test i j =
    let low = λ (p : ℕ). with_first (test p) (upper_half j) in
    let high = λ (p : ℕ). with_first (test p) (j / 2 + 1) in
    let u : ℕ = upper_half i - 1 in
    let l : ℕ = i / 2 in
    crossed (with_first low (upper_half i)) (with_first low (l + 1)) (with_first high (upper_half i)) (with_first high (l + 1))
    ∙ ap (λ t. t || (with_first high (upper_half i) || with_first high (l + 1))) (both_sides low i)
    ∙ ap (λ t. (low u || low l) || t) (both_sides high i)
    ∙ turned (low u) (low l) (high u) (high l)
    ∙ ap (λ t. t || (low l || high l)) (both_sides (test u) j)
    ∙ ap (λ t. (test u (upper_half j - 1) || test u (j / 2)) || t) (both_sides (test l) j)

-- ---- the border of a plane

cube_place : (rows : GridRows) (a b c : ℕ) → a < rows.second.cubes + 2 → c < cube_rows rows → bordered rows a b ≡ with_border rows c
    → (1 ≤ a) × (a ≤ rows.second.cubes) × (1 ≤ b) × (b ≤ rows.third.cubes)
cube_place rows a b c h lt e =
    let n : ℕ = rows.second.cubes in
    let some : 0 < n = left_positive c n rows.third.cubes lt in
    let low : c % n < n = mod_below c n some in
    let exchanged : c < rows.third.cubes * n = omega (arith, lt) in
    let high : c / n < rows.third.cubes = div_below c n rows.third.cubes some exchanged in
    let arranged : b * (n + 2) + a ≡ (c / n + 1) * (n + 2) + (c % n + 1) = omega (arith, e) in
    let both = same_from_place b a (c / n + 1) (c % n + 1) (n + 2) h (omega (arith, low)) arranged in
    (omega (arith, both.1), omega (arith, both.1, low), omega (arith, both.0), omega (arith, both.0, high))

clear_at : (rows : GridRows) (plane : BitPlane) (a b x : ℕ) → HasClearBorder rows plane → a < rows.second.cubes + 2 → b < rows.third.cubes + 2
    → ((1 ≤ a) × (a ≤ rows.second.cubes) × (1 ≤ b) × (b ≤ rows.third.cubes) → ⊥) → row_bit (bit_row plane (bordered rows a b)) x ≡ false
clear_at rows plane a b x clear h k none =
    clear (bordered rows a b) (next_below a (rows.second.cubes + 2) b (rows.third.cubes + 2) h k) (λ c lt e. none (cube_place rows a b c h lt e)) x

-- a plane tells a test of the places of cubes, which fails past them
pub record TellsPlaces (rows : GridRows) (plane : BitPlane) (x : ℕ) (test : ℕ → ℕ → Bool) : Type 0 where
  pub clear : HasClearBorder rows plane
  pub cubes : (p q : ℕ) → p < rows.second.cubes → q < rows.third.cubes → row_bit (bit_row plane (bordered rows (p + 1) (q + 1))) x ≡ test p q
  pub none_first : (p q : ℕ) → rows.second.cubes ≤ p → p < rows.second.samples → test p q ≡ false
  pub none_last : (p q : ℕ) → rows.third.cubes ≤ q → q < rows.third.samples → test p q ≡ false

told_at : (rows : GridRows) (plane : BitPlane) (x : ℕ) (test : ℕ → ℕ → Bool) (a b : ℕ) → TellsPlaces rows plane x test
    → a ≤ rows.second.samples → b ≤ rows.third.samples → row_bit (bit_row plane (bordered rows a b)) x ≡ with_first (λ p. with_first (test p) b) a
told_at rows plane x test zero b tells h k =
    clear_at rows plane 0 b x tells.clear (omega arith) (omega (arith, k, rows.few.1.2, rows.few.1.3)) (λ is. omega (arith, is.0))
told_at rows plane x test (suc p) zero tells h k =
    clear_at rows plane (suc p) 0 x tells.clear (omega (arith, h, rows.few.0.2, rows.few.0.3)) (omega arith) (λ is. omega (arith, is.2))
told_at rows plane x test (suc p) (suc q) tells h k = by_places (cases_lt p rows.second.cubes) (cases_lt q rows.third.cubes)
  where
    wide : suc p < rows.second.cubes + 2
    wide = omega (arith, h, rows.few.0.2, rows.few.0.3)

    deep : suc q < rows.third.cubes + 2
    deep = omega (arith, k, rows.few.1.2, rows.few.1.3)

    by_places : (p < rows.second.cubes) ⊎ (rows.second.cubes ≤ p) → (q < rows.third.cubes) ⊎ (rows.third.cubes ≤ q)
        → row_bit (bit_row plane (bordered rows (suc p) (suc q))) x ≡ test p q
    by_places (inl low) (inl near) =
        let same : bordered rows (suc p) (suc q) ≡ bordered rows (p + 1) (q + 1) = omega arith in
        ap (λ n. row_bit (bit_row plane n) x) same ∙ tells.cubes p q low near
    by_places (inl low) (inr far) =
        clear_at rows plane (suc p) (suc q) x tells.clear wide deep (λ is. omega (arith, is.3, far)) ∙ sym (tells.none_last p q far (omega (arith, k)))
    by_places (inr high) near =
        clear_at rows plane (suc p) (suc q) x tells.clear wide deep (λ is. omega (arith, is.1, high)) ∙ sym (tells.none_first p q high (omega (arith, h)))

-- so the kept cubes around a row of edges are those on both sides of it
pub told_around : (rows : GridRows) (plane : BitPlane) (x : ℕ) (test : ℕ → ℕ → Bool) (i j : ℕ) → TellsPlaces rows plane x test
    → i < edge_span rows.second → j < edge_span rows.third → around (map (bit_row plane) (cubes_around rows i j)) x
    ≡ ((test (upper_half i - 1) (upper_half j - 1) || test (upper_half i - 1) (j / 2)) || (test (i / 2) (upper_half j - 1) || test (i / 2) (j / 2)))
told_around rows plane x test i j tells h k =
    let at = λ (a b : ℕ) (s : a ≤ rows.second.samples) (t : b ≤ rows.third.samples). told_at rows plane x test a b tells s t in
    let u : upper_half i ≤ rows.second.samples = omega (arith, h) in
    let l : i / 2 + 1 ≤ rows.second.samples = omega (arith, h) in
    let near : upper_half j ≤ rows.third.samples = omega (arith, k) in
    let far : j / 2 + 1 ≤ rows.third.samples = omega (arith, k) in
    let bit = λ (a b : ℕ). row_bit (bit_row plane (bordered rows a b)) x in
    let is = λ (a b : ℕ). with_first (λ p. with_first (test p) b) a in
    let low : ℕ = upper_half i in
    let high : ℕ = i / 2 + 1 in
    let first : ℕ = upper_half j in
    let last : ℕ = j / 2 + 1 in
    ap (λ t. t || (bit high first || (bit low last || (bit high last || false)))) (at low first u near)
    ∙ ap (λ t. is low first || (t || (bit low last || (bit high last || false)))) (at high first l near)
    ∙ ap (λ t. is low first || (is high first || (t || (bit high last || false)))) (at low last u far)
    ∙ ap (λ t. is low first || (is high first || (is low last || (t || false)))) (at high last l far)
    ∙ four_sides test i j

-- Cubes whose corners have one sign, in the planes of a scan and in a grid.
use Rattle.std.proofs.Common.{ap, arith, inl, inr, refl, sym, subst, ◌∙◌}
use Rattle.std.specs.Prelude.{Bool, List, [], ◌∷◌, false, length, not, true, ℕ, ◌&&◌, ◌||◌, ◌%◌, ◌+◌, ◌/◌, ◌<◌, ◌≤◌, ◌≡◌, ◌⊎◌}
use Rattle.iso_model.specs.Values.{Volume}
use Rattle.iso_model.proofs.DimensionLaws.{dimension_cases}
use Rattle.bit_rows.specs.Rows.{row_bit}
use Rattle.grid_rows.specs.declared.grids.GridRows.{GridRows}
use Rattle.grid_rows.specs.declared.grids.MiddleAxis.{MiddleAxis}
use Rattle.grid_rows.specs.declared.planes.BitPlane.{BitPlane}
use Rattle.grid_rows.specs.Planes.{bit_row}
use Rattle.grid_rows.specs.RowNumbers.{corners_around, sample_row}
use Rattle.edge_middles.specs.PlainCubes.{HasOneSign, IsCornerOf}
use Rattle.edge_middles.specs.WhatIsThere.{is_above_at}
use Rattle.edge_middles.proofs.PointsThere.{along_axis}
use Rattle.layer_scan.specs.Corners.{every_corner, some_corner, some_of_four}
use Rattle.layer_scan.specs.CubePlanes.{corner_rows}
use Rattle.layer_scan.specs.GridPlanes.{AreRowsOf, IsPlainUnlessMixed, TellsSigns, after_first}
use Rattle.layer_scan.proofs.KeptCubes.{IsSide, SliceSet, all_set, side_low}
use Rattle.iso_model.proofs.CellCounts.{axes_between}

-- ---- the bits at the corners of a cube are all clear

or_first : (a b : Bool) → (a || b) ≡ false → a ≡ false
or_first false b e = refl
or_first true b e = e

or_second : (a b : Bool) → (a || b) ≡ false → b ≡ false
or_second false b e = e
or_second true b e = absurd (cc)

-- the bits in one of the planes are clear
abbrev SliceUnset : GridRows → BitPlane → (x i j : ℕ) → Type 0
SliceUnset rows plane x i j = (p q r : ℕ) → IsSide 1 p → IsSide rows.second.step q → IsSide rows.third.step r
    → row_bit (bit_row plane (sample_row rows (i + q) (j + r))) (x + p) ≡ false

module _ (rows : GridRows) (lower upper : BitPlane) (x i j : ℕ) (none : some_corner lower upper (corners_around rows i j) x ≡ false) where
  abbrev some_at : ℕ → ℕ → Bool
  some_at q r = some_of_four (bit_row lower (sample_row rows (i + q) (j + r))) (bit_row upper (sample_row rows (i + q) (j + r))) x

  -- the four rows at the corners
  rows_at_corners : some_corner lower upper (corners_around rows i j) x
      ≡ (some_at 0 0 || (some_at rows.second.step 0 || (some_at 0 rows.third.step || (some_at rows.second.step rows.third.step || false))))
  rows_at_corners =
      let a : i ≡ i + 0 = omega arith in
      let b : j ≡ j + 0 = omega arith in
      let at = λ (p q : ℕ). some_of_four (bit_row lower (sample_row rows p q)) (bit_row upper (sample_row rows p q)) x in
      λ t. at (a t) (b t) || (at (i + rows.second.step) (b t) || (at (a t) (j + rows.third.step) || (at (i + rows.second.step) (j + rows.third.step) || false)))

  none_at : (q r : ℕ) → IsSide rows.second.step q → IsSide rows.third.step r → some_at q r ≡ false
  none_at q r side other =
      let step : ℕ = rows.second.step in
      let last : ℕ = rows.third.step in
      let all = sym rows_at_corners ∙ none in
      let first = or_first (some_at 0 0) (some_at step 0 || (some_at 0 last || (some_at step last || false))) all in
      let rest = or_second (some_at 0 0) (some_at step 0 || (some_at 0 last || (some_at step last || false))) all in
      let second = or_first (some_at step 0) (some_at 0 last || (some_at step last || false)) rest in
      let more = or_second (some_at step 0) (some_at 0 last || (some_at step last || false)) rest in
      let third = or_first (some_at 0 last) (some_at step last || false) more in
      let fourth = or_first (some_at step last) false (or_second (some_at 0 last) (some_at step last || false) more) in
      elim side as (λ _. some_at q r ≡ false) [
        | inl e ↦ elim other as (λ _. some_at q r ≡ false) [
          | inl f ↦ (λ t. some_at (e t) (f t)) ∙ first
          | inr f ↦ (λ t. some_at (e t) (f t)) ∙ third
        ]
        | inr e ↦ elim other as (λ _. some_at q r ≡ false) [
          | inl f ↦ (λ t. some_at (e t) (f t)) ∙ second
          | inr f ↦ (λ t. some_at (e t) (f t)) ∙ fourth
        ]
      ]

  -- of two bits that are next to each other in a row
  each_clear : (row : List ℕ) → (row_bit row x || row_bit row (x + 1)) ≡ false → (p : ℕ) → IsSide 1 p → row_bit row (x + p) ≡ false
  each_clear row both p (inl e) = let same : x ≡ x + p = omega (arith, e) in sym (ap (row_bit row) same) ∙ or_first (row_bit row x) (row_bit row (x + 1)) both
  each_clear row both p (inr e) =
      let same : x + 1 ≡ x + p = omega (arith, e) in sym (ap (row_bit row) same) ∙ or_second (row_bit row x) (row_bit row (x + 1)) both

  none_set : SliceUnset rows lower x i j × SliceUnset rows upper x i j
  none_set = (
    λ p q r a b c.
        let low : List ℕ = bit_row lower (sample_row rows (i + q) (j + r)) in
        let high : List ℕ = bit_row upper (sample_row rows (i + q) (j + r)) in
        each_clear low (or_first (row_bit low x || row_bit low (x + 1)) (row_bit high x || row_bit high (x + 1)) (none_at q r b c)) p a,
    λ p q r a b c.
        let low : List ℕ = bit_row lower (sample_row rows (i + q) (j + r)) in
        let high : List ℕ = bit_row upper (sample_row rows (i + q) (j + r)) in
        each_clear high (or_second (row_bit low x || row_bit low (x + 1)) (row_bit high x || row_bit high (x + 1)) (none_at q r b c)) p a,
  )

-- ---- the corners of a cube of a grid

-- all samples at corners in a slice have this sign
abbrev SliceHas : Volume → (second third axes x i j s : ℕ) → Bool → Type 0
SliceHas v second third axes x i j s above = (p q r : ℕ) → IsSide 1 p → IsSide second q → IsSide third r
    → is_above_at v ((x + p) ∷ after_first axes (i + q) (j + r) s) ≡ above

side_of : (c k : ℕ) → (k ≡ c) ⊎ (k ≡ c + 1) → (p : ℕ) × IsSide 1 p × (k ≡ c + p)
side_of c k (inl e) = (0, inl refl, omega (arith, e))
side_of c k (inr e) = (1, inr refl, e)

module _ (v : Volume) (x i j s : ℕ) (above : Bool) where
  -- in the slice on one side
  on_side : (second third axes t : ℕ) → IsSide 1 t → SliceHas v second third axes x i j s above → SliceHas v second third axes x i j (s + 1) above
      → SliceHas v second third axes x i j (s + t) above
  on_side second third axes t (inl e) low high =
      let same : s ≡ s + t = omega (arith, e) in subst (λ h. SliceHas v second third axes x i j h above) same low
  on_side second third axes t (inr e) low high =
      let same : s + 1 ≡ s + t = omega (arith, e) in subst (λ h. SliceHas v second third axes x i j h above) same high

  sign_of_two : SliceHas v 0 0 2 x i j s above → SliceHas v 0 0 2 x i j (s + 1) above → HasOneSign v (x ∷ s ∷ []) above
  sign_of_two low high [] is = absurd is
  sign_of_two low high (k ∷ []) is = absurd is.1
  sign_of_two low high (k ∷ l ∷ []) is =
      let a = side_of x k is.0 in
      let b = side_of s l is.1.0 in
      (λ n. is_above_at v (a.2 n ∷ b.2 n ∷ [])) ∙ on_side 0 0 2 b.0 b.1 low high a.0 0 0 a.1 (inl refl) (inl refl)
  sign_of_two low high (k ∷ l ∷ m ∷ more) is = absurd is.1.1

  sign_of_three : SliceHas v 1 0 3 x i j s above → SliceHas v 1 0 3 x i j (s + 1) above → HasOneSign v (x ∷ i ∷ s ∷ []) above
  sign_of_three low high [] is = absurd is
  sign_of_three low high (k ∷ []) is = absurd is.1
  sign_of_three low high (k ∷ l ∷ []) is = absurd is.1.1
  sign_of_three low high (k ∷ l ∷ m ∷ []) is =
      let a = side_of x k is.0 in
      let b = side_of i l is.1.0 in
      let d = side_of s m is.1.1.0 in
      (λ n. is_above_at v (a.2 n ∷ b.2 n ∷ d.2 n ∷ [])) ∙ on_side 1 0 3 d.0 d.1 low high a.0 b.0 0 a.1 b.1 (inl refl)
  sign_of_three low high (k ∷ l ∷ m ∷ o ∷ more) is = absurd is.1.1.1

  sign_of_four : SliceHas v 1 1 4 x i j s above → SliceHas v 1 1 4 x i j (s + 1) above → HasOneSign v (x ∷ i ∷ j ∷ s ∷ []) above
  sign_of_four low high [] is = absurd is
  sign_of_four low high (k ∷ []) is = absurd is.1
  sign_of_four low high (k ∷ l ∷ []) is = absurd is.1.1
  sign_of_four low high (k ∷ l ∷ m ∷ []) is = absurd is.1.1.1
  sign_of_four low high (k ∷ l ∷ m ∷ o ∷ []) is =
      let a = side_of x k is.0 in
      let b = side_of i l is.1.0 in
      let d = side_of j m is.1.1.0 in
      let e = side_of s o is.1.1.1.0 in
      (λ n. is_above_at v (a.2 n ∷ b.2 n ∷ d.2 n ∷ e.2 n ∷ [])) ∙ on_side 1 1 4 e.0 e.1 low high a.0 b.0 d.0 a.1 b.1 d.1
  sign_of_four low high (k ∷ l ∷ m ∷ o ∷ u ∷ more) is = absurd is.1.1.1.1

  -- whatever axes the grid has
  one_sign : (rows : GridRows) (sizes : List ℕ) → 2 ≤ length sizes → length sizes ≤ 4 → AreRowsOf sizes rows
      → SliceHas v rows.second.step rows.third.step (length sizes) x i j s above
      → SliceHas v rows.second.step rows.third.step (length sizes) x i j (s + 1) above → HasOneSign v (x ∷ after_first (length sizes) i j s) above
  one_sign rows [] few most is low high = absurd (omega (arith, few))
  one_sign rows (a ∷ []) few most is low high = absurd (omega (arith, few))
  one_sign rows (a ∷ b ∷ []) few most is low high =
      let second : rows.second.step ≡ 0 = ap (λ (m : MiddleAxis). m.step) is.second in
      let third : rows.third.step ≡ 0 = ap (λ (m : MiddleAxis). m.step) is.third in
      let there = λ (h : ℕ) (has : SliceHas v rows.second.step rows.third.step 2 x i j h above).
      subst (λ n. SliceHas v 0 n 2 x i j h above) third (subst (λ n. SliceHas v n rows.third.step 2 x i j h above) second has) in
      sign_of_two (there s low) (there (s + 1) high)
  one_sign rows (a ∷ b ∷ c ∷ []) few most is low high =
      let second : rows.second.step ≡ 1 = ap (λ (m : MiddleAxis). m.step) is.second in
      let third : rows.third.step ≡ 0 = ap (λ (m : MiddleAxis). m.step) is.third in
      let there = λ (h : ℕ) (has : SliceHas v rows.second.step rows.third.step 3 x i j h above).
      subst (λ n. SliceHas v 1 n 3 x i j h above) third (subst (λ n. SliceHas v n rows.third.step 3 x i j h above) second has) in
      sign_of_three (there s low) (there (s + 1) high)
  one_sign rows (a ∷ b ∷ c ∷ d ∷ []) few most is low high =
      let second : rows.second.step ≡ 1 = ap (λ (m : MiddleAxis). m.step) is.second in
      let third : rows.third.step ≡ 1 = ap (λ (m : MiddleAxis). m.step) is.third in
      let there = λ (h : ℕ) (has : SliceHas v rows.second.step rows.third.step 4 x i j h above).
      subst (λ n. SliceHas v 1 n 4 x i j h above) third (subst (λ n. SliceHas v n rows.third.step 4 x i j h above) second has) in
      sign_of_four (there s low) (there (s + 1) high)
  one_sign rows (a ∷ b ∷ c ∷ d ∷ e ∷ more) few most is low high = absurd (omega (arith, most))

-- the signs of a slice at the corners of a cube
corner_signs : (v : Volume) (rows : GridRows) (s x i j : ℕ) (plane : BitPlane) → TellsSigns v rows s plane → x + 1 < rows.length
    → i < rows.second.cubes → j < rows.third.cubes → (p q r : ℕ) → IsSide 1 p → IsSide rows.second.step q → IsSide rows.third.step r
    → row_bit (bit_row plane (sample_row rows (i + q) (j + r))) (x + p) ≡ is_above_at v ((x + p) ∷ after_first (length v.sizes) (i + q) (j + r) s)
corner_signs v rows s x i j plane tells lt h k p q r a b c =
    tells (i + q) (j + r) (x + p) (within i q rows.second.step rows.second.cubes rows.second.samples b h rows.few.0.2)
    (within j r rows.third.step rows.third.cubes rows.third.samples c k rows.few.1.2) (let low = side_low 1 p (omega arith) a in omega (arith, low, lt))
  where
    within : (i q step cubes samples : ℕ) → IsSide step q → i < cubes → cubes + step ≡ samples → i + q < samples
    within i q step cubes samples (inl e) h is = omega (arith, e, h, is)
    within i q step cubes samples (inr e) h is = omega (arith, e, h, is)

pub plain_unless_mixed : (v : Volume) (rows : GridRows) (s : ℕ) (lower upper : BitPlane) → IsPlainUnlessMixed v rows s lower upper
plain_unless_mixed v rows s lower upper fits is low high c x inside lt plain =
    by_some (some_corner lower upper (corner_rows rows c) x) refl plain
  where
    above_by : (above : Bool) → ((p q r : ℕ) → IsSide 1 p → IsSide rows.second.step q → IsSide rows.third.step r
        → row_bit (bit_row lower (sample_row rows (c % rows.second.cubes + q) (c / rows.second.cubes + r))) (x + p) ≡ above)
        → ((p q r : ℕ) → IsSide 1 p → IsSide rows.second.step q → IsSide rows.third.step r
        → row_bit (bit_row upper (sample_row rows (c % rows.second.cubes + q) (c / rows.second.cubes + r))) (x + p) ≡ above)
        → HasOneSign v (x ∷ after_first (length v.sizes) (c % rows.second.cubes) (c / rows.second.cubes) s) above
    above_by above one two =
        let axes = axes_between (length v.sizes) (dimension_cases v.kind (length v.sizes) fits) in
        let along = along_axis rows.second.cubes rows.third.cubes c inside in
        one_sign v x (c % rows.second.cubes) (c / rows.second.cubes) s above rows v.sizes axes.0 axes.1 is
        (λ p q r a b d. sym (corner_signs v rows s x (c % rows.second.cubes) (c / rows.second.cubes) lower low lt along.0 along.1 p q r a b d)
        ∙ one p q r a b d)
        (λ p q r a b d. sym (corner_signs v rows (s + 1) x (c % rows.second.cubes) (c / rows.second.cubes) upper high lt along.0 along.1 p q r a b d)
        ∙ two p q r a b d)

    by_some : (t : Bool) → some_corner lower upper (corner_rows rows c) x ≡ t → (t && not (every_corner lower upper (corner_rows rows c) x)) ≡ false
        → (above : Bool) × HasOneSign v (x ∷ after_first (length v.sizes) (c % rows.second.cubes) (c / rows.second.cubes) s) above
    by_some false none e =
        let clear = none_set rows lower upper x (c % rows.second.cubes) (c / rows.second.cubes) none in (false, above_by false clear.0 clear.1)
    by_some true some e =
        let set = all_set rows lower upper x (c % rows.second.cubes) (c / rows.second.cubes)
        (every_true (every_corner lower upper (corner_rows rows c) x) e) in (true, above_by true set.0 set.1)
      where
        every_true : (t : Bool) → not t ≡ false → t ≡ true
        every_true true f = refl
        every_true false f = absurd (cc)

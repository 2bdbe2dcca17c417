-- The kept cubes of a layer in the planes of a scan: by the samples that are not blank, and by flags.
use Rattle.std.proofs.Common.{ap, arith, inl, inr, refl, sym, subst, ◌∙◌}
use Rattle.std.proofs.lemmas.Bool.{cases_lt, false_from_ne_true, false≢true}
use Rattle.std.proofs.lemmas.List.{get_or-drop, get_or-take}
use Rattle.std.proofs.lemmas.Nat.{div-mul-add, mod-mul-add}
use Rattle.std.proofs.lemmas.Nat.Bits.{bit_at-lt}
use Rattle.std.specs.Int.{bit_at}
use Rattle.std.specs.List.{list_all, list_any}
use Rattle.std.specs.Prelude.{Bool, List, [], ◌∷◌, None, Option, Some, drop, false, length}
use Rattle.std.specs.Prelude.{map, nat_lt, not, slice_index, slice_index_or, suc, take, true, zero, ℕ}
use Rattle.std.specs.Prelude.{ℤ, ◌&&◌, ◌||◌, ◌%◌, ◌*◌, ◌+◌, ◌-◌, ◌/◌, ◌<◌, ◌≤◌, ◌≡◌, ◌⊎◌, ◌^◌}
use Rattle.lists.specs.Members.{In}
use Rattle.lists.specs.Orders.{numbers}
use Rattle.lists.proofs.MemberLaws.{In-map, In-numbers, all_In, all_from, from_In-map, from_In-numbers}
use Rattle.lists.proofs.Tests.{and_left, and_right, lt_of, next_below, of_lt, same_tests, not_below}
use Rattle.iso_model.specs.Cells.{HasDimension}
use Rattle.iso_model.specs.Dimensions.{IsDimension, in_each_dimension}
use Rattle.iso_model.specs.Points.{point}
use Rattle.iso_model.specs.Turns.{same_int}
use Rattle.iso_model.specs.Values.{Volume, cube_samples, sample_at, without_blank}
use Rattle.iso_model.proofs.DimensionLaws.{dimension_cases}
use Rattle.bit_rows.specs.Rows.{row_bit}
use Rattle.bit_rows.specs.SampleRows.{is_clear}
use Rattle.grid_rows.specs.declared.grids.GridRows.{GridRows}
use Rattle.grid_rows.specs.declared.grids.MiddleAxis.{MiddleAxis}
use Rattle.grid_rows.specs.declared.planes.BitPlane.{BitPlane}
use Rattle.grid_rows.specs.Planes.{bit_row}
use Rattle.grid_rows.specs.RowNumbers.{bordered, bordered_rows, corners_around, cube_rows, sample_row}
use Rattle.edge_middles.specs.WhatIsThere.{has_cube_at, is_kept_at}
use Rattle.layer_scan.specs.Corners.{all_four, every_corner}
use Rattle.layer_scan.specs.CubePlanes.{AreCubeBits, corner_rows, every_at, with_border}
use Rattle.layer_scan.specs.FlaggedCubes.{flag_at, flags_of}
use Rattle.layer_scan.specs.GridPlanes.{AreRowsOf, TellsKept, after_first}
use Rattle.layer_scan.specs.GridStates.{AreFlagsOf, KeepsClear, TellsClear}
use Rattle.layer_scan.specs.ScanPlanes.{HasBitsBelow, HasClearBorder}
use Rattle.layer_scan.proofs.SliceRows.{long_range, row_inside}
use Rattle.iso_model.proofs.CellCounts.{axes_between}

-- ---- a cube without a blank sample

none_blank : (blank : ℤ) (xs : List ℤ) → not (list_any (same_int blank) xs) ≡ list_all (λ s. not (same_int blank s)) xs
none_blank blank [] = refl
none_blank blank (s ∷ xs) = apart (same_int blank s) (list_any (same_int blank) xs) ∙ ap (λ t. not (same_int blank s) && t) (none_blank blank xs)
  where
    apart : (a b : Bool) → not (a || b) ≡ (not a && not b)
    apart true b = refl
    apart false b = refl

without_clear : (sizes : List ℕ) (samples : List ℤ) (blank : Option ℤ) (x : List ℕ)
    → without_blank sizes samples blank x ≡ list_all (is_clear blank) (cube_samples sizes samples x)
without_clear sizes samples None x = sym (all_from (is_clear None) (cube_samples sizes samples x) (λ s i. refl))
without_clear sizes samples (Some blank) x = none_blank blank (cube_samples sizes samples x)

-- ---- the samples of a cube: along each axis on its near side or on its far side

abbrev pub IsSide : ℕ → ℕ → Type 0
IsSide step q = (q ≡ 0) ⊎ (q ≡ step)

side_of_bit : (k i : ℕ) → IsSide 1 (bit_at k i)
side_of_bit k i = let few = bit_at-lt k i in elim (cases_lt (bit_at k i) 1) [
  | inl low ↦ inl (omega (arith, low))
  | inr high ↦ inr (omega (arith, high, few))
]

-- all samples in one of the slices of a cube are clear
abbrev SliceClear : Volume → Option ℤ → (second third axes x i j s : ℕ) → Type 0
SliceClear v blank second third axes x i j s = (p q r : ℕ) → IsSide 1 p → IsSide second q → IsSide third r
    → is_clear blank (sample_at v.sizes v.samples ((x + p) ∷ after_first axes (i + q) (j + r) s)) ≡ true

-- the corners of a cube, where the grid has so many axes
record HasClearCorners (v : Volume) (blank : Option ℤ) (second third x i j s axes : ℕ) : Type 0 where
  to_slices : list_all (is_clear blank) (map (λ k. sample_at v.sizes v.samples
      (point axes (λ a. slice_index (x ∷ after_first axes i j s) a + bit_at k a))) (numbers (2 ^ axes))) ≡ true
      → SliceClear v blank second third axes x i j s × SliceClear v blank second third axes x i j (s + 1)
  from_slices : SliceClear v blank second third axes x i j s → SliceClear v blank second third axes x i j (s + 1)
      → list_all (is_clear blank) (map (λ k. sample_at v.sizes v.samples
      (point axes (λ a. slice_index (x ∷ after_first axes i j s) a + bit_at k a))) (numbers (2 ^ axes))) ≡ true

pub side_low : (step q : ℕ) → step ≤ 1 → IsSide step q → q < 2
side_low step q few (inl e) = omega (arith, e)
side_low step q few (inr e) = omega (arith, e, few)

module _ (v : Volume) (blank : Option ℤ) (x i j s : ℕ) where
  abbrev clear_at : List ℕ → Bool
  clear_at y = is_clear blank (sample_at v.sizes v.samples y)

  abbrev corner_at : ℕ → ℕ → List ℕ
  corner_at axes k = point axes (λ a. slice_index (x ∷ after_first axes i j s) a + bit_at k a)

  abbrev all_clear : ℕ → Type 0
  all_clear axes = list_all (is_clear blank) (map (λ k. sample_at v.sizes v.samples (corner_at axes k)) (numbers (2 ^ axes))) ≡ true

  -- one corner of those that all are clear
  one_clear : (axes k : ℕ) → k < 2 ^ axes → all_clear axes → clear_at (corner_at axes k) ≡ true
  one_clear axes k few all =
      all_In (is_clear blank) (map (λ k. sample_at v.sizes v.samples (corner_at axes k)) (numbers (2 ^ axes))) all
      (sample_at v.sizes v.samples (corner_at axes k))
      (In-map (λ k. sample_at v.sizes v.samples (corner_at axes k)) (numbers (2 ^ axes)) k (In-numbers (2 ^ axes) k few))

  each_clear : (axes : ℕ) → ((k : ℕ) → k < 2 ^ axes → clear_at (corner_at axes k) ≡ true) → all_clear axes
  each_clear axes each =
      all_from (is_clear blank) (map (λ k. sample_at v.sizes v.samples (corner_at axes k)) (numbers (2 ^ axes))) (λ y is.
      let k = from_In-map (λ k. sample_at v.sizes v.samples (corner_at axes k)) (numbers (2 ^ axes)) y is in
      ap (is_clear blank) k.2 ∙ each k.0 (from_In-numbers (2 ^ axes) k.0 k.1))

  -- the slice on one side
  on_side : (second third axes t : ℕ) → IsSide 1 t → SliceClear v blank second third axes x i j s
      → SliceClear v blank second third axes x i j (s + 1) → SliceClear v blank second third axes x i j (s + t)
  on_side second third axes t (inl e) low high =
      let same : s ≡ s + t = omega (arith, e) in subst (SliceClear v blank second third axes x i j) same low
  on_side second third axes t (inr e) low high =
      let same : s + 1 ≡ s + t = omega (arith, e) in subst (SliceClear v blank second third axes x i j) same high

  two_axes : HasClearCorners v blank 0 0 x i j s 2
  two_axes = record {
    to_slices = λ all.
        let at : (p t : ℕ) → IsSide 1 p → IsSide 1 t → clear_at ((x + p) ∷ (s + t) ∷ []) ≡ true = λ p t a b.
        let low = side_low 1 p (omega arith) a in
        let high = side_low 1 t (omega arith) b in
        let first : bit_at (p + 2 * t) 0 ≡ p = omega (arith, low) in
        let second : bit_at (p + 2 * t) 1 ≡ t = omega (arith, low, high) in
        sym (λ n. clear_at ((x + first n) ∷ (s + second n) ∷ [])) ∙ one_clear 2 (p + 2 * t) (omega (arith, low, high)) all in
        let plain : s + 0 ≡ s = omega arith in
        (λ p q r a b c. sym (λ n. clear_at ((x + p) ∷ plain n ∷ [])) ∙ at p 0 a (inl refl), λ p q r a b c. at p 1 a (inr refl));
    from_slices = λ low high. each_clear 2 (λ k few.
        on_side 0 0 2 (bit_at k 1) (side_of_bit k 1) low high (bit_at k 0) 0 0 (side_of_bit k 0) (inl refl) (inl refl));
  }

  three_axes : HasClearCorners v blank 1 0 x i j s 3
  three_axes = record {
    to_slices = λ all.
        let at : (p q t : ℕ) → IsSide 1 p → IsSide 1 q → IsSide 1 t → clear_at ((x + p) ∷ (i + q) ∷ (s + t) ∷ []) ≡ true = λ p q t a b c.
        let low = side_low 1 p (omega arith) a in
        let middle = side_low 1 q (omega arith) b in
        let high = side_low 1 t (omega arith) c in
        let k : ℕ = p + 2 * q + 4 * t in
        let first : bit_at (p + 2 * q + 4 * t) 0 ≡ p = omega (arith, low) in
        let second : bit_at (p + 2 * q + 4 * t) 1 ≡ q = omega (arith, low, middle) in
        let third : bit_at (p + 2 * q + 4 * t) 2 ≡ t = omega (arith, low, middle, high) in
        sym (λ n. clear_at ((x + first n) ∷ (i + second n) ∷ (s + third n) ∷ []))
        ∙ one_clear 3 (p + 2 * q + 4 * t) (omega (arith, low, middle, high)) all in
        let plain : s + 0 ≡ s = omega arith in
        (λ p q r a b c. sym (λ n. clear_at ((x + p) ∷ (i + q) ∷ plain n ∷ [])) ∙ at p q 0 a b (inl refl), λ p q r a b c. at p q 1 a b (inr refl));
    from_slices = λ low high. each_clear 3 (λ k few.
        on_side 1 0 3 (bit_at k 2) (side_of_bit k 2) low high (bit_at k 0) (bit_at k 1) 0 (side_of_bit k 0) (side_of_bit k 1) (inl refl));
  }

  four_axes : HasClearCorners v blank 1 1 x i j s 4
  four_axes = record {
    to_slices = λ all.
        let at : (p q r t : ℕ) → IsSide 1 p → IsSide 1 q → IsSide 1 r → IsSide 1 t
        → clear_at ((x + p) ∷ (i + q) ∷ (j + r) ∷ (s + t) ∷ []) ≡ true = λ p q r t a b c d.
        let low = side_low 1 p (omega arith) a in
        let middle = side_low 1 q (omega arith) b in
        let other = side_low 1 r (omega arith) c in
        let high = side_low 1 t (omega arith) d in
        let first : bit_at (p + 2 * q + 4 * r + 8 * t) 0 ≡ p = omega (arith, low) in
        let second : bit_at (p + 2 * q + 4 * r + 8 * t) 1 ≡ q = omega (arith, low, middle) in
        let third : bit_at (p + 2 * q + 4 * r + 8 * t) 2 ≡ r = omega (arith, low, middle, other) in
        let fourth : bit_at (p + 2 * q + 4 * r + 8 * t) 3 ≡ t = omega (arith, low, middle, other, high) in
        sym (λ n. clear_at ((x + first n) ∷ (i + second n) ∷ (j + third n) ∷ (s + fourth n) ∷ []))
        ∙ one_clear 4 (p + 2 * q + 4 * r + 8 * t) (omega (arith, low, middle, other, high)) all in
        let plain : s + 0 ≡ s = omega arith in (
          λ p q r a b c. sym (λ n. clear_at ((x + p) ∷ (i + q) ∷ (j + r) ∷ plain n ∷ [])) ∙ at p q r 0 a b c (inl refl),
          λ p q r a b c. at p q r 1 a b c (inr refl),
        );
    from_slices = λ low high. each_clear 4 (λ k few.
        on_side 1 1 4 (bit_at k 3) (side_of_bit k 3) low high (bit_at k 0) (bit_at k 1) (bit_at k 2)
        (side_of_bit k 0) (side_of_bit k 1) (side_of_bit k 2));
  }

-- whatever axes the grid has
clear_corners : (v : Volume) (blank : Option ℤ) (rows : GridRows) (sizes : List ℕ) (x i j s : ℕ) → 2 ≤ length sizes → length sizes ≤ 4
    → AreRowsOf sizes rows → HasClearCorners v blank rows.second.step rows.third.step x i j s (length sizes)
clear_corners v blank rows [] x i j s few most is = absurd (omega (arith, few))
clear_corners v blank rows (a ∷ []) x i j s few most is = absurd (omega (arith, few))
clear_corners v blank rows (a ∷ b ∷ []) x i j s few most is =
    subst (λ (m : MiddleAxis). HasClearCorners v blank m.step rows.third.step x i j s 2) (sym is.second)
    (subst (λ (m : MiddleAxis). HasClearCorners v blank 0 m.step x i j s 2) (sym is.third) (two_axes v blank x i j s))
clear_corners v blank rows (a ∷ b ∷ c ∷ []) x i j s few most is =
    subst (λ (m : MiddleAxis). HasClearCorners v blank m.step rows.third.step x i j s 3) (sym is.second)
    (subst (λ (m : MiddleAxis). HasClearCorners v blank 1 m.step x i j s 3) (sym is.third) (three_axes v blank x i j s))
clear_corners v blank rows (a ∷ b ∷ c ∷ d ∷ []) x i j s few most is =
    subst (λ (m : MiddleAxis). HasClearCorners v blank m.step rows.third.step x i j s 4) (sym is.second)
    (subst (λ (m : MiddleAxis). HasClearCorners v blank 1 m.step x i j s 4) (sym is.third) (four_axes v blank x i j s))
clear_corners v blank rows (a ∷ b ∷ c ∷ d ∷ e ∷ more) x i j s few most is = absurd (omega (arith, most))

-- ---- the bits at the corners of a cube

-- the bits in one of the planes are set
abbrev pub SliceSet : GridRows → BitPlane → (x i j : ℕ) → Type 0
SliceSet rows plane x i j = (p q r : ℕ) → IsSide 1 p → IsSide rows.second.step q → IsSide rows.third.step r
    → row_bit (bit_row plane (sample_row rows (i + q) (j + r))) (x + p) ≡ true

four_true : (a b c d : Bool) → (a && (b && (c && (d && true)))) ≡ true → (a ≡ true) × (b ≡ true) × (c ≡ true) × (d ≡ true)
four_true a b c d all =
    let rest = and_right a (b && (c && (d && true))) all in
    let more = and_right b (c && (d && true)) rest in
    let last = and_right c (d && true) more in
    (and_left a (b && (c && (d && true))) all, and_left b (c && (d && true)) rest, and_left c (d && true) more, and_left d true last)

module _ (rows : GridRows) (lower upper : BitPlane) (x i j : ℕ) where
  abbrev four_at : ℕ → ℕ → Bool
  four_at q r = all_four (bit_row lower (sample_row rows (i + q) (j + r))) (bit_row upper (sample_row rows (i + q) (j + r))) x

  -- the bits in a row of one plane
  low_set : (q r : ℕ) → four_at q r ≡ true → (p : ℕ) → IsSide 1 p → row_bit (bit_row lower (sample_row rows (i + q) (j + r))) (x + p) ≡ true
  low_set q r all p side =
      let row : List ℕ = bit_row lower (sample_row rows (i + q) (j + r)) in
      let other : List ℕ = bit_row upper (sample_row rows (i + q) (j + r)) in
      let both = and_left (row_bit row x && row_bit row (x + 1)) (row_bit other x && row_bit other (x + 1)) all in
      elim side [
        | inl e ↦ let same : x ≡ x + p = omega (arith, e) in sym (ap (row_bit row) same) ∙ and_left (row_bit row x) (row_bit row (x + 1)) both
        | inr e ↦ let same : x + 1 ≡ x + p = omega (arith, e) in sym (ap (row_bit row) same) ∙ and_right (row_bit row x) (row_bit row (x + 1)) both
      ]

  high_set : (q r : ℕ) → four_at q r ≡ true → (p : ℕ) → IsSide 1 p → row_bit (bit_row upper (sample_row rows (i + q) (j + r))) (x + p) ≡ true
  high_set q r all p side =
      let other : List ℕ = bit_row lower (sample_row rows (i + q) (j + r)) in
      let row : List ℕ = bit_row upper (sample_row rows (i + q) (j + r)) in
      let both = and_right (row_bit other x && row_bit other (x + 1)) (row_bit row x && row_bit row (x + 1)) all in
      elim side [
        | inl e ↦ let same : x ≡ x + p = omega (arith, e) in sym (ap (row_bit row) same) ∙ and_left (row_bit row x) (row_bit row (x + 1)) both
        | inr e ↦ let same : x + 1 ≡ x + p = omega (arith, e) in sym (ap (row_bit row) same) ∙ and_right (row_bit row x) (row_bit row (x + 1)) both
      ]

  -- the four rows at the corners
  rows_at_corners : every_corner lower upper (corners_around rows i j) x
      ≡ (four_at 0 0 && (four_at rows.second.step 0 && (four_at 0 rows.third.step && (four_at rows.second.step rows.third.step && true))))
  rows_at_corners =
      let a : i ≡ i + 0 = omega arith in
      let b : j ≡ j + 0 = omega arith in
      let at = λ (p q : ℕ). all_four (bit_row lower (sample_row rows p q)) (bit_row upper (sample_row rows p q)) x in
      λ t. at (a t) (b t) && (at (i + rows.second.step) (b t) && (at (a t) (j + rows.third.step) && (at (i + rows.second.step) (j + rows.third.step) && true)))

  all_at : every_corner lower upper (corners_around rows i j) x ≡ true → (q r : ℕ) → IsSide rows.second.step q → IsSide rows.third.step r → four_at q r ≡ true
  all_at every q r side other =
      let all = four_true (four_at 0 0) (four_at rows.second.step 0) (four_at 0 rows.third.step) (four_at rows.second.step rows.third.step)
      (sym rows_at_corners ∙ every) in
      elim side as (λ _. four_at q r ≡ true) [
        | inl e ↦ elim other as (λ _. four_at q r ≡ true) [
          | inl f ↦ (λ t. four_at (e t) (f t)) ∙ all.0
          | inr f ↦ (λ t. four_at (e t) (f t)) ∙ all.2
        ]
        | inr e ↦ elim other as (λ _. four_at q r ≡ true) [
          | inl f ↦ (λ t. four_at (e t) (f t)) ∙ all.1
          | inr f ↦ (λ t. four_at (e t) (f t)) ∙ all.3
        ]
      ]

  pub all_set : every_corner lower upper (corners_around rows i j) x ≡ true → SliceSet rows lower x i j × SliceSet rows upper x i j
  all_set every = (
    λ p q r a b c. low_set q r (all_at every q r b c) p a,
    λ p q r a b c. high_set q r (all_at every q r b c) p a,
  )

  from_set : SliceSet rows lower x i j → SliceSet rows upper x i j → every_corner lower upper (corners_around rows i j) x ≡ true
  from_set low high =
      let plain : x + 0 ≡ x = omega arith in
      let four : (q r : ℕ) → IsSide rows.second.step q → IsSide rows.third.step r → four_at q r ≡ true = λ q r b c.
      let row : List ℕ = bit_row lower (sample_row rows (i + q) (j + r)) in
      let other : List ℕ = bit_row upper (sample_row rows (i + q) (j + r)) in
      let first : row_bit row x ≡ true = sym (ap (row_bit row) plain) ∙ low 0 q r (inl refl) b c in
      let second : row_bit row (x + 1) ≡ true = low 1 q r (inr refl) b c in
      let third : row_bit other x ≡ true = sym (ap (row_bit other) plain) ∙ high 0 q r (inl refl) b c in
      let fourth : row_bit other (x + 1) ≡ true = high 1 q r (inr refl) b c in
      λ t. (first t && second t) && (third t && fourth t) in
      let step : ℕ = rows.second.step in
      let other : ℕ = rows.third.step in
      rows_at_corners
      ∙ (λ t. four 0 0 (inl refl) (inl refl) t && (four step 0 (inr refl) (inl refl) t && (four 0 other (inl refl) (inr refl) t
      && (four step other (inr refl) (inr refl) t && true))))

-- the bits of a plane that tells which samples are not blank are set at the samples that are not
set_and_clear : (v : Volume) (blank : Option ℤ) (rows : GridRows) (s x i j : ℕ) (plane : BitPlane) → TellsClear v blank rows s plane
    → x + 1 < rows.length → i < rows.second.cubes → j < rows.third.cubes → (p q r : ℕ) → IsSide 1 p → IsSide rows.second.step q → IsSide rows.third.step r
    → row_bit (bit_row plane (sample_row rows (i + q) (j + r))) (x + p)
    ≡ is_clear blank (sample_at v.sizes v.samples ((x + p) ∷ after_first (length v.sizes) (i + q) (j + r) s))
set_and_clear v blank rows s x i j plane tells lt h k p q r a b c =
    tells (i + q) (j + r) (x + p) (within i q rows.second.step rows.second.cubes rows.second.samples b h rows.few.0.2)
    (within j r rows.third.step rows.third.cubes rows.third.samples c k rows.few.1.2) (let low = side_low 1 p (omega arith) a in omega (arith, low, lt))
  where
    within : (i q step cubes samples : ℕ) → IsSide step q → i < cubes → cubes + step ≡ samples → i + q < samples
    within i q step cubes samples (inl e) h is = omega (arith, e, h, is)
    within i q step cubes samples (inr e) h is = omega (arith, e, h, is)

-- ---- cubes of a layer by their places

pub cube_there : (rows : GridRows) (sizes : List ℕ) (i j s x : ℕ) → 2 ≤ length sizes → length sizes ≤ 4 → AreRowsOf sizes rows
    → i < rows.second.cubes → j < rows.third.cubes → x + 1 < rows.length → s + 1 < slice_index sizes (length sizes - 1)
    → has_cube_at sizes (x ∷ after_first (length sizes) i j s) ≡ true
cube_there rows [] i j s x few most is h k lt last = absurd (omega (arith, few))
cube_there rows (a ∷ []) i j s x few most is h k lt last = absurd (omega (arith, few))
cube_there rows (a ∷ b ∷ []) i j s x few most is h k lt last =
    let first : nat_lt (x + 1) a ≡ true = of_lt (x + 1) a (omega (arith, lt, is.first)) in
    let end : nat_lt (s + 1) b ≡ true = of_lt (s + 1) b last in
    λ t. first t && (end t && true)
cube_there rows (a ∷ b ∷ c ∷ []) i j s x few most is h k lt last =
    let first : nat_lt (x + 1) a ≡ true = of_lt (x + 1) a (omega (arith, lt, is.first)) in
    let second : nat_lt (i + 1) b ≡ true = of_lt (i + 1) b (omega (arith, h, ap (λ (m : MiddleAxis). m.cubes) is.second)) in
    let end : nat_lt (s + 1) c ≡ true = of_lt (s + 1) c last in
    λ t. first t && (second t && (end t && true))
cube_there rows (a ∷ b ∷ c ∷ d ∷ []) i j s x few most is h k lt last =
    let first : nat_lt (x + 1) a ≡ true = of_lt (x + 1) a (omega (arith, lt, is.first)) in
    let second : nat_lt (i + 1) b ≡ true = of_lt (i + 1) b (omega (arith, h, ap (λ (m : MiddleAxis). m.cubes) is.second)) in
    let third : nat_lt (j + 1) c ≡ true = of_lt (j + 1) c (omega (arith, k, ap (λ (m : MiddleAxis). m.cubes) is.third)) in
    let end : nat_lt (s + 1) d ≡ true = of_lt (s + 1) d last in
    λ t. first t && (second t && (third t && (end t && true)))
cube_there rows (a ∷ b ∷ c ∷ d ∷ e ∷ more) i j s x few most is h k lt last = absurd (omega (arith, most))

-- past the last cube of a row there is none
none_past_first : (sizes rest : List ℕ) (x : ℕ) → slice_index sizes 0 ≤ x + 1 → has_cube_at sizes (x ∷ rest) ≡ false
none_past_first [] rest x past = refl
none_past_first (n ∷ sizes) rest x past = ap (λ t. t && has_cube_at sizes rest) (not_below (x + 1) n past)

-- the number of a row of cubes by its places along the middle axes
pub row_number_of : (rows : GridRows) (i j : ℕ) → i < rows.second.cubes
    → ((i + rows.second.cubes * j) % rows.second.cubes ≡ i) × ((i + rows.second.cubes * j) / rows.second.cubes ≡ j)
row_number_of rows i j h =
    let n : ℕ = rows.second.cubes in
    let turned : i + n * j ≡ j * n + i = omega arith in
    (ap (λ k. k % n) turned ∙ mod-mul-add j n i h, ap (λ k. k / n) turned ∙ div-mul-add j n i h)

-- a plane that tells a test of each cube tells which cubes are kept where the test is passed at kept cubes
kept_by : (v : Volume) (rows : GridRows) (s : ℕ) (passes : ℕ → ℕ → Bool) (plane : BitPlane) → HasDimension v.kind (length v.sizes) → AreRowsOf v.sizes rows
    → s + 1 < slice_index v.sizes (length v.sizes - 1) → AreCubeBits rows passes plane → HasClearBorder rows plane
    → HasBitsBelow (bordered_rows rows) (rows.length - 1) plane
    → ((i j x : ℕ) → i < rows.second.cubes → j < rows.third.cubes → x + 1 < rows.length
    → passes (i + rows.second.cubes * j) x ≡ v.kept (x ∷ after_first (length v.sizes) i j s))
    → TellsKept v rows s plane
kept_by v rows s passes plane fits is last bits border below same = record { clear = border; cubes = cubes }
  where
    cubes : (i j x : ℕ) → i < rows.second.cubes → j < rows.third.cubes
        → row_bit (bit_row plane (bordered rows (i + 1) (j + 1))) x ≡ is_kept_at v (x ∷ after_first (length v.sizes) i j s)
    cubes i j x h k =
        let axes = axes_between (length v.sizes) (dimension_cases v.kind (length v.sizes) fits) in
        let rest : List ℕ = after_first (length v.sizes) i j s in
        let c : ℕ = i + rows.second.cubes * j in
        let number = row_number_of rows i j h in
        let inside : c < cube_rows rows = next_below i rows.second.cubes j rows.third.cubes h k in
        let at : bordered rows (i + 1) (j + 1) ≡ with_border rows c = sym (λ t. bordered rows (number.0 t + 1) (number.1 t + 1)) in
        elim (cases_lt (x + 1) rows.length) [
          | inl lt ↦
              ap (λ n. row_bit (bit_row plane n) x) at ∙ bits c inside x ∙ same i j x h k lt
              ∙ sym (ap (λ t. t && v.kept (x ∷ rest)) (cube_there rows v.sizes i j s x axes.0 axes.1 is h k lt last))
          | inr past ↦
              let there = next_below (i + 1) (rows.second.cubes + 2) (j + 1) (rows.third.cubes + 2) (omega (arith, h)) (omega (arith, k)) in
              false_from_ne_true (row_bit (bit_row plane (bordered rows (i + 1) (j + 1))) x)
              (λ t. let lt = below (bordered rows (i + 1) (j + 1)) x there t in omega (arith, lt, past))
              ∙ sym (ap (λ t. t && v.kept (x ∷ rest)) (none_past_first v.sizes rest x (omega (arith, past, is.first))))
        ]

-- the kept cubes of a layer, where its two slices tell which samples are not blank
pub kept_by_clear : (v : Volume) (blank : Option ℤ) (rows : GridRows) (s : ℕ) (lower upper plane : BitPlane) → HasDimension v.kind (length v.sizes)
    → AreRowsOf v.sizes rows → s + 1 < slice_index v.sizes (length v.sizes - 1) → TellsClear v blank rows s lower → TellsClear v blank rows (s + 1) upper
    → KeepsClear v blank s → AreCubeBits rows (every_at lower upper rows) plane → HasClearBorder rows plane
    → HasBitsBelow (bordered_rows rows) (rows.length - 1) plane → TellsKept v rows s plane
kept_by_clear v blank rows s lower upper plane fits is last low high keeps bits border below =
    kept_by v rows s (every_at lower upper rows) plane fits is last bits border below same
  where
    same : (i j x : ℕ) → i < rows.second.cubes → j < rows.third.cubes → x + 1 < rows.length
        → every_at lower upper rows (i + rows.second.cubes * j) x ≡ v.kept (x ∷ after_first (length v.sizes) i j s)
    same i j x h k lt =
        let axes = axes_between (length v.sizes) (dimension_cases v.kind (length v.sizes) fits) in
        let cube : List ℕ = x ∷ after_first (length v.sizes) i j s in
        let number = row_number_of rows i j h in
        let clear = clear_corners v blank rows v.sizes x i j s axes.0 axes.1 is in
        let one = set_and_clear v blank rows s x i j lower low lt h k in
        let two = set_and_clear v blank rows (s + 1) x i j upper high lt h k in
        (λ t. every_corner lower upper (corners_around rows (number.0 t) (number.1 t)) x)
        ∙ same_tests (every_corner lower upper (corners_around rows i j) x) (list_all (is_clear blank) (cube_samples v.sizes v.samples cube))
        (λ t.
        let set = all_set rows lower upper x i j t in
        clear.from_slices (λ p q r a b c. sym (one p q r a b c) ∙ set.0 p q r a b c) (λ p q r a b c. sym (two p q r a b c) ∙ set.1 p q r a b c))
        (λ t.
        let are = clear.to_slices t in
        from_set rows lower upper x i j (λ p q r a b c. one p q r a b c ∙ are.0 p q r a b c) (λ p q r a b c. two p q r a b c ∙ are.1 p q r a b c))
        ∙ sym (without_clear v.sizes v.samples blank cube)
        ∙ sym (keeps i j x (cube_there rows v.sizes i j s x axes.0 axes.1 is h k lt last))

-- the kept cubes of a layer that flags give
pub kept_by_flags : (v : Volume) (rows : GridRows) (s : ℕ) (flags : List Bool) (plane : BitPlane) → HasDimension v.kind (length v.sizes)
    → AreRowsOf v.sizes rows → s + 1 < slice_index v.sizes (length v.sizes - 1) → length flags ≡ cube_rows rows * (rows.length - 1)
    → AreFlagsOf v rows s flags → AreCubeBits rows (flag_at rows flags) plane → HasClearBorder rows plane
    → HasBitsBelow (bordered_rows rows) (rows.length - 1) plane → TellsKept v rows s plane
kept_by_flags v rows s flags plane fits is last long are bits border below =
    kept_by v rows s (flag_at rows flags) plane fits is last bits border below same
  where
    same : (i j x : ℕ) → i < rows.second.cubes → j < rows.third.cubes → x + 1 < rows.length
        → flag_at rows flags (i + rows.second.cubes * j) x ≡ v.kept (x ∷ after_first (length v.sizes) i j s)
    same i j x h k lt =
        let axes = axes_between (length v.sizes) (dimension_cases v.kind (length v.sizes) fits) in
        let c : ℕ = i + rows.second.cubes * j in
        let span : ℕ = rows.length - 1 in
        let own : List Bool = flags_of rows flags c in
        let inside = row_inside c span (cube_rows rows) (length flags) (next_below i rows.second.cubes j rows.third.cubes h k) long in
        let count : length own ≡ span = long_range flags (c * span) span inside in
        let there : nat_lt x (length own) ≡ true = of_lt x (length own) (omega (arith, lt, count)) in
        let room : c * span + span - c * span ≡ span = omega arith in
        ap (λ t. t && slice_index_or own x false) there
        ∙ ap (λ m. slice_index_or (take m (drop (c * span) flags)) x false) room
        ∙ get_or-take span (drop (c * span) flags) x false (omega (arith, lt)) ∙ get_or-drop (c * span) flags x false
        ∙ sym (are i j x h k (omega (arith, lt)) (cube_there rows v.sizes i j s x axes.0 axes.1 is h k lt last))

-- The signs at the corners of cubes, by the rows of signs of the two slices.
use Rattle.std.proofs.Common.{ap, arith, inl, inr, refl, sym, subst, ◌∙◌}
use Rattle.std.proofs.lemmas.Bool.{cases_lt}
use Rattle.std.specs.Int.{bit_at}
use Rattle.std.specs.Prelude.{ℕ, zero, suc, ◌+◌, ◌-◌, ◌*◌, ◌/◌, ◌%◌, ◌<◌, ◌≤◌, ◌^◌, ◌≡◌, ◌==◌, Bool, true, false, nat_lt, List, [], ◌∷◌, if◌then◌else◌}
use Rattle.std.specs.Prelude.{length, slice_index}
use Rattle.lists.specs.Bits.{is_set}
use Rattle.lists.proofs.Tests.{of_lt}
use Rattle.iso_model.specs.Dimensions.{IsDimension}
use Rattle.iso_model.specs.declared.Kind.TheVariants.{Pyramid}
use Rattle.iso_model.specs.Points.{point}
use Rattle.iso_model.specs.Values.{Volume}
use Rattle.bit_rows.specs.Rows.{IsWordOf, row_bit}
use Rattle.cube_cells.specs.CubePoints.{set_of}
use Rattle.cube_cells.proofs.SignBits.{bit_is_set}
use Rattle.edge_middles.specs.WhatIsThere.{is_above_at, is_centre_above}
use Rattle.grid_rows.specs.declared.grids.GridRows.{GridRows}
use Rattle.grid_rows.specs.declared.grids.MiddleAxis.{MiddleAxis}
use Rattle.grid_rows.specs.declared.planes.BitPlane.{BitPlane}
use Rattle.grid_rows.specs.MiddleAxes.{axis_of, axis_with, no_axis}
use Rattle.grid_rows.specs.Planes.{bit_row}
use Rattle.grid_rows.specs.RowNumbers.{corners_around, sample_row}
use Rattle.layer_scan.specs.GridPlanes.{AreRowsOf, TellsSigns, after_first}
use Rattle.lists.proofs.Tests.{not_below}
use Rattle.layer_mesh.specs.declared.signs.PointRows.{PointRows}
use Rattle.layer_mesh.specs.declared.signs.SignWords.{SignWords}
use Rattle.layer_mesh.specs.CubeCells.{AreSignsAt}
use Rattle.layer_mesh.specs.CubeSigns.{AreSignWords}
use Rattle.layer_mesh.specs.PointSigns.{centre_sign, corner_sign}

-- the rows of samples at the corners, by their numbers
four_rows : (rows : GridRows) (i j r : ℕ) → r < 4
    → slice_index (corners_around rows i j) r ≡ sample_row rows (i + r % 2 * rows.second.step) (j + r / 2 * rows.third.step)
four_rows rows i j zero h = omega arith
four_rows rows i j (suc zero) h = omega arith
four_rows rows i j (suc (suc zero)) h = omega arith
four_rows rows i j (suc (suc (suc zero))) h = omega arith
four_rows rows i j (suc (suc (suc (suc r)))) h = absurd (omega (arith, h))

-- one further where a corner is
on_or_next : (k x : ℕ) → (if k % 2 == 1 then x + 1 else x) ≡ x + k % 2
on_or_next k x = by_rest (k % 2) (omega arith)
  where
    by_rest : (r : ℕ) → r < 2 → (if r == 1 then x + 1 else x) ≡ x + r
    by_rest zero h = omega arith
    by_rest (suc zero) h = refl
    by_rest (suc (suc r)) h = absurd (omega (arith, h))

module _ (v : Volume) (rows : GridRows) (stand : AreRowsOf v.sizes rows) (s : ℕ) (points : PointRows)
    (lower : TellsSigns v rows s points.lower.now) (upper : TellsSigns v rows (s + 1) points.upper.now) (i j : ℕ)
    (corners : points.row.corners ≡ corners_around rows i j) (first : i + rows.second.step < rows.second.samples)
    (second : j + rows.third.step < rows.third.samples) (x : ℕ) (inside : x + 1 < rows.length) where
  -- a corner in one of the slices
  in_slice : (plane : BitPlane) (z : ℕ) → TellsSigns v rows z plane → (k r : ℕ) → r < 4 → (y : List ℕ)
      → y ≡ (x + k % 2) ∷ after_first (length v.sizes) (i + r % 2 * rows.second.step) (j + r / 2 * rows.third.step) z
      → row_bit (bit_row plane (slice_index points.row.corners r)) (if k % 2 == 1 then x + 1 else x) ≡ is_above_at v y
  in_slice plane z tells k r few y is =
      let one : r % 2 ≤ 1 = omega arith in
      let other : r / 2 ≤ 1 = omega (arith, few) in
      let row : slice_index points.row.corners r ≡ sample_row rows (i + r % 2 * rows.second.step) (j + r / 2 * rows.third.step) =
      ap (λ cs. slice_index cs r) corners ∙ four_rows rows i j r few in
      (λ p. row_bit (bit_row plane (row p)) (on_or_next k x p))
      ∙ tells (i + r % 2 * rows.second.step) (j + r / 2 * rows.third.step) (x + k % 2) (below i rows.second.step (r % 2) rows.second.samples one first)
      (below j rows.third.step (r / 2) rows.third.samples other second) (omega (arith, inside)) ∙ ap (is_above_at v) (sym is)
    where
      below : (a step b n : ℕ) → b ≤ 1 → a + step < n → a + b * step < n
      below a step zero n h less = omega (arith, less)
      below a step (suc zero) n h less = omega (arith, less)
      below a step (suc (suc b)) n h less = absurd (omega (arith, h))

  -- a corner by the slice in which it lies
  by_slice : (d k r : ℕ) → r < 4 → k / 2 % 2 ^ (d - 2) ≡ r → (y : List ℕ)
      → (k < 2 ^ (d - 1) → y ≡ (x + k % 2) ∷ after_first (length v.sizes) (i + r % 2 * rows.second.step) (j + r / 2 * rows.third.step) s)
      → (2 ^ (d - 1) ≤ k → y ≡ (x + k % 2) ∷ after_first (length v.sizes) (i + r % 2 * rows.second.step) (j + r / 2 * rows.third.step) (s + 1))
      → corner_sign d points k x ≡ is_above_at v y
  by_slice d k r few at y low high =
      elim (cases_lt k (2 ^ (d - 1))) as (λ _. corner_sign d points k x ≡ is_above_at v y) [
        | inl less ↦
            (λ p. row_bit (bit_row (if of_lt k (2 ^ (d - 1)) less p then points.lower.now else points.upper.now) (slice_index points.row.corners (at p)))
            (if k % 2 == 1 then x + 1 else x))
            ∙ in_slice points.lower.now s lower k r few y (low less)
        | inr most ↦
            (λ p. row_bit (bit_row (if not_below k (2 ^ (d - 1)) most p then points.lower.now else points.upper.now) (slice_index points.row.corners (at p)))
            (if k % 2 == 1 then x + 1 else x))
            ∙ in_slice points.upper.now (s + 1) upper k r few y (high most)
      ]

  two_axes : length v.sizes ≡ 2 → (k : ℕ) → k < 4 → corner_sign 2 points k x ≡ is_above_at v ((x + bit_at k 0) ∷ (s + bit_at k 1) ∷ [])
  two_axes long k few =
      let first_bit : x + bit_at k 0 ≡ x + k % 2 = omega arith in
      by_slice 2 k 0 (omega arith) (omega arith) ((x + bit_at k 0) ∷ (s + bit_at k 1) ∷ [])
      (λ less.
      let last_bit : s + bit_at k 1 ≡ s = omega (arith, less) in
      (λ p. first_bit p ∷ last_bit p ∷ [])
      ∙ ap (λ n. (x + k % 2) ∷ after_first n (i + 0 % 2 * rows.second.step) (j + 0 / 2 * rows.third.step) s) (sym long))
      (λ most.
      let last_bit : s + bit_at k 1 ≡ s + 1 = omega (arith, most, few) in
      (λ p. first_bit p ∷ last_bit p ∷ [])
      ∙ ap (λ n. (x + k % 2) ∷ after_first n (i + 0 % 2 * rows.second.step) (j + 0 / 2 * rows.third.step) (s + 1)) (sym long))

  step_of : (axis n : ℕ) → length v.sizes ≡ n → (axis_of v.sizes axis).step ≡ (if nat_lt axis (n - 1) then 1 else 0)
  step_of axis n long =
      ap (λ (b : Bool). (if b then axis_with (slice_index v.sizes axis) else no_axis).step) (ap (λ m. nat_lt axis (m - 1)) long) ∙ by_test (nat_lt axis (n - 1))
    where
      by_test : (b : Bool) → (if b then axis_with (slice_index v.sizes axis) else no_axis).step ≡ (if b then 1 else 0)
      by_test true = refl
      by_test false = refl

  three_axes : length v.sizes ≡ 3 → (k : ℕ) → k < 8
      → corner_sign 3 points k x ≡ is_above_at v ((x + bit_at k 0) ∷ (i + bit_at k 1) ∷ (s + bit_at k 2) ∷ [])
  three_axes long k few =
      let first_bit : x + bit_at k 0 ≡ x + k % 2 = omega arith in
      let r : ℕ = k / 2 % 2 in
      let step : rows.second.step ≡ 1 = ap (λ (m : MiddleAxis). m.step) stand.second ∙ step_of 1 3 long in
      let own : i + bit_at k 1 ≡ i + r % 2 * 1 = omega arith in
      let middle : i + bit_at k 1 ≡ i + r % 2 * rows.second.step = own ∙ ap (λ n. i + r % 2 * n) (sym step) in
      by_slice 3 k r (omega arith) refl ((x + bit_at k 0) ∷ (i + bit_at k 1) ∷ (s + bit_at k 2) ∷ [])
      (λ less.
      let last_bit : s + bit_at k 2 ≡ s = omega (arith, less) in
      (λ p. first_bit p ∷ middle p ∷ last_bit p ∷ [])
      ∙ ap (λ n. (x + k % 2) ∷ after_first n (i + r % 2 * rows.second.step) (j + r / 2 * rows.third.step) s) (sym long))
      (λ most.
      let last_bit : s + bit_at k 2 ≡ s + 1 = omega (arith, most, few) in
      (λ p. first_bit p ∷ middle p ∷ last_bit p ∷ [])
      ∙ ap (λ n. (x + k % 2) ∷ after_first n (i + r % 2 * rows.second.step) (j + r / 2 * rows.third.step) (s + 1)) (sym long))

  four_axes : length v.sizes ≡ 4 → (k : ℕ) → k < 16
      → corner_sign 4 points k x ≡ is_above_at v ((x + bit_at k 0) ∷ (i + bit_at k 1) ∷ (j + bit_at k 2) ∷ (s + bit_at k 3) ∷ [])
  four_axes long k few =
      let first_bit : x + bit_at k 0 ≡ x + k % 2 = omega arith in
      let r : ℕ = k / 2 % 4 in
      let step : rows.second.step ≡ 1 = ap (λ (m : MiddleAxis). m.step) stand.second ∙ step_of 1 4 long in
      let other_step : rows.third.step ≡ 1 = ap (λ (m : MiddleAxis). m.step) stand.third ∙ step_of 2 4 long in
      let own : i + bit_at k 1 ≡ i + r % 2 * 1 = omega arith in
      let other_own : j + bit_at k 2 ≡ j + r / 2 * 1 = omega arith in
      let middle : i + bit_at k 1 ≡ i + r % 2 * rows.second.step = own ∙ ap (λ n. i + r % 2 * n) (sym step) in
      let other_middle : j + bit_at k 2 ≡ j + r / 2 * rows.third.step = other_own ∙ ap (λ n. j + r / 2 * n) (sym other_step) in
      by_slice 4 k r (omega arith) refl ((x + bit_at k 0) ∷ (i + bit_at k 1) ∷ (j + bit_at k 2) ∷ (s + bit_at k 3) ∷ [])
      (λ less.
      let last_bit : s + bit_at k 3 ≡ s = omega (arith, less) in
      (λ p. first_bit p ∷ middle p ∷ other_middle p ∷ last_bit p ∷ [])
      ∙ ap (λ n. (x + k % 2) ∷ after_first n (i + r % 2 * rows.second.step) (j + r / 2 * rows.third.step) s) (sym long))
      (λ most.
      let last_bit : s + bit_at k 3 ≡ s + 1 = omega (arith, most, few) in
      (λ p. first_bit p ∷ middle p ∷ other_middle p ∷ last_bit p ∷ [])
      ∙ ap (λ n. (x + k % 2) ∷ after_first n (i + r % 2 * rows.second.step) (j + r / 2 * rows.third.step) (s + 1)) (sym long))

  pub corner_is : IsDimension (length v.sizes) → (k : ℕ) → k < 2 ^ length v.sizes → corner_sign (length v.sizes) points k x
      ≡ is_above_at v (point (length v.sizes) (λ a. slice_index (x ∷ after_first (length v.sizes) i j s) a + bit_at k a))
  corner_is (inl two) k few =
      ap (λ n. corner_sign n points k x) two ∙ two_axes two k (subst (λ n. k < 2 ^ n) two few)
      ∙ ap (λ n. is_above_at v (point n (λ a. slice_index (x ∷ after_first n i j s) a + bit_at k a))) (sym two)
  corner_is (inr (inl three)) k few =
      ap (λ n. corner_sign n points k x) three ∙ three_axes three k (subst (λ n. k < 2 ^ n) three few)
      ∙ ap (λ n. is_above_at v (point n (λ a. slice_index (x ∷ after_first n i j s) a + bit_at k a))) (sym three)
  corner_is (inr (inr four)) k few =
      ap (λ n. corner_sign n points k x) four ∙ four_axes four k (subst (λ n. k < 2 ^ n) four few)
      ∙ ap (λ n. is_above_at v (point n (λ a. slice_index (x ∷ after_first n i j s) a + bit_at k a))) (sym four)

  -- the number that is put together of the words of signs has the signs of the points
  pub signs_at : IsDimension (length v.sizes) → (w place : ℕ) → place < 64 → 64 * w + place ≡ x → points.kind ≡ v.kind
      → (v.kind ≡ Pyramid → centre_sign points x ≡ is_centre_above v (x ∷ after_first (length v.sizes) i j s))
      → (words : SignWords) → AreSignWords (length v.sizes) points w words
      → (signs : ℕ) → signs ≡ set_of (λ k. is_set (slice_index words.words k) place) words.count
      → AreSignsAt v (x ∷ after_first (length v.sizes) i j s) signs
  signs_at dimension w place low at kinds centre words are signs is = record {
    corners = λ k few.
        bit_is_set (λ n. is_set (slice_index words.words n) place) words.count signs k is (omega (arith, few, are.count))
        ∙ are.corners k few place low ∙ ap (corner_sign (length v.sizes) points k) at ∙ corner_is dimension k few;
    centre = λ pyramid.
        let there = are.centre (kinds ∙ pyramid) in
        bit_is_set (λ n. is_set (slice_index words.words n) place) words.count signs 8 is there.0
        ∙ there.1 place low ∙ ap (centre_sign points) at ∙ centre pyramid;
  }

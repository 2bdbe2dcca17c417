-- Where the rows of a plane stand in a grid of two, three or four axes.
use Rattle.std.proofs.Common.{ap, arith, inl, inr, refl, sym, subst, ◌∙◌}
use Rattle.std.proofs.Math.Nat.{mod-eq_of_lt}
use Rattle.std.specs.Prelude.{ℕ, ◌+◌, ◌-◌, ◌*◌, ◌/◌, ◌%◌, ◌<◌, ◌≡◌, ◌==◌, List, [], ◌∷◌, drop, length, map, slice_index, if◌then◌else◌}
use Rattle.lists.specs.Orders.{numbers}
use Rattle.iso_model.specs.Dimensions.{IsDimension}
use Rattle.iso_model.specs.Values.{sample_number}
use Rattle.edge_middles.specs.RowLists.{row_at, rows_at}
use Rattle.edge_middles.specs.WhatIsThere.{sample_above, sample_below}
use Rattle.edge_middles.proofs.PointsThere.{along_axis}
use Rattle.grid_rows.specs.declared.grids.MiddleAxis.{MiddleAxis}
use Rattle.grid_rows.specs.MiddleAxes.{axis_of, edge_span}

-- the coordinates along the axes after the first of row n
abbrev pub places_of : ℕ → MiddleAxis → ℕ → ℕ → List ℕ
places_of d second height n =
    drop 1 (map (λ axis. if axis + 1 == d then height else slice_index (0 ∷ 2 * (n % edge_span second) ∷ 2 * (n / edge_span second) ∷ []) axis) (numbers d))

-- row n stands where the list of rows says, and the samples at its ends are those of the slices at its ends
pub record StandsByRows (sizes : List ℕ) (d : ℕ) (second third : MiddleAxis) (height n : ℕ) : Type 0 where
  pub row : places_of d second height n ≡ row_at (drop 1 sizes) height n
  pub low : sample_number (drop 1 sizes) (sample_below (places_of d second height n))
      ≡ n % edge_span second / 2 + second.samples * (n / edge_span second / 2) + second.samples * third.samples * (height / 4)
  pub high : sample_number (drop 1 sizes) (sample_above (places_of d second height n))
      ≡ (n % edge_span second + 1) / 2 + second.samples * ((n / edge_span second + 1) / 2) + second.samples * third.samples * ((height + 2) / 4)

low_in_three : (m last i j h : ℕ) → j < 1 → 2 * i / 4 + m * (h + last * 0) ≡ i / 2 + m * (j / 2) + m * 1 * h
low_in_three m last i j h none =
    let start : 2 * i / 4 + m * (h + last * 0) ≡ i / 2 + m * 0 + m * 1 * h = omega arith in
    let zero_half : 0 ≡ j / 2 = omega (arith, none) in
    start ∙ ap (λ k. i / 2 + m * k + m * 1 * h) zero_half

high_in_three : (m last i j h : ℕ) → j < 1 → (2 * i + 2) / 4 + m * (h + last * 0) ≡ (i + 1) / 2 + m * ((j + 1) / 2) + m * 1 * h
high_in_three m last i j h none =
    let start : (2 * i + 2) / 4 + m * (h + last * 0) ≡ (i + 1) / 2 + m * 0 + m * 1 * h = omega arith in
    let zero_half : 0 ≡ (j + 1) / 2 = omega (arith, none) in
    start ∙ ap (λ k. (i + 1) / 2 + m * k + m * 1 * h) zero_half

low_in_four : (m k last i j h : ℕ) → 2 * i / 4 + m * (2 * j / 4 + k * (h + last * 0)) ≡ i / 2 + m * (j / 2) + m * k * h
low_in_four m k last i j h =
    let half : 2 * j / 4 ≡ j / 2 = omega arith in
    let parts : (a : ℕ) → 2 * i / 4 + m * (a + k * (h + last * 0)) ≡ i / 2 + m * a + m * k * h = λ a. omega arith in
    parts (2 * j / 4) ∙ ap (λ a. i / 2 + m * a + m * k * h) half

high_in_four : (m k last i j h : ℕ) → (2 * i + 2) / 4 + m * ((2 * j + 2) / 4 + k * (h + last * 0)) ≡ (i + 1) / 2 + m * ((j + 1) / 2) + m * k * h
high_in_four m k last i j h =
    let half : (2 * j + 2) / 4 ≡ (j + 1) / 2 = omega arith in
    let parts : (a : ℕ) → (2 * i + 2) / 4 + m * (a + k * (h + last * 0)) ≡ (i + 1) / 2 + m * a + m * k * h = λ a. omega arith in
    parts ((2 * j + 2) / 4) ∙ ap (λ a. (i + 1) / 2 + m * a + m * k * h) half

in_two : (n last height row : ℕ) → row < 1 → StandsByRows (n ∷ last ∷ []) 2 (axis_of (n ∷ last ∷ []) 1) (axis_of (n ∷ last ∷ []) 2) height row
in_two n last height row few = record {
  row = refl;
  low = omega (arith, few);
  high = omega (arith, few);
}

in_three : (n m last height row : ℕ) → row < (2 * m - 1) * 1
    → StandsByRows (n ∷ m ∷ last ∷ []) 3 (axis_of (n ∷ m ∷ last ∷ []) 1) (axis_of (n ∷ m ∷ last ∷ []) 2) height row
in_three n m last height row few =
    let along = along_axis (2 * m - 1) 1 row few in record {
      row = refl;
      low = low_in_three m last (row % (2 * m - 1)) (row / (2 * m - 1)) (height / 4) along.1;
      high = high_in_three m last (row % (2 * m - 1)) (row / (2 * m - 1)) ((height + 2) / 4) along.1;
    }

in_four : (n m k last height row : ℕ) → row < (2 * m - 1) * (2 * k - 1)
    → StandsByRows (n ∷ m ∷ k ∷ last ∷ []) 4 (axis_of (n ∷ m ∷ k ∷ last ∷ []) 1) (axis_of (n ∷ m ∷ k ∷ last ∷ []) 2) height row
in_four n m k last height row few =
    let along = along_axis (2 * m - 1) (2 * k - 1) row few in record {
      row = ap (λ j. 2 * (row % (2 * m - 1)) ∷ 2 * j ∷ height ∷ []) (sym (mod-eq_of_lt along.1));
      low = low_in_four m k last (row % (2 * m - 1)) (row / (2 * m - 1)) (height / 4);
      high = high_in_four m k last (row % (2 * m - 1)) (row / (2 * m - 1)) ((height + 2) / 4);
    }

pub stands_by_rows : (sizes : List ℕ) (d height row : ℕ) → length sizes ≡ d → IsDimension d → row < edge_span (axis_of sizes 1) * edge_span (axis_of sizes 2)
    → StandsByRows sizes d (axis_of sizes 1) (axis_of sizes 2) height row
stands_by_rows sizes d height row long (inl e) few =
    subst (λ j. StandsByRows sizes j (axis_of sizes 1) (axis_of sizes 2) height row) (sym e) (two sizes (long ∙ e) few)
  where
    two : (xs : List ℕ) → length xs ≡ 2 → row < edge_span (axis_of xs 1) * edge_span (axis_of xs 2)
        → StandsByRows xs 2 (axis_of xs 1) (axis_of xs 2) height row
    two [] l h = absurd (omega (arith, l))
    two (n ∷ []) l h = absurd (omega (arith, l))
    two (n ∷ last ∷ []) l h = in_two n last height row h
    two (n ∷ m ∷ last ∷ xs) l h = absurd (omega (arith, l))
stands_by_rows sizes d height row long (inr (inl e)) few =
    subst (λ j. StandsByRows sizes j (axis_of sizes 1) (axis_of sizes 2) height row) (sym e) (three sizes (long ∙ e) few)
  where
    three : (xs : List ℕ) → length xs ≡ 3 → row < edge_span (axis_of xs 1) * edge_span (axis_of xs 2)
        → StandsByRows xs 3 (axis_of xs 1) (axis_of xs 2) height row
    three [] l h = absurd (omega (arith, l))
    three (n ∷ []) l h = absurd (omega (arith, l))
    three (n ∷ m ∷ []) l h = absurd (omega (arith, l))
    three (n ∷ m ∷ last ∷ []) l h = in_three n m last height row h
    three (n ∷ m ∷ k ∷ last ∷ xs) l h = absurd (omega (arith, l))
stands_by_rows sizes d height row long (inr (inr e)) few =
    subst (λ j. StandsByRows sizes j (axis_of sizes 1) (axis_of sizes 2) height row) (sym e) (four sizes (long ∙ e) few)
  where
    four : (xs : List ℕ) → length xs ≡ 4 → row < edge_span (axis_of xs 1) * edge_span (axis_of xs 2)
        → StandsByRows xs 4 (axis_of xs 1) (axis_of xs 2) height row
    four [] l h = absurd (omega (arith, l))
    four (n ∷ []) l h = absurd (omega (arith, l))
    four (n ∷ m ∷ []) l h = absurd (omega (arith, l))
    four (n ∷ m ∷ last ∷ []) l h = absurd (omega (arith, l))
    four (n ∷ m ∷ k ∷ last ∷ []) l h = in_four n m k last height row h
    four (n ∷ m ∷ k ∷ last ∷ j ∷ xs) l h = absurd (omega (arith, l))

-- how many rows there are
pub rows_counted : (sizes : List ℕ) → IsDimension (length sizes) → rows_at (drop 1 sizes) ≡ edge_span (axis_of sizes 1) * edge_span (axis_of sizes 2)
rows_counted [] dim = absurd (no_axes dim)
  where
    no_axes : IsDimension 0 → ⊥
    no_axes (inl e) = omega (arith, e)
    no_axes (inr (inl e)) = omega (arith, e)
    no_axes (inr (inr e)) = omega (arith, e)
rows_counted (n ∷ []) dim = absurd (one_axis dim)
  where
    one_axis : IsDimension 1 → ⊥
    one_axis (inl e) = omega (arith, e)
    one_axis (inr (inl e)) = omega (arith, e)
    one_axis (inr (inr e)) = omega (arith, e)
rows_counted (n ∷ last ∷ []) dim = refl
rows_counted (n ∷ m ∷ last ∷ []) dim = refl
rows_counted (n ∷ m ∷ k ∷ last ∷ []) dim = let one : (2 * k - 1) * 1 ≡ 2 * k - 1 = omega arith in ap (λ j. (2 * m - 1) * j) one
rows_counted (n ∷ m ∷ k ∷ last ∷ j ∷ sizes) dim = absurd (many dim)
  where
    many : IsDimension (length (n ∷ m ∷ k ∷ last ∷ j ∷ sizes)) → ⊥
    many (inl e) = omega (arith, e)
    many (inr (inl e)) = omega (arith, e)
    many (inr (inr e)) = omega (arith, e)

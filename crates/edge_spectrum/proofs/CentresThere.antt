-- How many edges to centres are there in a row of midpoints, by the centres and the samples at their ends.
use Rattle.std.proofs.Common.{ap, arith, refl, ◌∙◌}
use Rattle.std.proofs.lemmas.Int.{ints}
use Rattle.std.specs.Prelude.{ℕ, ◌+◌, ◌-◌, ◌*◌, ◌/◌, ◌%◌, ◌<◌, ◌≤◌, ◌≡◌, ◌==◌, Bool, true, false, ◌&&◌, List, [], ◌∷◌, ℤ, pos, ◌+ℤ◌, length}
use Rattle.std.specs.Prelude.{int_le, map, slice_index_or}
use Rattle.lists.proofs.Tests.{of_lt}
use Rattle.iso_model.specs.declared.Kind.TheVariants.{Pyramid}
use Rattle.iso_model.specs.Bipolar.{differ}
use Rattle.iso_model.specs.Turns.{total}
use Rattle.iso_model.specs.Values.{Grid, Volume, cube_samples, is_positive}
use Rattle.edge_middles.specs.GridMiddles.{is_there}
use Rattle.edge_middles.specs.Middles.{joins_centre}
use Rattle.edge_middles.specs.RowLists.{centre_row}
use Rattle.edge_middles.specs.WhatIsThere.{corner_by, has_cube_at, is_above_at, is_centre_above, is_kept_around, sample_below}
use Rattle.edge_middles.proofs.WhatIsThere.{there_at_centre}
use Rattle.edge_spectrum.specs.declared.cubes.Cubes.{Cubes}
use Rattle.edge_spectrum.specs.Counted.{apart_from, cube_total, grid_at, is_centre_above as is_above, reaches, sample}
use Rattle.edge_spectrum.proofs.CountedRows.{count_but_last, count_same, row_length}
use Rattle.edge_spectrum.proofs.WholeGrids.{cube_below, kept_here, none_past}
use Rattle.std.proofs.lemmas.Bool.{and_right}

with_kept : (test kept : Bool) → kept ≡ true → (test && kept) ≡ test
with_kept true kept is = is
with_kept false kept is = refl

corner_place : (n m last x y z : ℕ) → x + n * (y + m * (z + last * 0)) ≡ (y + z * m) * n + x
corner_place n m last x y z = omega arith

-- the samples of a cube
total_of : (a b c d e f g h : ℤ) → a +ℤ (b +ℤ (c +ℤ (d +ℤ (e +ℤ (f +ℤ (g +ℤ (h +ℤ pos 0))))))) ≡ ((a +ℤ b) +ℤ (c +ℤ d)) +ℤ ((e +ℤ f) +ℤ (g +ℤ h))
total_of a b c d e f g h = omega (arith, ints)

cube_corner : (n m last x y z a b c : ℕ) → (x + a) + n * ((y + b) + m * ((z + c) + last * 0)) ≡ ((y + z * m) * n + x) + c * (m * n) + b * n + a
cube_corner n m last x y z a b c = grind arith

pub cube_total_is : (samples : List ℤ) (n m last x y z : ℕ)
    → total (cube_samples (n ∷ m ∷ last ∷ []) samples (x ∷ y ∷ z ∷ [])) ≡ cube_total samples ((y + z * m) * n + x) n (m * n)
cube_total_is samples n m last x y z =
    let first : ℕ = (y + z * m) * n + x in
    let s : (a b c place : ℕ) → first + c * (m * n) + b * n + a ≡ place
    → sample samples ((x + a) + n * ((y + b) + m * ((z + c) + last * 0))) ≡ sample samples place =
    λ a b c place e. ap (sample samples) (cube_corner n m last x y z a b c ∙ e) in
    rw (
      s 0 0 0 first (omega arith),
      s 1 0 0 (first + 1) (omega arith),
      s 0 1 0 (first + n) (omega arith),
      s 1 1 0 (first + n + 1) (omega arith),
      s 0 0 1 (first + m * n) (omega arith),
      s 1 0 1 (first + m * n + 1) (omega arith),
      s 0 1 1 (first + m * n + n) (omega arith),
      s 1 1 1 (first + m * n + n + 1) (omega arith),
    ) (total_of (sample samples first) (sample samples (first + 1)) (sample samples (first + n)) (sample samples (first + n + 1))
    (sample samples (first + m * n)) (sample samples (first + m * n + 1)) (sample samples (first + m * n + n)) (sample samples (first + m * n + n + 1)))

-- the place of the first corner of a row of midpoints, and the row of cubes there
abbrev pub corner_of : ℕ → ℕ → ℕ → ℕ → ℕ
corner_of n m number step = ((number + 1) / 2 + (step + 1) / 2 * m) * n

abbrev pub cubes_of : ℕ → ℕ → ℕ → ℕ → Cubes
cubes_of n m number step = record { first = (number / 2 + step / 2 * m) * n; row = n; slice = m * n; count = n - 1 }

module _ (n m last : ℕ) (samples : List ℤ) (step number : ℕ) (two : 2 ≤ n) (few : number < 2 * (m - 1)) (inside : step / 2 + 1 < last) (iso : ℤ) where
  abbrev pub grid : Grid
  grid = record { sizes = n ∷ m ∷ last ∷ []; samples = samples }

  abbrev pub v : Volume
  v = grid_at Pyramid grid iso

  abbrev pub rest : List ℕ
  rest = (2 * number + 1) ∷ (2 * step + 1) ∷ []

  odd : (k : ℕ) → (2 * k + 1) % 2 ≡ 1
  odd k = omega arith

  joins : joins_centre rest ≡ true
  joins = (λ i. (odd number i == 1) && ((odd step i == 1) && true))

  half : (k : ℕ) → (2 * k + 1) / 4 ≡ k / 2
  half k = omega arith

  cube_there : has_cube_at (m ∷ last ∷ []) (map cube_below rest) ≡ true
  cube_there =
      let one = of_lt (cube_below (2 * number + 1) + 1) m (omega (arith, few)) in
      let other = of_lt (cube_below (2 * step + 1) + 1) last (omega (arith, inside)) in
      λ i. one i && (other i && true)

  kept : (x : ℕ) → x + 1 < n → is_kept_around v rest x ≡ true
  kept x h = kept_here Pyramid grid iso (omega arith) rest x cube_there h

  past : is_kept_around v rest (n - 1) ≡ false
  past = none_past Pyramid grid iso (omega arith) rest (n - 1) (omega (arith, two))

  centre : (x : ℕ) → is_centre_above v (x ∷ sample_below rest) ≡ is_above samples (cubes_of n m number step) iso x
  centre x =
      (λ i. is_positive iso (total (cube_samples (n ∷ m ∷ last ∷ []) samples (x ∷ half number i ∷ half step i ∷ []))))
      ∙ ap (is_positive iso) (cube_total_is samples n m last x (number / 2) (step / 2))

  corner : (x : ℕ) → is_above_at v (x ∷ corner_by rest) ≡ reaches samples iso (corner_of n m number step + x)
  corner x =
      let by : (k : ℕ) → (2 * k + 1 + 1) / 4 ≡ (k + 1) / 2 = λ k. omega arith in
      ap (λ k. int_le iso (slice_index_or samples k (pos 0)))
      ((λ i. x + n * (by number i + m * (by step i + last * 0))) ∙ corner_place n m last x ((number + 1) / 2) ((step + 1) / 2))

  abbrev test : ℕ → ℕ → Bool
  test place x = differ (is_above samples (cubes_of n m number step) iso x) (reaches samples iso (place + x))

  first_there : (x : ℕ) → x < n - 1 → is_there v ((4 * x + 1) ∷ rest) ≡ test (corner_of n m number step) x
  first_there x h =
      (there_at_centre v rest x refl refl joins).0
      ∙ with_kept (differ (is_centre_above v (x ∷ sample_below rest)) (is_above_at v (x ∷ corner_by rest))) (is_kept_around v rest x)
      (kept x (omega (arith, h)))
      ∙ (λ i. differ (centre x i) (corner x i))

  second_there : (x : ℕ) → x < n - 1 → is_there v ((4 * x + 3) ∷ rest) ≡ test (corner_of n m number step + 1) x
  second_there x h =
      let moved : corner_of n m number step + (x + 1) ≡ corner_of n m number step + 1 + x = omega arith in
      (there_at_centre v rest x refl refl joins).1
      ∙ with_kept (differ (is_centre_above v (x ∷ sample_below rest)) (is_above_at v ((x + 1) ∷ corner_by rest))) (is_kept_around v rest x)
      (kept x (omega (arith, h)))
      ∙ (λ i. differ (centre x i) ((corner (x + 1) ∙ ap (reaches samples iso) moved) i))

  no_first : is_there v ((4 * (n - 1) + 1) ∷ rest) ≡ false
  no_first =
      (there_at_centre v rest (n - 1) refl refl joins).0
      ∙ and_right (differ (is_centre_above v ((n - 1) ∷ sample_below rest)) (is_above_at v ((n - 1) ∷ corner_by rest))) (is_kept_around v rest (n - 1)) past

  no_second : is_there v ((4 * (n - 1) + 3) ∷ rest) ≡ false
  no_second =
      (there_at_centre v rest (n - 1) refl refl joins).1
      ∙ and_right (differ (is_centre_above v ((n - 1) ∷ sample_below rest)) (is_above_at v ((n - 1 + 1) ∷ corner_by rest))) (is_kept_around v rest (n - 1))
      past

  pub centres_counted : length (centre_row v rest)
      ≡ apart_from samples (cubes_of n m number step) (corner_of n m number step) (n - 1) iso
      + apart_from samples (cubes_of n m number step) (corner_of n m number step + 1) (n - 1) iso
  centres_counted =
      let one_part = count_but_last (λ x. is_there v ((4 * x + 1) ∷ rest)) n (omega (arith, two)) no_first
      ∙ count_same (λ x. is_there v ((4 * x + 1) ∷ rest)) (test (corner_of n m number step)) (n - 1) first_there in
      let other_part = count_but_last (λ x. is_there v ((4 * x + 3) ∷ rest)) n (omega (arith, two)) no_second
      ∙ count_same (λ x. is_there v ((4 * x + 3) ∷ rest)) (test (corner_of n m number step + 1)) (n - 1) second_there in
      row_length v (λ x. 4 * x + 1) (λ x. 4 * x + 3) rest n ∙ (λ i. one_part i + other_part i)

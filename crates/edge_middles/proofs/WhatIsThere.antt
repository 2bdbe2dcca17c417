-- What it says that an edge is there at a midpoint: of the samples at its ends, and of the cubes around it.
use Rattle.std.proofs.lemmas.Bool.{false_from_ne_true}
use Rattle.std.proofs.Common.{ap, arith, refl, ◌∙◌}
use Rattle.std.proofs.lemmas.Bool.Decides.{nat_tests}
use Rattle.std.proofs.lemmas.Int.{ints}
use Rattle.std.proofs.lemmas.List.Sums.{sum_by-cons}
use Rattle.std.specs.List.{list_all, list_any}
use Rattle.std.specs.Prelude.{suc, Bool, List, [], ◌∷◌, cond, false, true, int_le, length, map, nat_lt, pos, ℕ, ℤ, ◌*ℤ◌}
use Rattle.std.specs.Prelude.{◌*◌, ◌+◌, ◌/◌, ◌%◌, ◌≤◌, ◌&&◌, ◌||◌, ◌==◌, ◌≡◌, if◌then◌else◌}
use Rattle.iso_model.specs.declared.Kind.{Kind}
use Rattle.iso_model.specs.declared.Kind.TheVariants.{Cube, Simplex, Pyramid}
use Rattle.iso_model.specs.Bipolar.{differ, is_bipolar}
use Rattle.iso_model.specs.Cells.{HasDimension}
use Rattle.iso_model.specs.Turns.{total}
use Rattle.iso_model.specs.Values.{Volume, cube_samples, is_positive, positive_at, sample_at, value_at}
use Rattle.iso_model.proofs.SignLaws.{differ-exchanged, either_order}
use Rattle.lists.proofs.MemberLaws.{map-map, map_same}
use Rattle.lists.proofs.Tests.{and_right, of_lt, or_false}
use Rattle.edge_middles.specs.Middles.{axes_along, centre_edge, edge_at, is_middle, joins_centre, joins_samples, sample_edge}
use Rattle.edge_middles.specs.GridMiddles.{is_there, kept_cubes}
use Rattle.edge_middles.specs.HeldMiddles.{holds}
use Rattle.edge_middles.specs.WhatIsThere.{IsThereAtCentre, IsThereInRow, corner_by, cubes_around, goes_first, goes_second, is_above_at, is_centre_above}
use Rattle.edge_middles.specs.WhatIsThere.{is_kept_at, sample_above, sample_below}
use Rattle.edge_middles.proofs.KeptAround.{held_by_kept, kept_at_sample, kept_between}
use Rattle.edge_middles.proofs.RowCounts.{even_and_odd, some_rest}

-- ---- signs of points

same_eighths : (iso s : ℤ) → int_le (pos 8 *ℤ iso) (pos 8 *ℤ s) ≡ int_le iso s
same_eighths iso s = by_case (int_le iso s) refl
  where
    by_case : (t : Bool) → int_le iso s ≡ t → int_le (pos 8 *ℤ iso) (pos 8 *ℤ s) ≡ t
    by_case true e = grind (arith, ints)
    by_case false e = grind (arith, ints)

-- points in half-units, by what they are in samples
doubles_even : (xs : List ℕ) (f : ℕ → ℕ) → list_all (λ c. c % 2 == 0) (map (λ c. 2 * f c) xs) ≡ true
doubles_even [] f = refl
doubles_even (c ∷ xs) f =
    let even : (2 * f c) % 2 ≡ 0 = omega arith in
    λ i. (even i == 0) && doubles_even xs f i

halves : (xs : List ℕ) (f g : ℕ → ℕ) → ((c : ℕ) → f c / 2 ≡ g c) → map (λ c. c / 2) (map f xs) ≡ map g xs
halves xs f g half = map-map f (λ c. c / 2) xs ∙ map_same (λ c. f c / 2) g xs (λ c i. half c)

-- the value of a sample's point
pub sample_value : (v : Volume) (f : ℕ → ℕ) (m : List ℕ)
    → value_at v.sizes v.samples (map (λ c. 2 * f c) m) ≡ pos 8 *ℤ sample_at v.sizes v.samples (map f m)
unfolding value_at
sample_value v f m =
    let even = doubles_even m f in
    let half = halves m (λ c. 2 * f c) f (λ c. omega arith) in
    λ i. if even i then pos 8 *ℤ sample_at v.sizes v.samples (half i) else total (cube_samples v.sizes v.samples (half i))

sample_sign : (v : Volume) (f : ℕ → ℕ) (m : List ℕ) → positive_at v (map (λ c. 2 * f c) m) ≡ is_above_at v (map f m)
sample_sign v f m = ap (is_positive v.iso) (sample_value v f m) ∙ same_eighths v.iso (sample_at v.sizes v.samples (map f m))

odd_first : (c : ℕ) (m : List ℕ) → list_all (λ k. k % 2 == 0) (map (λ k. 2 * (k / 4) + 1) (c ∷ m)) ≡ false
odd_first c m =
    let odd : (2 * (c / 4) + 1) % 2 ≡ 1 = omega arith in
    λ i. (odd i == 0) && list_all (λ k. k % 2 == 0) (map (λ k. 2 * (k / 4) + 1) m)

-- the value of a cube's centre
centre_total : (v : Volume) (c : ℕ) (m : List ℕ)
    → value_at v.sizes v.samples (map (λ k. 2 * (k / 4) + 1) (c ∷ m)) ≡ total (cube_samples v.sizes v.samples (sample_below (c ∷ m)))
unfolding value_at
centre_total v c m =
    let odd = odd_first c m in
    let half = halves (c ∷ m) (λ k. 2 * (k / 4) + 1) (λ k. k / 4) (λ k. omega arith) in
    λ i. if odd i then pos 8 *ℤ sample_at v.sizes v.samples (half i) else total (cube_samples v.sizes v.samples (half i))

pub centre_value_is : (v : Volume) (m : List ℕ) (last : ℕ) → length m ≡ suc last
    → value_at v.sizes v.samples (map (λ k. 2 * (k / 4) + 1) m) ≡ total (cube_samples v.sizes v.samples (sample_below m))
centre_value_is v [] last long = absurd (omega (arith, long))
centre_value_is v (c ∷ m) last long = centre_total v c m

centre_sign : (v : Volume) (c : ℕ) (m : List ℕ) → positive_at v (map (λ k. 2 * (k / 4) + 1) (c ∷ m)) ≡ is_centre_above v (sample_below (c ∷ m))
centre_sign v c m = ap (is_positive v.iso) (centre_total v c m)

-- ---- edges

pub bipolar_samples : (v : Volume) (m : List ℕ) → joins_samples m ≡ true
    → is_bipolar v (edge_at m) ≡ differ (is_above_at v (sample_below m)) (is_above_at v (sample_above m))
bipolar_samples v m even =
    ap (λ t. is_bipolar v (if t then sample_edge m else centre_edge m)) even
    ∙ (λ i. differ (sample_sign v (λ c. c / 4) m i) (sample_sign v (λ c. (c + 2) / 4) m i))

pub bipolar_centre : (v : Volume) (c : ℕ) (m : List ℕ) → joins_samples (c ∷ m) ≡ false
    → is_bipolar v (edge_at (c ∷ m)) ≡ differ (is_centre_above v (sample_below (c ∷ m))) (is_above_at v (corner_by (c ∷ m)))
bipolar_centre v c m odd =
    let p : List ℕ = map (λ k. 2 * ((k + 1) / 4)) (c ∷ m) in
    let q : List ℕ = map (λ k. 2 * (k / 4) + 1) (c ∷ m) in
    ap (λ t. is_bipolar v (if t then sample_edge (c ∷ m) else centre_edge (c ∷ m))) odd
    ∙ either_order v p q ∙ differ-exchanged (positive_at v q) (positive_at v p)
    ∙ (λ i. differ (centre_sign v c m i) (sample_sign v (λ k. (k + 1) / 4) (c ∷ m) i))

-- ---- which midpoints can be in a row

along_first : (x : ℕ) (rest : List ℕ) → axes_along (4 * x ∷ rest) ≡ axes_along rest
along_first x rest =
    let none : (4 * x) % 4 ≡ 0 = omega arith in
    let plain : 0 + axes_along rest ≡ axes_along rest = omega arith in
    sum_by-cons (λ c. cond (c % 4 == 2) 1 0) (4 * x) rest ∙ ap (λ n. cond (n == 2) 1 0 + axes_along rest) none ∙ plain

along_second : (x : ℕ) (rest : List ℕ) → axes_along ((4 * x + 2) ∷ rest) ≡ axes_along rest + 1
along_second x rest =
    let one : (4 * x + 2) % 4 ≡ 2 = omega arith in
    let turned : 1 + axes_along rest ≡ axes_along rest + 1 = omega arith in
    sum_by-cons (λ c. cond (c % 4 == 2) 1 0) (4 * x + 2) rest ∙ ap (λ n. cond (n == 2) 1 0 + axes_along rest) one ∙ turned

even_first : (c : ℕ) (rest : List ℕ) → c % 2 ≡ 0 → joins_samples rest ≡ true → joins_samples (c ∷ rest) ≡ true
even_first c rest even all = λ i. (even i == 0) && all i

first_middle : (kind : Kind) (x : ℕ) (rest : List ℕ) → 1 ≤ length rest → joins_samples rest ≡ true → is_middle kind (4 * x ∷ rest) ≡ goes_first kind rest
first_middle Cube x rest some even = λ i. even_first (4 * x) rest (omega arith) even i && (along_first x rest i == 1)
first_middle Simplex x rest some even = λ i. even_first (4 * x) rest (omega arith) even i && nat_lt 0 (along_first x rest i)
first_middle Pyramid x rest some even =
    (λ i. (even_first (4 * x) rest (omega arith) even i && (along_first x rest i == 1)) || no_centre (4 * x) rest some even i)
    ∙ or_false (axes_along rest == 1)
  where
    no_centre : (c : ℕ) (rest : List ℕ) → 1 ≤ length rest → joins_samples rest ≡ true → joins_centre (c ∷ rest) ≡ false
    no_centre c rest some even = false_from_ne_true (joins_centre (c ∷ rest)) (λ t. even_and_odd rest some even (and_right (c % 2 == 1) (joins_centre rest) t))

next_one : (n : ℕ) → (n + 1 == 1) ≡ (n == 0)
next_one n = grind (arith, nat_tests)

second_middle : (kind : Kind) (x : ℕ) (rest : List ℕ) → 1 ≤ length rest → joins_samples rest ≡ true
    → is_middle kind ((4 * x + 2) ∷ rest) ≡ goes_second kind rest
second_middle Cube x rest some even =
    (λ i. even_first (4 * x + 2) rest (omega arith) even i && (along_second x rest i == 1)) ∙ next_one (axes_along rest)
second_middle Simplex x rest some even =
    let more : nat_lt 0 (axes_along rest + 1) ≡ true = of_lt 0 (axes_along rest + 1) (omega arith) in
    (λ i. even_first (4 * x + 2) rest (omega arith) even i && nat_lt 0 (along_second x rest i)) ∙ more
second_middle Pyramid x rest some even =
    (λ i. (even_first (4 * x + 2) rest (omega arith) even i && (along_second x rest i == 1)) || no_centre i)
    ∙ or_false (axes_along rest + 1 == 1) ∙ next_one (axes_along rest)
  where
    no_centre : joins_centre ((4 * x + 2) ∷ rest) ≡ false
    no_centre = false_from_ne_true (joins_centre ((4 * x + 2) ∷ rest))
        (λ t. even_and_odd rest some even (and_right ((4 * x + 2) % 2 == 1) (joins_centre rest) t))

-- ---- what is there

arranged : (a b c : Bool) → ((a && b) && c) ≡ (a && (c && b))
arranged false b c = refl
arranged true false false = refl
arranged true false true = refl
arranged true true false = refl
arranged true true true = refl

there_by : (v : Volume) (m : List ℕ) → length m ≡ length v.sizes
    → is_there v m ≡ (is_middle v.kind m && (is_bipolar v (edge_at m) && list_any (is_kept_at v) (cubes_around m)))
there_by v m long =
    arranged (is_middle v.kind m) (list_any (λ x. holds x m) (kept_cubes v)) (is_bipolar v (edge_at m))
    ∙ ap (λ t. is_middle v.kind m && (is_bipolar v (edge_at m) && t)) (held_by_kept v m long)

pub there_in_row : (v : Volume) (rest : List ℕ) (x : ℕ) → HasDimension v.kind (length v.sizes) → IsThereInRow v rest x
there_in_row v rest x fits row even =
    let some : 1 ≤ length rest = some_rest v rest fits row in
    let below : 4 * x / 4 ≡ x = omega arith in
    let above : (4 * x + 2) / 4 ≡ x = omega arith in
    let next : (4 * x + 2 + 2) / 4 ≡ x + 1 = omega arith in
    let first = bipolar_samples v (4 * x ∷ rest) (even_first (4 * x) rest (omega arith) even)
    ∙ (λ i. differ (is_above_at v (below i ∷ sample_below rest)) (is_above_at v (above i ∷ sample_above rest))) in
    let second = bipolar_samples v ((4 * x + 2) ∷ rest) (even_first (4 * x + 2) rest (omega arith) even)
    ∙ (λ i. differ (is_above_at v (above i ∷ sample_below rest)) (is_above_at v (next i ∷ sample_above rest))) in (
      there_by v (4 * x ∷ rest) row ∙ (λ i. first_middle v.kind x rest some even i && (first i && kept_at_sample v x rest i)),
      there_by v ((4 * x + 2) ∷ rest) row
          ∙ (λ i. second_middle v.kind x rest some even i && (second i && kept_between v (4 * x + 2) x rest (omega arith) (omega arith) i)),
    )

odd_at : (c : ℕ) (rest : List ℕ) → c % 2 ≡ 1 → joins_centre rest ≡ true → joins_centre (c ∷ rest) ≡ true
odd_at c rest odd all = λ i. (odd i == 1) && all i

-- a point at odd coordinates is none between samples
pub no_samples_in : (m : List ℕ) (last : ℕ) → joins_centre m ≡ true → length m ≡ suc last → joins_samples m ≡ false
no_samples_in m last odd long = false_from_ne_true (joins_samples m) (λ even. even_and_odd m (omega (arith, long)) even odd)

no_samples : (c : ℕ) (rest : List ℕ) → c % 2 ≡ 1 → joins_samples (c ∷ rest) ≡ false
no_samples c rest odd = λ i. (odd i == 0) && joins_samples rest

centre_middle : (kind : Kind) (c : ℕ) (rest : List ℕ) → kind ≡ Pyramid → c % 2 ≡ 1 → joins_centre rest ≡ true → is_middle kind (c ∷ rest) ≡ true
centre_middle kind c rest is odd all =
    ap (λ k. is_middle k (c ∷ rest)) is
    ∙ (λ i. (no_samples c rest odd i && (axes_along (c ∷ rest) == 1)) || odd_at c rest odd all i)

pub there_at_centre : (v : Volume) (rest : List ℕ) (x : ℕ) → IsThereAtCentre v rest x
there_at_centre v rest x is row odd =
    let first : ℕ = 4 * x + 1 in
    let second : ℕ = 4 * x + 3 in
    let below : first / 4 ≡ x = omega arith in
    let over : second / 4 ≡ x = omega arith in
    let near : (first + 1) / 4 ≡ x = omega arith in
    let far : (second + 1) / 4 ≡ x + 1 = omega arith in
    let low = bipolar_centre v first rest (no_samples first rest (omega arith))
    ∙ (λ i. differ (is_centre_above v (below i ∷ sample_below rest)) (is_above_at v (near i ∷ corner_by rest))) in
    let high = bipolar_centre v second rest (no_samples second rest (omega arith))
    ∙ (λ i. differ (is_centre_above v (over i ∷ sample_below rest)) (is_above_at v (far i ∷ corner_by rest))) in (
      there_by v (first ∷ rest) row
          ∙ (λ i. centre_middle v.kind first rest is (omega arith) odd i && (low i && kept_between v first x rest (omega arith) (omega arith) i)),
      there_by v (second ∷ rest) row
          ∙ (λ i. centre_middle v.kind second rest is (omega arith) odd i && (high i && kept_between v second x rest (omega arith) (omega arith) i)),
    )

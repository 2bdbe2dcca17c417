-- One row of cubes more: what it reads is there, and what it adds are its mixed cubes.
use Rattle.std.proofs.Common.{◌≡◌, ℕ, zero, suc, ◌+◌, ◌-◌, ◌*◌, ◌/◌, ◌%◌, ◌^◌, ◌<◌, ◌≤◌, List, [], ◌∷◌, ◌++◌, length, take, refl, sym, ap, ◌∙◌, arith, ℤ}
use Rattle.std.specs.Prelude.{map, filter, slice_index, All, Contains}
use Rattle.std.specs.List.{range_with_len}
use Rattle.std.proofs.Math.Nat.{mul-le-mul_left, mul-le-mul_right}
use Rattle.std.proofs.lemmas.Nat.{div-mul-add, mod-mul-add}
use Rattle.std.proofs.lemmas.List.{get_or-take, length-take-le, map-append}
use Rattle.std.proofs.lemmas.List.Elements.{filter-append}
use Rattle.std.proofs.lemmas.List.FromFn.{length-range_with_len, get_or-range_with_len, get_or-map-range_with_len, length-map-range_with_len}
use Rattle.lists.specs.Orders.{numbers}
use Rattle.iso_model.specs.Splits.{cube_count, cube_at}
use Rattle.iso_model.specs.Values.{Grid, product, sample_number}
use Rattle.split_laws.proofs.Coordinates.{lists_same}
use Rattle.mixed_cubes.specs.Mixed.{is_mixed}
use Rattle.mixed_cubes.specs.declared.cubes.CubePlace.{CubePlace}
use Rattle.mixed_cubes.specs.CubePlaces.{place_of, place_in_row}
use Rattle.mixed_cubes.specs.CubeFaces.{corner_number, face_steps, is_mixed_from}
use Rattle.mixed_cubes.proofs.AxisSteps.{parts, cubes_below}
use Rattle.mixed_cubes.proofs.CubeFaces.{corner_inside, row_cube}
use Rattle.mixed_cubes.proofs.SampleRows.{range_joined}
use Rattle.lists.proofs.Contained.{Contains-head, Contains-tail, Contains-filter, filter-same}

-- ---- the steps of a face

eight : (l : ℕ) → l ≤ 3 → (1 * 2 ^ l % 18446744073709551616 ≡ 2 ^ l) × (2 ^ l ≤ 8)
eight zero h = (refl, omega arith)
eight (suc zero) h = (refl, omega arith)
eight (suc (suc zero)) h = (refl, omega arith)
eight (suc (suc (suc zero))) h = (refl, omega arith)
eight (suc (suc (suc (suc l)))) h = absurd (omega (arith, h))

pub steps_inside : (l : ℕ) (corners : List ℕ) → l ≤ 3 → length corners ≡ 8 → 1 * 2 ^ l % 18446744073709551616 ≤ length corners
steps_inside l corners few long = let e = eight l few in omega (arith, e.0, e.1, long)

pub steps_long : (l : ℕ) (corners : List ℕ) → l ≤ 3 → length corners ≡ 8
    → 1 * 2 ^ l % 18446744073709551616 ≡ length (take (1 * 2 ^ l % 18446744073709551616) corners)
steps_long l corners few long = sym (length-take-le (1 * 2 ^ l % 18446744073709551616) corners (steps_inside l corners few long))

step_at : (n : ℕ) (others : List ℕ) (k : ℕ) → k < 2 ^ length others → slice_index (face_steps n others) k ≡ n * corner_number others k
step_at n others k h = get_or-map-range_with_len (λ j. n * corner_number others j) 0 (2 ^ length others) k k 0 h (omega arith)

pub steps_are : (n : ℕ) (others corners : List ℕ) → length corners ≡ 8 → length others ≤ 3
    → ((k : ℕ) → k < 8 → slice_index corners k ≡ n * corner_number others k) →
    take (1 * 2 ^ length others % 18446744073709551616) corners ≡ face_steps n others
steps_are n others corners long few at =
    let e = eight (length others) few in
    let front : length (take (2 ^ length others) corners) ≡ 2 ^ length others = length-take-le (2 ^ length others) corners (omega (arith, e.1, long)) in
    ap (λ (m : ℕ). take m corners) e.0
    ∙ lists_same (take (2 ^ length others) corners) (face_steps n others)
    (front ∙ sym (length-map-range_with_len (λ k. n * corner_number others k) 0 (2 ^ length others))) (λ k h.
    let below : k < 2 ^ length others = omega (arith, h, front) in
    get_or-take (2 ^ length others) corners k 0 below ∙ at k (omega (arith, below, e.1)) ∙ sym (step_at n others k below))

-- ---- what a row reads

row_reach : (n s c p : ℕ) → 1 ≤ n → s + c < p → n * s + (n - 1) + n * c < n * p
row_reach n s c p some h =
    let more : n * (s + c + 1) ≤ n * p = mul-le-mul_left n (omega (arith, h)) in
    omega (arith, more, some)

pub row_inside : (n : ℕ) (others : List ℕ) (row k first count : ℕ) → All (λ m. 1 ≤ m) (n ∷ others) → row < cube_count others
    → first ≡ sample_number others (cube_at others row) → count ≡ product (n ∷ others) →
    k < length (face_steps n others) → n * first + (n - 1) + slice_index (face_steps n others) k < count
row_inside n others row k first count sized hr at all hk =
    let p = parts n others sized in
    let below : k < 2 ^ length others = omega (arith, hk, length-map-range_with_len (λ j. n * corner_number others j) 0 (2 ^ length others)) in
    let reach : n * sample_number others (cube_at others row) + (n - 1) + n * corner_number others k < n * product others =
    row_reach n (sample_number others (cube_at others row)) (corner_number others k) (product others) p.some (corner_inside others row k p.sized hr) in
    rw (at, step_at n others k below, all) (omega (arith, reach, p.whole))

pub row_first : (n : ℕ) (others : List ℕ) (first count : ℕ) → All (λ m. 1 ≤ m) (n ∷ others) → first < product others → count ≡ product (n ∷ others)
    → n * first + (n - 1) < count
row_first n others first count sized below all =
    let p = parts n others sized in
    let reach : n * first + (n - 1) + n * 0 < n * product others = row_reach n first 0 (product others) p.some (omega (arith, below)) in
    omega (arith, reach, p.whole, all)

pub row_numbers : (n : ℕ) (others : List ℕ) (row rows : ℕ) → All (λ m. 1 ≤ m) (n ∷ others) → row < rows → rows ≤ product others
    → product (n ∷ others) ≤ 134217728 → row * (n - 1) + (n - 1) ≤ 134217728
row_numbers n others row rows sized h below few =
    let p = parts n others sized in
    let next : (row + 1) * (n - 1) ≤ product others * (n - 1) = mul-le-mul_right (n - 1) (omega (arith, h, below)) in
    let most : (n - 1) * product others ≤ n * product others = cubes_below n (product others) (product others) (omega arith) in
    omega (arith, next, most, p.whole, few)

-- ---- what a row adds

in_range : (a n c : ℕ) → Contains (range_with_len a n) c → (k : ℕ) × (k < n) × (c ≡ a + k)
in_range a n c m =
    let below : m.0 < n = let h : m.0 < length (range_with_len a n) = m.1 in omega (arith, h, length-range_with_len a n) in
    (m.0, below, sym m.2 ∙ get_or-range_with_len a n m.0 c below)

mapped_same : {X : Type 0} (f g : ℕ → X) (xs : List ℕ) → ((c : ℕ) → Contains xs c → f c ≡ g c) → map f xs ≡ map g xs
mapped_same f g [] same = refl
mapped_same f g (x ∷ xs) same = rw (same x (Contains-head x xs), mapped_same f g xs (λ c m. same c (Contains-tail c x xs m))) refl

abbrev place_at : ℕ → ℕ → CubePlace
place_at number sample = record { number = number; sample = sample }

-- the cube at place x of a row: its first sample is as far from that of the row
stands : (n : ℕ) (others : List ℕ) (row first x c : ℕ) → x < n - 1 → c ≡ row * (n - 1) + x → first ≡ sample_number others (cube_at others row)
    → place_in_row (n * first) (row * (n - 1)) c ≡ place_of (n ∷ others) c
stands n others row first x c h at is =
    let gone : n * first + (c - row * (n - 1)) ≡ x + n * sample_number others (cube_at others row) =
    ap (λ (k : ℕ). n * k + (c - row * (n - 1))) is
    ∙ (let same : c - row * (n - 1) ≡ x = omega (arith, at) in ap (λ (k : ℕ). n * sample_number others (cube_at others row) + k) same)
    ∙ turned (n * sample_number others (cube_at others row)) x in
    let low : c % (n - 1) ≡ x = ap (λ (k : ℕ). k % (n - 1)) at ∙ mod-mul-add row (n - 1) x h in
    let high : c / (n - 1) ≡ row = ap (λ (k : ℕ). k / (n - 1)) at ∙ div-mul-add row (n - 1) x h in
    let there : sample_number (n ∷ others) (cube_at (n ∷ others) c) ≡ x + n * sample_number others (cube_at others row) = rw (low, high) refl in
    ap (place_at c) (gone ∙ sym there)
  where
    turned : (a b : ℕ) → a + b ≡ b + a
    turned a b = omega arith

pub next_row : (iso : ℤ) (n : ℕ) (others : List ℕ) (samples : List ℤ) (row first : ℕ) (steps : List ℕ) (items new : List CubePlace)
    → first ≡ sample_number others (cube_at others row) → steps ≡ face_steps n others →
    items ≡ map (place_of (n ∷ others)) (filter (is_mixed (record { sizes = n ∷ others; samples = samples }) iso) (numbers (row * (n - 1)))) →
    new
    ≡ items
    ++ map (place_in_row (n * first) (row * (n - 1)))
    (filter (λ c. is_mixed_from iso samples steps (n * first + (c - row * (n - 1)))) (range_with_len (row * (n - 1)) (n - 1)))
    →
    new ≡ map (place_of (n ∷ others)) (filter (is_mixed (record { sizes = n ∷ others; samples = samples }) iso) (numbers ((row + 1) * (n - 1))))
next_row iso n others samples row first steps items new at are before after =
    let g : Grid = record { sizes = n ∷ others; samples = samples } in
    let range : List ℕ = range_with_len (row * (n - 1)) (n - 1) in
    let f : ℕ → CubePlace = place_of (n ∷ others) in
    let here : filter (λ c. is_mixed_from iso samples steps (n * first + (c - row * (n - 1)))) range ≡ filter (is_mixed g iso) range =
    filter-same (λ c. is_mixed_from iso samples steps (n * first + (c - row * (n - 1)))) (is_mixed g iso) range (λ c m.
    let x = in_range (row * (n - 1)) (n - 1) c m in
    let place : n * first + (c - row * (n - 1)) ≡ n * sample_number others (cube_at others row) + x.0 =
    ap (λ (k : ℕ). n * k + (c - row * (n - 1))) at
    ∙ (let same : c - row * (n - 1) ≡ x.0 = omega (arith, x.2) in ap (λ (k : ℕ). n * sample_number others (cube_at others row) + k) same) in
    ap (λ (s : List ℕ). is_mixed_from iso samples s (n * first + (c - row * (n - 1)))) are
    ∙ ap (is_mixed_from iso samples (face_steps n others)) place
    ∙ row_cube iso n others samples row x.0 x.1
    ∙ ap (is_mixed g iso) (sym x.2)) in
    let placed : map (place_in_row (n * first) (row * (n - 1))) (filter (is_mixed g iso) range) ≡ map f (filter (is_mixed g iso) range) =
    mapped_same (place_in_row (n * first) (row * (n - 1))) f (filter (is_mixed g iso) range) (λ c m.
    let x = in_range (row * (n - 1)) (n - 1) c (Contains-filter (is_mixed g iso) range c m) in
    stands n others row first x.0 c x.1 x.2 at) in
    let start : 0 + row * (n - 1) ≡ row * (n - 1) = omega arith in
    let whole : row * (n - 1) + (n - 1) ≡ (row + 1) * (n - 1) = omega arith in
    after
    ∙ ap
    (λ (xs : List CubePlace).
    xs
    ++ map (place_in_row (n * first) (row * (n - 1)))
    (filter (λ c. is_mixed_from iso samples steps (n * first + (c - row * (n - 1)))) range))
    before
    ∙ ap (λ (xs : List ℕ). map f (filter (is_mixed g iso) (numbers (row * (n - 1)))) ++ map (place_in_row (n * first) (row * (n - 1))) xs) here
    ∙ ap (λ (xs : List CubePlace). map f (filter (is_mixed g iso) (numbers (row * (n - 1)))) ++ xs) placed
    ∙ sym (map-append f (filter (is_mixed g iso) (numbers (row * (n - 1)))) (filter (is_mixed g iso) range))
    ∙ ap (map f) (sym (filter-append (is_mixed g iso) (numbers (row * (n - 1))) range))
    ∙ ap (λ (k : ℕ). map f (filter (is_mixed g iso) (numbers (row * (n - 1)) ++ range_with_len k (n - 1)))) (sym start)
    ∙ ap (λ (xs : List ℕ). map f (filter (is_mixed g iso) xs)) (sym (range_joined 0 (row * (n - 1)) (n - 1)) ∙ ap numbers whole)

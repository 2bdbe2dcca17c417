-- What is read of a cube's samples.
use Rattle.std.proofs.Common.{◌≡◌, ℕ, zero, suc, ◌+◌, ◌*◌, ◌/◌, ◌%◌, ◌^◌, ◌<◌, ◌≤◌, List, [], ◌∷◌, length, take, refl, ap, sym, ◌∙◌, arith, ℤ}
use Rattle.std.proofs.Common.{pos, ◌+ℤ◌, ◌*ℤ◌, int_le}
use Rattle.std.specs.Prelude.{All, map, slice_index, slice_index_or, unsigned_abs}
use Rattle.std.specs.Int.{bit_at}
use Rattle.std.proofs.lemmas.Int.{ints}
use Rattle.std.proofs.lemmas.List.{take_more, map-append, get_or-take, length-take-le}
use Rattle.std.proofs.lemmas.List.FromFn.{get_or-map-range_with_len, length-map-range_with_len}
use Rattle.lists.specs.Orders.{numbers}
use Rattle.iso_model.specs.Points.{point}
use Rattle.iso_model.specs.Turns.{total}
use Rattle.iso_model.specs.Splits.{cube_count, cube_at}
use Rattle.iso_model.specs.Values.{Grid, product, sample_number, sample_at, cube_samples, is_positive}
use Rattle.split_laws.proofs.Coordinates.{lists_same, coordinate, length-point, length-cube_at}
use Rattle.mixed_cubes.specs.CubeFaces.{corner_number, face_samples}
use Rattle.mixed_cubes.proofs.CubeFaces.{corner_sample_number, corner_inside, by_coordinates, map_twice}
use Rattle.mixed_cubes.proofs.OneSign.{eighths, halves, even_value, odd_value, halves_are}
use Rattle.cube_cells.specs.SignedCubes.{is_positive_at}
use Rattle.cube_cells.specs.CubePoints.{corner_sample}
use Rattle.iso_model.proofs.PointLaws.{total-append}

-- ---- the sum of samples, one by one

-- no sample has more than 32 bits beside its sign
pub small_sample : (samples : List ℤ) (i : ℕ) → All (λ s. unsigned_abs s ≤ 2 ^ 32) samples → i < length samples
    → unsigned_abs (slice_index_or samples i (pos 0)) ≤ 2 ^ 32
small_sample samples i small h = small i (pos 0) h

pub sum_is : (samples : List ℤ) (steps : List ℕ) (first i : ℕ) (sum : ℤ) → i < length steps → sum ≡ total (face_samples samples (take i steps) first) →
    sum +ℤ slice_index_or samples (first + slice_index steps i) (pos 0) ≡ total (face_samples samples (take (i + 1) steps) first)
sum_is samples steps first i sum h before =
    let f : ℕ → ℤ = λ step. slice_index_or samples (first + step) (pos 0) in
    let s : ℤ = f (slice_index steps i) in
    let last : total (s ∷ []) ≡ s = alone s in
    ap (λ (z : ℤ). z +ℤ s) before ∙ ap (λ (z : ℤ). total (map f (take i steps)) +ℤ z) (sym last)
    ∙ sym (total-append (map f (take i steps)) (s ∷ [])) ∙ ap total (sym (map-append f (take i steps) (slice_index steps i ∷ [])))
    ∙ ap (λ (xs : List ℕ). total (map f xs)) (sym (take_more steps i 0 h))
  where
    alone : (z : ℤ) → z +ℤ pos 0 ≡ z
    alone z = omega (arith, ints)

pub sum_small : (sum s : ℤ) (i : ℕ) → unsigned_abs sum ≤ i * 4294967296 → unsigned_abs s ≤ 2 ^ 32 → unsigned_abs (sum +ℤ s) ≤ (i + 1) * 4294967296
sum_small sum s i before small = omega (arith, ints)

-- ---- the values of a cube's points

-- a corner is positive where its sample is at least the isovalue
pub corner_read : (g : Grid) (iso : ℤ) (x : List ℕ) (k : ℕ) → length x ≡ length g.sizes →
    is_positive_at g iso (point (length g.sizes) (λ i. 2 * slice_index x i + 2 * bit_at k i))
    ≡ int_le iso (slice_index_or g.samples (sample_number g.sizes x + corner_number g.sizes k) (pos 0))
corner_read g iso x k long =
    let d : ℕ = length g.sizes in
    let p : List ℕ = point d (λ i. 2 * slice_index x i + 2 * bit_at k i) in
    let even : (i : ℕ) → i < length p → slice_index p i % 2 ≡ 0 = λ i h.
    ap (λ (c : ℕ). c % 2)
    (coordinate d (λ i. 2 * slice_index x i + 2 * bit_at k i) i (omega (arith, h, length-point d (λ i. 2 * slice_index x i + 2 * bit_at k i))))
    ∙ even_sum (slice_index x i) (bit_at k i) in
    let half : halves p ≡ point d (λ i. slice_index x i + bit_at k i) =
    halves_are d (λ i. 2 * slice_index x i + 2 * bit_at k i) (λ i. slice_index x i + bit_at k i) (λ i h. half_sum (slice_index x i) (bit_at k i)) in
    let number : sample_number g.sizes (halves p) ≡ sample_number g.sizes x + corner_number g.sizes k =
    ap (sample_number g.sizes) half ∙ corner_sample_number g.sizes x k long in
    let s : ℤ = sample_at g.sizes g.samples (halves p) in
    ap (is_positive iso) (even_value g.sizes g.samples p even) ∙ eighths iso s (int_le iso s) refl
    ∙ ap (λ (n : ℕ). int_le iso (slice_index_or g.samples n (pos 0))) number
  where
    even_sum : (a c : ℕ) → (2 * a + 2 * c) % 2 ≡ 0
    even_sum a c = omega arith

    half_sum : (a c : ℕ) → (2 * a + 2 * c) / 2 ≡ a + c
    half_sum a c = omega arith

-- the centre is positive where the sum of the samples is at least 8 times the isovalue
pub centre_read : (g : Grid) (iso : ℤ) (x : List ℕ) → length x ≡ length g.sizes → length g.sizes ≡ 3
    → is_positive_at g iso (point 3 (λ i. 2 * slice_index x i + 1)) ≡ int_le (pos 8 *ℤ iso) (total (cube_samples g.sizes g.samples x))
centre_read g iso x long three =
    let p : List ℕ = point 3 (λ i. 2 * slice_index x i + 1) in
    let odd : slice_index p 0 % 2 ≡ 1 = odd_one (slice_index x 0) in
    let half : halves p ≡ point 3 (λ i. slice_index x i) =
    halves_are 3 (λ i. 2 * slice_index x i + 1) (λ i. slice_index x i) (λ i h. half_one (slice_index x i)) in
    ap (is_positive iso) (odd_value g.sizes g.samples p (omega arith) odd)
    ∙ ap (λ (y : List ℕ). is_positive iso (total (cube_samples g.sizes g.samples y))) (half ∙ by_coordinates x 3 (long ∙ three))
  where
    odd_one : (a : ℕ) → (2 * a + 1) % 2 ≡ 1
    odd_one a = omega arith

    half_one : (a : ℕ) → (2 * a + 1) / 2 ≡ a
    half_one a = omega arith

-- ---- the steps to a cube's corners

sixteen : (d : ℕ) → d ≤ 4 → (1 * 2 ^ d % 18446744073709551616 ≡ 2 ^ d) × (2 ^ d ≤ 16)
sixteen zero h = (refl, omega arith)
sixteen (suc zero) h = (refl, omega arith)
sixteen (suc (suc zero)) h = (refl, omega arith)
sixteen (suc (suc (suc zero))) h = (refl, omega arith)
sixteen (suc (suc (suc (suc zero)))) h = (refl, omega arith)
sixteen (suc (suc (suc (suc (suc d))))) h = absurd (omega (arith, h))

pub few_steps : (d : ℕ) → d ≤ 4 → 2 ^ d ≤ 16
few_steps d few = let s = sixteen d few in s.1

pub steps_there : (d : ℕ) → d ≤ 4 → 1 * 2 ^ d % 18446744073709551616 ≤ 16
steps_there d few = let s = sixteen d few in omega (arith, s.0, s.1)

pub step_to : (sizes : List ℕ) (k : ℕ) → k < 2 ^ length sizes → slice_index (map (corner_number sizes) (numbers (2 ^ length sizes))) k ≡ corner_number sizes k
step_to sizes k h = get_or-map-range_with_len (corner_number sizes) 0 (2 ^ length sizes) k k 0 h (omega arith)

-- the first steps of a grid are those to the corners of a cube
pub steps_are : (sizes steps : List ℕ) (d : ℕ) → length sizes ≡ d → d ≤ 4 → length steps ≡ 16
    → ((k : ℕ) → k < 2 ^ length sizes → slice_index steps k ≡ corner_number sizes k) →
    take (1 * 2 ^ d % 18446744073709551616) steps ≡ map (corner_number sizes) (numbers (2 ^ length sizes))
steps_are sizes steps d axes few long at =
    let s = sixteen d few in
    let n : ℕ = 2 ^ length sizes in
    let count : 1 * 2 ^ d % 18446744073709551616 ≡ n = s.0 ∙ ap (λ (m : ℕ). 2 ^ m) (sym axes) in
    let front : length (take n steps) ≡ n = length-take-le n steps (omega (arith, s.0, s.1, count, long)) in
    ap (λ (m : ℕ). take m steps) count
    ∙ lists_same (take n steps) (map (corner_number sizes) (numbers n)) (front ∙ sym (length-map-range_with_len (corner_number sizes) 0 n)) (λ k h.
    let below : k < n = omega (arith, h, front) in
    get_or-take n steps k 0 below ∙ at k below ∙ sym (step_to sizes k below))

pub steps_long : (sizes : List ℕ) → length (map (corner_number sizes) (numbers (2 ^ length sizes))) ≡ 2 ^ length sizes
steps_long sizes = length-map-range_with_len (corner_number sizes) 0 (2 ^ length sizes)

-- those steps lead to samples of the grid
pub steps_inside : (g : Grid) (number first : ℕ) (steps : List ℕ) → All (λ n. 1 ≤ n) g.sizes → length g.samples ≡ product g.sizes
    → number < cube_count g.sizes → first ≡ sample_number g.sizes (cube_at g.sizes number)
    → steps ≡ map (corner_number g.sizes) (numbers (2 ^ length g.sizes)) →
    (k : ℕ) → k < length steps → first + slice_index steps k < length g.samples
steps_inside g number first steps some there below at are k h =
    let n : ℕ = 2 ^ length g.sizes in
    let inside : k < n = omega (arith, h, ap length are, steps_long g.sizes) in
    let step : slice_index steps k ≡ corner_number g.sizes k = ap (λ (xs : List ℕ). slice_index xs k) are ∙ step_to g.sizes k inside in
    omega (arith, corner_inside g.sizes number k some below, step, at, there)

-- the samples at those steps are the samples of the cube
pub samples_are : (sizes : List ℕ) (samples : List ℤ) (x : List ℕ) → length x ≡ length sizes
    → face_samples samples (map (corner_number sizes) (numbers (2 ^ length sizes))) (sample_number sizes x) ≡ cube_samples sizes samples x
samples_are sizes samples x long =
    sym (map_twice (λ k. sample_at sizes samples (point (length sizes) (λ i. slice_index x i + bit_at k i)))
    (λ step. slice_index_or samples (sample_number sizes x + step) (pos 0)) (corner_number sizes)
    (λ k. ap (λ (n : ℕ). slice_index_or samples n (pos 0)) (corner_sample_number sizes x k long)) (numbers (2 ^ length sizes)))

-- ---- the signs of a cube's points

pub cube_corner : (g : Grid) (iso : ℤ) (number first k : ℕ) (place steps : List ℕ) (samples : List ℤ) → samples ≡ g.samples
    → place ≡ cube_at g.sizes number → first ≡ sample_number g.sizes (cube_at g.sizes number)
    → steps ≡ map (corner_number g.sizes) (numbers (2 ^ length g.sizes)) → k < 2 ^ length g.sizes →
    int_le iso (corner_sample samples steps first k) ≡ is_positive_at g iso (point (length g.sizes) (λ i. 2 * slice_index place i + 2 * bit_at k i))
cube_corner g iso number first k place steps samples all stands at are h =
    let x : List ℕ = cube_at g.sizes number in
    let step : slice_index steps k ≡ corner_number g.sizes k = ap (λ (xs : List ℕ). slice_index xs k) are ∙ step_to g.sizes k h in
    ap (λ (ss : List ℤ). int_le iso (corner_sample ss steps first k)) all
    ∙ ap (λ (n : ℕ). int_le iso (slice_index_or g.samples (n + slice_index steps k) (pos 0))) at
    ∙ ap (λ (n : ℕ). int_le iso (slice_index_or g.samples (sample_number g.sizes x + n) (pos 0))) step
    ∙ sym (corner_read g iso x k (length-cube_at g.sizes number))
    ∙ ap (λ (y : List ℕ). is_positive_at g iso (point (length g.sizes) (λ i. 2 * slice_index y i + 2 * bit_at k i))) (sym stands)

pub cube_centre : (g : Grid) (iso : ℤ) (number first : ℕ) (place steps : List ℕ) (samples : List ℤ) → samples ≡ g.samples
    → place ≡ cube_at g.sizes number → first ≡ sample_number g.sizes (cube_at g.sizes number)
    → steps ≡ map (corner_number g.sizes) (numbers (2 ^ length g.sizes)) → length g.sizes ≡ 3 →
    is_positive iso (total (face_samples samples steps first)) ≡ is_positive_at g iso (point 3 (λ i. 2 * slice_index place i + 1))
cube_centre g iso number first place steps samples all stands at are three =
    let x : List ℕ = cube_at g.sizes number in
    ap (λ (ss : List ℤ). is_positive iso (total (face_samples ss steps first))) all
    ∙ ap (λ (n : ℕ). is_positive iso (total (face_samples g.samples steps n))) at
    ∙ ap (λ (xs : List ℕ). is_positive iso (total (face_samples g.samples xs (sample_number g.sizes x)))) are
    ∙ ap (λ (ss : List ℤ). is_positive iso (total ss)) (samples_are g.sizes g.samples x (length-cube_at g.sizes number))
    ∙ sym (centre_read g iso x (length-cube_at g.sizes number) three)
    ∙ ap (λ (y : List ℕ). is_positive_at g iso (point 3 (λ i. 2 * slice_index y i + 1))) (sym stands)

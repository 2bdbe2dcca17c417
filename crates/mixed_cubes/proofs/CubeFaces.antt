-- The samples of a cube are those of its two faces at right angles to axis 0.
use Rattle.std.proofs.Common.{◌≡◌, ℕ, zero, suc, ◌+◌, ◌-◌, ◌*◌, ◌/◌, ◌%◌, ◌^◌, ◌<◌, ◌≤◌, Bool, true, false, not, List, [], ◌∷◌, ◌++◌, length, refl}
use Rattle.std.proofs.Common.{sym, ap, ◌∙◌, subst, arith, ℤ, pos, int_le}
use Rattle.std.specs.Prelude.{map, slice_index, slice_index_or, ◌||◌, ◌&&◌, All}
use Rattle.std.specs.List.{range_with_len, list_any}
use Rattle.std.specs.Int.{bit_at}
use native.Mathlib.Nat.{pow-succ'}
use Rattle.std.proofs.lemmas.Nat.{div-mul-add, mod-mul-add}
use Rattle.std.proofs.lemmas.Nat.Bits.{bit_at_lowest, bit_at-suc, bit_at-lt}
use Rattle.std.proofs.lemmas.List.Folds.{list_any-append}
use Rattle.lists.specs.Orders.{numbers}
use Rattle.iso_model.specs.Points.{point}
use Rattle.iso_model.specs.Splits.{cube_count, cube_at}
use Rattle.iso_model.specs.Values.{product, sample_number, sample_at, cube_samples}
use Rattle.split_laws.proofs.Coordinates.{lists_same, coordinate, length-point, length-cube_at, cube_below}
use Rattle.mixed_cubes.specs.Mixed.{are_mixed, is_mixed}
use Rattle.mixed_cubes.specs.CubeFaces.{corner_number, face_steps, face_samples, is_mixed_from}
use Rattle.mixed_cubes.proofs.AxisSteps.{map_shifted, map_agrees, parts}
use Rattle.lists.proofs.Tests.{next_below}

-- ---- sums of places

add_axis : (a b n s t : ℕ) → (a + b) + n * (s + t) ≡ (a + n * s) + (b + n * t)
add_axis a b n s t = omega arith

-- the number of a sum of two places is the sum of their numbers
number_of_sum : (sizes : List ℕ) (f g : ℕ → ℕ) (a : ℕ) →
    sample_number sizes (map (λ i. f i + g i) (range_with_len a (length sizes)))
    ≡ sample_number sizes (map f (range_with_len a (length sizes))) + sample_number sizes (map g (range_with_len a (length sizes)))
number_of_sum [] f g a = refl
number_of_sum (n ∷ sizes) f g a =
    ap (λ (s : ℕ). (f a + g a) + n * s) (number_of_sum sizes f g (a + 1))
    ∙ add_axis (f a) (g a) n (sample_number sizes (map f (range_with_len (a + 1) (length sizes))))
    (sample_number sizes (map g (range_with_len (a + 1) (length sizes))))

-- a place by its coordinates
pub by_coordinates : (y : List ℕ) (d : ℕ) → length y ≡ d → point d (λ i. slice_index y i) ≡ y
by_coordinates y d long =
    lists_same (point d (λ i. slice_index y i)) y (length-point d (λ i. slice_index y i) ∙ sym long)
    (λ i h. coordinate d (λ i. slice_index y i) i (omega (arith, h, length-point d (λ i. slice_index y i))))

-- the number of the sample at a corner of the cube at y
pub corner_sample_number : (sizes y : List ℕ) (k : ℕ) → length y ≡ length sizes
    → sample_number sizes (point (length sizes) (λ i. slice_index y i + bit_at k i)) ≡ sample_number sizes y + corner_number sizes k
corner_sample_number sizes y k long =
    number_of_sum sizes (λ i. slice_index y i) (λ i. bit_at k i) 0
    ∙ ap (λ (x : List ℕ). sample_number sizes x + corner_number sizes k) (by_coordinates y (length sizes) long)

-- ---- samples are there

number_below : (sizes : List ℕ) (f : ℕ → ℕ) (a : ℕ) → All (λ n. 1 ≤ n) sizes → ((i : ℕ) → i < length sizes → f (a + i) < slice_index sizes i)
    → sample_number sizes (map f (range_with_len a (length sizes))) < product sizes
number_below [] f a sized inside = omega arith
number_below (n ∷ sizes) f a sized inside =
    let p = parts n sizes sized in
    let first : f a < n = subst (λ (k : ℕ). f k < n) (omega arith) (inside 0 (omega arith)) in
    let rest : sample_number sizes (map f (range_with_len (a + 1) (length sizes))) < product sizes =
    number_below sizes f (a + 1) p.sized (λ i h. subst (λ (k : ℕ). f k < slice_index sizes i) (omega arith) (inside (suc i) (omega (arith, h)))) in
    omega (arith, next_below (f a) n (sample_number sizes (map f (range_with_len (a + 1) (length sizes)))) (product sizes) first rest, p.whole)

pub corner_inside : (sizes : List ℕ) (cube k : ℕ) → All (λ n. 1 ≤ n) sizes → cube < cube_count sizes
    → sample_number sizes (cube_at sizes cube) + corner_number sizes k < product sizes
corner_inside sizes cube k sized h =
    let below : sample_number sizes (point (length sizes) (λ i. slice_index (cube_at sizes cube) i + bit_at k i)) < product sizes =
    number_below sizes (λ i. slice_index (cube_at sizes cube) i + bit_at k i) 0 sized
    (λ i hi. subst (λ (j : ℕ). slice_index (cube_at sizes cube) j + bit_at k j < slice_index sizes i) (omega arith) (near i hi)) in
    subst (λ (n : ℕ). n < product sizes) (corner_sample_number sizes (cube_at sizes cube) k (length-cube_at sizes cube)) below
  where
    near : (i : ℕ) → i < length sizes → slice_index (cube_at sizes cube) i + bit_at k i < slice_index sizes i
    near i hi = omega (arith, cube_below sizes cube h i hi, bit_at-lt k i)

-- ---- corners in pairs along axis 0

one_axis_more : (n : ℕ) (sizes y : List ℕ) (x k : ℕ) → length y ≡ length sizes →
    sample_number (n ∷ sizes) (point (length (n ∷ sizes)) (λ i. slice_index (x ∷ y) i + bit_at k i))
    ≡ ((n * sample_number sizes y + x) + k % 2) + n * corner_number sizes (k / 2)
one_axis_more n sizes y x k long =
    let d : ℕ = length sizes in
    let others : map (λ i. slice_index (x ∷ y) i + bit_at k i) (range_with_len (0 + 1) d) ≡ point d (λ i. slice_index y i + bit_at (k / 2) i) =
    map_shifted (λ i. slice_index (x ∷ y) i + bit_at k i) 0 d
    ∙ map_agrees (λ i. slice_index y i + bit_at k (suc i)) (λ i. slice_index y i + bit_at (k / 2) i)
    (λ i. ap (λ (b : ℕ). slice_index y i + b) (bit_at-suc k i)) (range_with_len 0 d) in
    ap (λ (b : ℕ). (x + b) + n * sample_number sizes (map (λ i. slice_index (x ∷ y) i + bit_at k i) (range_with_len (0 + 1) d))) (bit_at_lowest k)
    ∙ ap (λ (xs : List ℕ). (x + k % 2) + n * sample_number sizes xs) others
    ∙ ap (λ (s : ℕ). (x + k % 2) + n * s) (corner_sample_number sizes y (k / 2) long)
    ∙ regrouped (sample_number sizes y) (corner_number sizes (k / 2)) (k % 2)
  where
    regrouped : (s t b : ℕ) → (x + b) + n * (s + t) ≡ ((n * s + x) + b) + n * t
    regrouped s t b = omega arith

shuffle : (a b c e : Bool) → (a || (b || (c || e))) ≡ ((a || c) || (b || e))
shuffle true b c e = refl
shuffle false true true e = refl
shuffle false true false e = refl
shuffle false false c e = refl

any_pairs : (p : ℤ → Bool) (F : ℕ → ℤ) (a m : ℕ) →
    list_any p (map F (range_with_len (2 * a) (2 * m)))
    ≡ (list_any p (map (λ k. F (2 * k)) (range_with_len a m)) || list_any p (map (λ k. F (2 * k + 1)) (range_with_len a m)))
any_pairs p F a zero = refl
any_pairs p F a (suc m) =
    let twice : 2 * suc m ≡ suc (suc (2 * m)) = omega arith in
    let next : (2 * a + 1) + 1 ≡ 2 * (a + 1) = omega arith in
    ap (λ (n : ℕ). list_any p (map F (range_with_len (2 * a) n))) twice
    ∙ ap (λ (n : ℕ). p (F (2 * a)) || (p (F (2 * a + 1)) || list_any p (map F (range_with_len n (2 * m))))) next
    ∙ ap (λ (b : Bool). p (F (2 * a)) || (p (F (2 * a + 1)) || b)) (any_pairs p F (a + 1) m)
    ∙ shuffle (p (F (2 * a))) (p (F (2 * a + 1))) (list_any p (map (λ k. F (2 * k)) (range_with_len (a + 1) m)))
    (list_any p (map (λ k. F (2 * k + 1)) (range_with_len (a + 1) m)))

pub map_twice : (F G : ℕ → ℤ) (h : ℕ → ℕ) → ((k : ℕ) → F k ≡ G (h k)) → (xs : List ℕ) → map F xs ≡ map G (map h xs)
map_twice F G h same [] = refl
map_twice F G h same (x ∷ xs) = rw (same x, map_twice F G h same xs) refl

-- a test of the samples of a cube, by its two faces
faces_any : (p : ℤ → Bool) (n : ℕ) (sizes y : List ℕ) (samples : List ℤ) (x first : ℕ) → length y ≡ length sizes → first ≡ n * sample_number sizes y + x →
    list_any p (face_samples samples (face_steps n sizes) first ++ face_samples samples (face_steps n sizes) (first + 1))
    ≡ list_any p (cube_samples (n ∷ sizes) samples (x ∷ y))
faces_any p n sizes y samples x first long at =
    let d : ℕ = length sizes in
    let F : ℕ → ℤ = λ k. sample_at (n ∷ sizes) samples (point (length (n ∷ sizes)) (λ i. slice_index (x ∷ y) i + bit_at k i)) in
    let twice : 2 ^ length (n ∷ sizes) ≡ 2 * 2 ^ d = pow-succ' 2 d in
    let near : map (λ k. F (2 * k)) (numbers (2 ^ d)) ≡ face_samples samples (face_steps n sizes) first =
    map_twice (λ k. F (2 * k)) (λ step. slice_index_or samples (first + step) (pos 0)) (λ k. n * corner_number sizes k)
    (λ k. ap (λ (i : ℕ). slice_index_or samples i (pos 0)) (even k)) (numbers (2 ^ d)) in
    let far : map (λ k. F (2 * k + 1)) (numbers (2 ^ d)) ≡ face_samples samples (face_steps n sizes) (first + 1) =
    map_twice (λ k. F (2 * k + 1)) (λ step. slice_index_or samples ((first + 1) + step) (pos 0)) (λ k. n * corner_number sizes k)
    (λ k. ap (λ (i : ℕ). slice_index_or samples i (pos 0)) (odd k)) (numbers (2 ^ d)) in
    list_any-append p (face_samples samples (face_steps n sizes) first) (face_samples samples (face_steps n sizes) (first + 1))
    ∙ ap (λ (xs : List ℤ). list_any p xs || list_any p (face_samples samples (face_steps n sizes) (first + 1))) (sym near)
    ∙ ap (λ (xs : List ℤ). list_any p (map (λ k. F (2 * k)) (numbers (2 ^ d))) || list_any p xs) (sym far)
    ∙ sym (any_pairs p F 0 (2 ^ d))
    ∙ ap (λ (m : ℕ). list_any p (map F (numbers m))) (sym twice)
  where
    half : (k : ℕ) → (2 * k) / 2 ≡ k
    half k = omega arith

    half_odd : (k : ℕ) → (2 * k + 1) / 2 ≡ k
    half_odd k = omega arith

    even : (k : ℕ) → sample_number (n ∷ sizes) (point (length (n ∷ sizes)) (λ i. slice_index (x ∷ y) i + bit_at (2 * k) i)) ≡ first + n * corner_number sizes k
    even k =
        let none : (2 * k) % 2 ≡ 0 = omega arith in
        one_axis_more n sizes y x (2 * k) long ∙ ap (λ (j : ℕ). ((n * sample_number sizes y + x) + (2 * k) % 2) + n * corner_number sizes j) (half k)
        ∙ ap (λ (b : ℕ). ((n * sample_number sizes y + x) + b) + n * corner_number sizes k) none
        ∙ (let same : (n * sample_number sizes y + x) + 0 ≡ first = omega (arith, at) in ap (λ (j : ℕ). j + n * corner_number sizes k) same)

    odd : (k : ℕ)
        → sample_number (n ∷ sizes) (point (length (n ∷ sizes)) (λ i. slice_index (x ∷ y) i + bit_at (2 * k + 1) i))
        ≡ (first + 1) + n * corner_number sizes k
    odd k =
        let one : (2 * k + 1) % 2 ≡ 1 = omega arith in
        one_axis_more n sizes y x (2 * k + 1) long
        ∙ ap (λ (j : ℕ). ((n * sample_number sizes y + x) + (2 * k + 1) % 2) + n * corner_number sizes j) (half_odd k)
        ∙ ap (λ (b : ℕ). ((n * sample_number sizes y + x) + b) + n * corner_number sizes k) one
        ∙ (let same : (n * sample_number sizes y + x) + 1 ≡ first + 1 = omega (arith, at) in ap (λ (j : ℕ). j + n * corner_number sizes k) same)

-- the cube at place x of a row
pub row_cube : (iso : ℤ) (n : ℕ) (sizes : List ℕ) (samples : List ℤ) (row x : ℕ) → x < n - 1 →
    is_mixed_from iso samples (face_steps n sizes) (n * sample_number sizes (cube_at sizes row) + x)
    ≡ is_mixed (record { sizes = n ∷ sizes; samples = samples }) iso (row * (n - 1) + x)
row_cube iso n sizes samples row x h =
    let y : List ℕ = cube_at sizes row in
    let first : ℕ = n * sample_number sizes y + x in
    let at : cube_at (n ∷ sizes) (row * (n - 1) + x) ≡ x ∷ y = rw (mod-mul-add row (n - 1) x h, div-mul-add row (n - 1) x h) refl in
    let above = faces_any (λ s. int_le iso s) n sizes y samples x first (length-cube_at sizes row) refl in
    let below = faces_any (λ s. not (int_le iso s)) n sizes y samples x first (length-cube_at sizes row) refl in
    ap
    (λ (b : Bool).
    b
    && list_any (λ s. not (int_le iso s))
    (face_samples samples (face_steps n sizes) first ++ face_samples samples (face_steps n sizes) (first + 1)))
    above
    ∙ ap (λ (b : Bool). list_any (λ s. int_le iso s) (cube_samples (n ∷ sizes) samples (x ∷ y)) && b) below
    ∙ ap (λ (z : List ℕ). are_mixed iso (cube_samples (n ∷ sizes) samples z)) (sym at)

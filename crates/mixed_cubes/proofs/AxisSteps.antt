-- Numbers of cubes and of samples, one axis at a time.
use Rattle.std.proofs.Common.{◌≡◌, ℕ, zero, suc, ◌+◌, ◌-◌, ◌*◌, ◌/◌, ◌%◌, ◌<◌, ◌≤◌, List, [], ◌∷◌, length, refl, ap, sym, ◌∙◌, subst, arith, take, drop}
use Rattle.std.specs.Prelude.{All, map, slice_index}
use Rattle.std.specs.List.{range_with_len}
use Rattle.std.specs.Int.{bit_at}
use Rattle.std.proofs.Math.Nat.{mul-le-mul_left, mul-le-mul_right, le_trans}
use Rattle.std.proofs.lemmas.List.{take_all}
use Rattle.std.proofs.lemmas.List.Elements.{All-head, All-tail}
use Rattle.std.proofs.lemmas.Nat.Bits.{bit_at_lowest, bit_at-suc}
use Rattle.iso_model.specs.Splits.{cube_count}
use Rattle.iso_model.specs.Values.{product, sample_number}
use Rattle.grid_split.proofs.CubeNumbers.{product_of, cubes_below_product}
use Rattle.split_laws.proofs.Coordinates.{quotient_below, positive_factor}
use Rattle.mixed_cubes.specs.CubeFaces.{corner_number}

-- the sizes after the first
abbrev pub rest : List ℕ → List ℕ
rest sizes = take (length sizes - 1) (drop 1 sizes)

pub rest_is : (sizes : List ℕ) → 1 ≤ length sizes → sizes ≡ slice_index sizes 0 ∷ rest sizes
rest_is [] h = absurd (omega (arith, h))
rest_is (n ∷ others) h = ap (λ (xs : List ℕ). n ∷ xs) (sym (take_all (length (n ∷ others) - 1) others (omega arith)))

-- what is known of the first size and of the others
pub record Parts (size : ℕ) (others : List ℕ) : Type 0 where
  pub some : 1 ≤ size
  pub sized : All (λ n. 1 ≤ n) others
  pub whole : product (size ∷ others) ≡ size * product others
  pub below : product others ≤ product (size ∷ others)

pub parts : (size : ℕ) (others : List ℕ) → All (λ n. 1 ≤ n) (size ∷ others) → Parts size others
parts size others sized =
    let some : 1 ≤ size = All-head (λ m. 1 ≤ m) size others sized in
    let whole : product (size ∷ others) ≡ size * product others = product_of size others in
    let more : 1 * product others ≤ size * product others = mul-le-mul_right (product others) some in
    record { some = some; sized = All-tail (λ m. 1 ≤ m) size others sized; whole = whole; below = omega (arith, whole, more) }

pub parts_of : (sizes : List ℕ) → 1 ≤ length sizes → All (λ n. 1 ≤ n) sizes → Parts (slice_index sizes 0) (rest sizes)
parts_of sizes h sized = parts (slice_index sizes 0) (rest sizes) (subst (All (λ n. 1 ≤ n)) (rest_is sizes h) sized)

pub product_is : (sizes : List ℕ) → 1 ≤ length sizes → product sizes ≡ slice_index sizes 0 * product (rest sizes)
product_is sizes h = ap product (rest_is sizes h) ∙ product_of (slice_index sizes 0) (rest sizes)

-- ---- the number of cubes

pub cubes_below : (a b c : ℕ) → b ≤ c → (a - 1) * b ≤ a * c
cubes_below a b c h = le_trans (mul-le-mul_left (a - 1) h) (mul-le-mul_right c (less a))
  where
    less : (m : ℕ) → m - 1 ≤ m
    less m = omega arith

-- ---- the first sample of a cube

pub record OneAxis (size : ℕ) (others : List ℕ) (cube : ℕ) : Type 0 where
  pub span : 0 < size - 1
  pub inside : cube / (size - 1) < cube_count others

pub one_axis : (sizes : List ℕ) (cube : ℕ) → 1 ≤ length sizes → cube < cube_count sizes → OneAxis (slice_index sizes 0) (rest sizes) cube
one_axis sizes cube h inside =
    let few : cube < (slice_index sizes 0 - 1) * cube_count (rest sizes) = subst (λ (xs : List ℕ). cube < cube_count xs) (rest_is sizes h) inside in
    record {
      span = positive_factor (slice_index sizes 0 - 1) (cube_count (rest sizes)) cube few;
      inside = quotient_below (slice_index sizes 0 - 1) (cube_count (rest sizes)) cube few;
    }

-- ---- the corners of a cube

pub map_shifted : (f : ℕ → ℕ) (a n : ℕ) → map f (range_with_len (a + 1) n) ≡ map (λ i. f (suc i)) (range_with_len a n)
map_shifted f a zero = refl
map_shifted f a (suc n) =
    let first : f (a + 1) ≡ f (suc a) = ap f (omega arith) in
    rw first (ap (λ (xs : List ℕ). f (suc a) ∷ xs) (map_shifted f (a + 1) n))

pub map_agrees : (f g : ℕ → ℕ) → ((i : ℕ) → f i ≡ g i) → (xs : List ℕ) → map f xs ≡ map g xs
map_agrees f g same [] = refl
map_agrees f g same (x ∷ xs) = rw (same x, map_agrees f g same xs) refl

-- one axis more: bit 0 is the place in it, and the other bits are those in the others
pub corner_number_more : (size : ℕ) (others : List ℕ) (k : ℕ) → corner_number (size ∷ others) k ≡ k % 2 + size * corner_number others (k / 2)
corner_number_more size others k =
    let bits : map (λ i. bit_at k i) (range_with_len (0 + 1) (length others)) ≡ map (λ i. bit_at (k / 2) i) (range_with_len 0 (length others)) =
    map_shifted (λ i. bit_at k i) 0 (length others)
    ∙ map_agrees (λ i. bit_at k (suc i)) (λ i. bit_at (k / 2) i) (λ i. bit_at-suc k i) (range_with_len 0 (length others)) in
    ap (λ (b : ℕ). b + size * sample_number others (map (λ i. bit_at k i) (range_with_len (0 + 1) (length others)))) (bit_at_lowest k)
    ∙ ap (λ (xs : List ℕ). k % 2 + size * sample_number others xs) bits

pub corner_number_of : (sizes : List ℕ) (k : ℕ) → 1 ≤ length sizes → corner_number sizes k ≡ k % 2 + slice_index sizes 0 * corner_number (rest sizes) (k / 2)
corner_number_of sizes k h = ap (λ (xs : List ℕ). corner_number xs k) (rest_is sizes h) ∙ corner_number_more (slice_index sizes 0) (rest sizes) k

-- a bit for each axis: at most as far as there are axes times all samples
pub corner_few : (b n m l p : ℕ) → b ≤ 1 → 1 ≤ n → 1 ≤ p → m ≤ l * p → b + n * m ≤ (l + 1) * (n * p)
corner_few b n m l p hb hn hp hm =
    let more : n * m ≤ n * (l * p) = mul-le-mul_left n hm in
    let one : 1 ≤ n * p = positive n p hn hp in
    grind (arith, more, one)
  where
    positive : (x y : ℕ) → 1 ≤ x → 1 ≤ y → 1 ≤ x * y
    positive x y p q = grind arith

-- a grid has a sample
pub some_samples : (sizes : List ℕ) → All (λ n. 1 ≤ n) sizes → 1 ≤ product sizes
some_samples sizes sized = cubes_below_product sizes sized 0

-- the sizes of a grid are its first size and the others
pub first_and_others : (sizes : List ℕ) (d : ℕ) → 1 ≤ d → 1 ≤ length sizes → take d sizes ≡ slice_index sizes 0 ∷ take (d - 1) (drop 1 sizes)
first_and_others [] d hd h = absurd (omega (arith, h))
first_and_others (n ∷ others) zero hd h = absurd (omega (arith, hd))
first_and_others (n ∷ others) (suc d) hd h =
    let same : d ≡ suc d - 1 = omega arith in
    ap (λ (k : ℕ). n ∷ take k others) same

pub at_least_one : (sizes : List ℕ) → All (λ n. (1 ≤ n) × (n ≤ 4294967295)) sizes → All (λ n. 1 ≤ n) sizes
at_least_one sizes sized k d h = let here = sized k d h in here.0

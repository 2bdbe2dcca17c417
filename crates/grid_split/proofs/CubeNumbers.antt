-- The numbers of cubes: their strides, and the number of the cube at a place.
use Rattle.std.proofs.Common.{◌≡◌, ℕ, zero, suc, ◌+◌, ◌-◌, ◌*◌, ◌^◌, ◌<◌, ◌≤◌, List, [], ◌∷◌, length, refl, ap, sym, ◌∙◌, subst, arith, add-one}
use Rattle.std.proofs.Common.{drop-cons, get_or-set_other, get_or-set_same, below_more, ◌≢◌, slice_set}
use Rattle.std.proofs.Math.ListN.{length-set}
use Rattle.std.proofs.Math.Nat.{mul-le-mul_left, mul-le-mul_right, le_trans}
use Rattle.std.specs.Prelude.{◌/◌, ◌%◌, slice_index, take, drop, fold, All}
use Rattle.std.proofs.lemmas.List.Elements.{All-head, All-tail}
use Rattle.iso_model.specs.declared.Kind.{Kind}
use Rattle.iso_model.specs.Splits.{cells_per_cube, cell_count, cube_count, cube_at, cube_of, rank_of, corner, corner_offset}
use Rattle.iso_model.specs.Points.{point}
use Rattle.iso_model.specs.Values.{product}
use Rattle.split_laws.proofs.Coordinates.{quotient_below, positive_factor, length-cube_at, cube_in}

mul_assoc : (a b c : ℕ) → (a * b) * c ≡ a * (b * c)
mul_assoc a b c = grind arith

-- one axis more
cube_count_suc : (sizes : List ℕ) (i : ℕ) → i < length sizes → cube_count (take (suc i) sizes) ≡ cube_count (take i sizes) * (slice_index sizes i - 1)
cube_count_suc [] i h = absurd (omega (arith, h))
cube_count_suc (n ∷ sizes) zero h = grind arith
cube_count_suc (n ∷ sizes) (suc i) h =
    ap (λ (x : ℕ). (n - 1) * x) (cube_count_suc sizes i (omega (arith, h))) ∙ sym (mul_assoc (n - 1) (cube_count (take i sizes)) (slice_index sizes i - 1))

pub cube_count_more : (sizes : List ℕ) (i : ℕ) → i < length sizes → cube_count (take (i + 1) sizes) ≡ cube_count (take i sizes) * (slice_index sizes i - 1)
cube_count_more sizes i h = rw add-one (cube_count_suc sizes i h)

product_from : (a : ℕ) (sizes : List ℕ) → fold ◌*◌ a sizes ≡ a * product sizes
product_from a [] = grind arith
product_from a (n ∷ sizes) =
    product_from (a * n) sizes ∙ mul_assoc a n (product sizes)
    ∙ ap (λ (x : ℕ). a * x) (sym (product_from (1 * n) sizes ∙ ap (λ (y : ℕ). y * product sizes) (one n)))
  where
    one : (m : ℕ) → 1 * m ≡ m
    one m = omega arith

pub product_of : (n : ℕ) (sizes : List ℕ) → product (n ∷ sizes) ≡ n * product sizes
product_of n sizes = product_from (1 * n) sizes ∙ ap (λ (y : ℕ). y * product sizes) (one n)
  where
    one : (m : ℕ) → 1 * m ≡ m
    one m = omega arith

-- ---- bounds

pub cubes_below_product : (sizes : List ℕ) → All (λ n. 1 ≤ n) sizes → (i : ℕ) → cube_count (take i sizes) ≤ product sizes
cubes_below_product [] some zero = omega arith
cubes_below_product [] some (suc i) = omega arith
cubes_below_product (n ∷ sizes) some zero =
    rw product_of (positive n (product sizes) (All-head (λ m. 1 ≤ m) n sizes some) (cubes_below_product sizes (All-tail (λ m. 1 ≤ m) n sizes some) 0))
  where
    positive : (a b : ℕ) → 1 ≤ a → 1 ≤ b → 1 ≤ a * b
    positive a b p q = grind arith
cubes_below_product (n ∷ sizes) some (suc i) =
    rw product_of (grows n (cube_count (take i sizes)) (product sizes) (cubes_below_product sizes (All-tail (λ m. 1 ≤ m) n sizes some) i))
  where
    grows : (a b c : ℕ) → b ≤ c → (a - 1) * b ≤ a * c
    grows a b c h = le_trans (mul-le-mul_left (a - 1) h) (mul-le-mul_right c (less a))
      where
        less : (m : ℕ) → m - 1 ≤ m
        less m = omega arith

pub size_below_product : (sizes : List ℕ) → All (λ n. 1 ≤ n) sizes → (i : ℕ) → i < length sizes → slice_index sizes i ≤ product sizes
size_below_product [] some i h = absurd (omega (arith, h))
size_below_product (n ∷ sizes) some zero h = rw product_of (times_some n (product sizes) (cubes_below_product sizes (All-tail (λ m. 1 ≤ m) n sizes some) 0))
  where
    times_some : (a b : ℕ) → 1 ≤ b → a ≤ a * b
    times_some a b p = grind arith
size_below_product (n ∷ sizes) some (suc i) h =
    rw product_of
    (some_times n (slice_index sizes i) (product sizes) (All-head (λ m. 1 ≤ m) n sizes some)
    (size_below_product sizes (All-tail (λ m. 1 ≤ m) n sizes some) i (omega (arith, h))))
  where
    some_times : (a b c : ℕ) → 1 ≤ a → b ≤ c → b ≤ a * c
    some_times a b c p q = grind arith

-- ---- the places of cubes, one axis at a time

cube_count_drop : (sizes : List ℕ) (i : ℕ) → i < length sizes → cube_count (drop i sizes) ≡ (slice_index sizes i - 1) * cube_count (drop (i + 1) sizes)
cube_count_drop sizes i h = rw (add-one, drop-cons sizes i 0) refl

cube_at_drop : (sizes : List ℕ) (i c : ℕ) → i < length sizes
    → cube_at (drop i sizes) c ≡ c % (slice_index sizes i - 1) ∷ cube_at (drop (i + 1) sizes) (c / (slice_index sizes i - 1))
cube_at_drop sizes i c h = rw (add-one, drop-cons sizes i 0) refl

drop_more : (xs : List ℕ) (i : ℕ) → i < length xs → drop i xs ≡ slice_index xs i ∷ drop (i + 1) xs
drop_more xs i h = rw (add-one, drop-cons xs i 0) refl

-- the next axis of the cube of this number
pub record NextAxis (sizes : List ℕ) (number i rest span : ℕ) : Type 0 where
  pub some : 0 < span
  pub place : slice_index (cube_at sizes number) i ≡ rest % span
  pub left : rest / span < cube_count (drop (i + 1) sizes)
  pub others : cube_at (drop (i + 1) sizes) (rest / span) ≡ drop (i + 1) (cube_at sizes number)

pub next_axis : (sizes : List ℕ) (number i rest span : ℕ) → i < length sizes → span ≡ slice_index sizes i - 1 → rest < cube_count (drop i sizes)
    → cube_at (drop i sizes) rest ≡ drop i (cube_at sizes number) → NextAxis sizes number i rest span
next_axis sizes number i rest span h is below same =
    let few : rest < (slice_index sizes i - 1) * cube_count (drop (i + 1) sizes) = subst (λ (n : ℕ). rest < n) (cube_count_drop sizes i h) below in
    let some : 0 < slice_index sizes i - 1 = positive_factor (slice_index sizes i - 1) (cube_count (drop (i + 1) sizes)) rest few in
    let at : rest % (slice_index sizes i - 1) ∷ cube_at (drop (i + 1) sizes) (rest / (slice_index sizes i - 1))
    ≡ slice_index (cube_at sizes number) i ∷ drop (i + 1) (cube_at sizes number) =
    sym (cube_at_drop sizes i rest h) ∙ same ∙ drop_more (cube_at sizes number) i (omega (arith, h, length-cube_at sizes number)) in
    let first : slice_index (cube_at sizes number) i ≡ rest % (slice_index sizes i - 1) = cc in
    let others : cube_at (drop (i + 1) sizes) (rest / (slice_index sizes i - 1)) ≡ drop (i + 1) (cube_at sizes number) = cc in
    subst (NextAxis sizes number i rest) (sym is)
    (record {
      some = some;
      place = first;
      left = quotient_below (slice_index sizes i - 1) (cube_count (drop (i + 1) sizes)) rest few;
      others = others;
    })

-- ---- a loop that fills a list

pub put_length : (xs : List ℕ) (a n v : ℕ) → length xs ≡ n → length (slice_set xs a v) ≡ n
put_length xs a n v long = simp length-set long

pub put_next : (f : ℕ → ℕ) (xs : List ℕ) (a n v : ℕ) → length xs ≡ n → a < n → ((i : ℕ) → i < a → slice_index xs i ≡ f i) → v ≡ f a → (i : ℕ)
    → i < a + 1 → slice_index (slice_set xs a v) i ≡ f i
put_next f xs a n v long inside before here =
    let at : a < length xs = omega (arith, long, inside) in
    below_more (λ i. slice_index (slice_set xs a v) i ≡ f i) a
    (λ i h. let apart : i ≢ a = omega (arith, h) in rw get_or-set_other (before i h))
    (rw get_or-set_same here)

-- along an axis there are fewer cubes than samples in the grid
pub few_cubes : (sizes : List ℕ) → All (λ n. 1 ≤ n) sizes → product sizes ≤ 2 ^ 27 → (i : ℕ) → i < length sizes → slice_index sizes i ≤ 2 ^ 27
few_cubes sizes some few i h = omega (arith, size_below_product sizes some i h, few)

pub few_before : (sizes : List ℕ) → All (λ n. 1 ≤ n) sizes → product sizes ≤ 2 ^ 27 → (i : ℕ) → cube_count (take i sizes) ≤ 2 ^ 27
few_before sizes some few i = omega (arith, cubes_below_product sizes some i, few)

pub few_in_all : (sizes : List ℕ) → All (λ n. 1 ≤ n) sizes → product sizes ≤ 2 ^ 27 → cube_count sizes ≤ 2 ^ 27
few_in_all sizes some few = subst (λ (xs : List ℕ). cube_count xs ≤ 2 ^ 27) (take_whole sizes) (few_before sizes some few (length sizes))
  where
    take_whole : (xs : List ℕ) → take (length xs) xs ≡ xs
    take_whole [] = refl
    take_whole (x ∷ xs) = ap (λ (ys : List ℕ). x ∷ ys) (take_whole xs)

-- ---- the cube of a cell, where the grid is known to have d axes

pub cube_number_in : (kind : Kind) (sizes : List ℕ) (d cell : ℕ) → length sizes ≡ d → cell < cell_count kind sizes
    → cell / cells_per_cube kind d < cube_count sizes
cube_number_in kind sizes d cell long h = subst (λ (n : ℕ). cell / cells_per_cube kind n < cube_count sizes) long (cube_in kind sizes cell h)

pub cube_of_is : (kind : Kind) (sizes : List ℕ) (d cell : ℕ) → length sizes ≡ d → cube_at sizes (cell / cells_per_cube kind d) ≡ cube_of kind sizes cell
cube_of_is kind sizes d cell long = ap (λ (n : ℕ). cube_at sizes (cell / cells_per_cube kind n)) (sym long)

pub rank_of_is : (kind : Kind) (sizes : List ℕ) (d cell : ℕ) → length sizes ≡ d → cell % cells_per_cube kind d ≡ rank_of kind sizes cell
rank_of_is kind sizes d cell long = ap (λ (n : ℕ). cell % cells_per_cube kind n) (sym long)

-- at most 24 cells in each cube
pub few_cells : (kind : Kind) (sizes : List ℕ) (d : ℕ) → length sizes ≡ d → cells_per_cube kind d ≤ 24 → All (λ n. 1 ≤ n) sizes
    → product sizes ≤ 2 ^ 27 → cell_count kind sizes ≤ 2 ^ 32
few_cells kind sizes d long ranks some few =
    let per : cells_per_cube kind (length sizes) ≤ 24 = subst (λ (n : ℕ). cells_per_cube kind n ≤ 24) (sym long) ranks in
    le_trans (le_trans (mul-le-mul_left (cube_count sizes) per) (mul-le-mul_right 24 (few_in_all sizes some few))) (omega arith)

-- ---- corners

pub corner_is : (kind : Kind) (sizes : List ℕ) (d cell k rank : ℕ) (cube offset : List ℕ) → length sizes ≡ d → cube ≡ cube_of kind sizes cell
    → rank ≡ rank_of kind sizes cell → offset ≡ corner_offset kind d rank k →
    point d (λ i. 2 * slice_index cube i + slice_index offset i) ≡ corner kind sizes cell k
corner_is kind sizes d cell k rank cube offset long cube_is rank_is offset_is =
    ap (λ (x : List ℕ). point d (λ i. 2 * slice_index x i + slice_index offset i)) cube_is
    ∙ ap (λ (o : List ℕ). point d (λ i. 2 * slice_index (cube_of kind sizes cell) i + slice_index o i))
    (offset_is ∙ ap (λ (r : ℕ). corner_offset kind d r k) rank_is)
    ∙ ap (λ (n : ℕ). point n (λ i. 2 * slice_index (cube_of kind sizes cell) i + slice_index (corner_offset kind n (rank_of kind sizes cell) k) i)) (sym long)

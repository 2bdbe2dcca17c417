-- Where the rows of a grid stand among its samples, and that there are few.
use Rattle.std.proofs.Common.{ap, arith, refl, sym, ◌∙◌}
use Rattle.std.proofs.Math.Nat.{mul-le-mul_left}
use Rattle.std.proofs.lemmas.List.Elements.{All-head, All-tail}
use Rattle.std.specs.Prelude.{ℕ, ◌+◌, ◌-◌, ◌*◌, ◌^◌, ◌<◌, ◌≤◌, ◌≡◌, List, [], ◌∷◌, All, length, slice_index}
use Rattle.lists.proofs.Tests.{next_below}
use Rattle.iso_model.specs.declared.Kind.{Kind}
use Rattle.iso_model.specs.declared.Kind.TheVariants.{Pyramid}
use Rattle.iso_model.specs.Values.{Grid, product}
use Rattle.grid_rows.specs.declared.grids.GridRows.{GridRows}
use Rattle.grid_rows.specs.declared.grids.MiddleAxis.{MiddleAxis}
use Rattle.grid_rows.specs.MiddleAxes.{AreFewRows, axis_of}
use Rattle.grid_rows.specs.RowNumbers.{sample_rows}
use Rattle.edge_spectrum.specs.Counted.{IsWalked}
use Rattle.edge_spectrum.proofs.RowsThere.{first_cubes}

-- ---- samples by slices

by_slices : (sizes : List ℕ) → 2 ≤ length sizes → length sizes ≤ 4
    → product sizes ≡ slice_index sizes (length sizes - 1) * ((axis_of sizes 1).samples * (axis_of sizes 2).samples * slice_index sizes 0)
by_slices [] few most = absurd (omega (arith, few))
by_slices (a ∷ []) few most = absurd (omega (arith, few))
by_slices (a ∷ b ∷ []) few most = let turned : product (a ∷ b ∷ []) ≡ b * (1 * 1 * a) = omega arith in turned
by_slices (a ∷ b ∷ c ∷ []) few most = let turned : product (a ∷ b ∷ c ∷ []) ≡ c * (b * 1 * a) = omega arith in turned
by_slices (a ∷ b ∷ c ∷ d ∷ []) few most = let turned : product (a ∷ b ∷ c ∷ d ∷ []) ≡ d * (b * c * a) = omega arith in turned
by_slices (a ∷ b ∷ c ∷ d ∷ e ∷ sizes) few most = absurd (omega (arith, most))

pub all_samples : (kind : Kind) (grid : Grid) (rows : GridRows) → IsWalked kind grid rows
    → length grid.samples ≡ slice_index grid.sizes (length grid.sizes - 1) * (sample_rows rows * rows.length)
all_samples kind grid rows w =
    w.regular.all_there ∙ by_slices grid.sizes w.regular.two_axes w.regular.four_axes
    ∙ (λ i. slice_index grid.sizes (length grid.sizes - 1) * ((sym w.second i).samples * (sym w.third i).samples * sym w.first i))

-- a row of a slice lies among the samples
pub row_inside : (kind : Kind) (grid : Grid) (rows : GridRows) (row slice : ℕ) → IsWalked kind grid rows → row < sample_rows rows
    → slice < slice_index grid.sizes (length grid.sizes - 1)
    → (row + slice * sample_rows rows) * rows.length + rows.length ≤ length grid.samples
row_inside kind grid rows row slice w few inside =
    let last : ℕ = slice_index grid.sizes (length grid.sizes - 1) in
    let below : row + sample_rows rows * slice < sample_rows rows * last = next_below row (sample_rows rows) slice last few inside in
    let more : rows.length * (row + sample_rows rows * slice + 1) ≤ rows.length * (sample_rows rows * last) =
    mul-le-mul_left rows.length (omega (arith, below)) in
    omega (arith, more, all_samples kind grid rows w)

pub few_samples : (kind : Kind) (grid : Grid) (rows : GridRows) → IsWalked kind grid rows → length grid.samples ≤ 2 ^ 27
few_samples kind grid rows w = omega (arith, w.regular.few, w.regular.all_there)

-- ---- few rows

no_less : (a b : ℕ) → 1 ≤ a → b ≤ a * b
no_less a b some = let more : b * 1 ≤ b * a = mul-le-mul_left b some in omega (arith, more)

few_in_three : (a b c : ℕ) → 1 ≤ a → 1 ≤ b → 1 ≤ c → product (a ∷ b ∷ c ∷ []) ≤ 2 ^ 27 → b ≤ 2 ^ 27
few_in_three a b c one other third few =
    let turned : product (a ∷ b ∷ c ∷ []) ≡ c * (a * b) = omega arith in
    omega (arith, turned, few, no_less a b one, no_less c (a * b) third)

few_in_four : (a b c d : ℕ) → 1 ≤ a → 1 ≤ d → product (a ∷ b ∷ c ∷ d ∷ []) ≤ 2 ^ 27 → b * c ≤ 2 ^ 27
few_in_four a b c d one last few =
    let turned : product (a ∷ b ∷ c ∷ d ∷ []) ≡ d * (a * (b * c)) = omega arith in
    omega (arith, turned, few, no_less a (b * c) one, no_less d (a * (b * c)) last)

pub few_rows : (sizes : List ℕ) → 2 ≤ length sizes → length sizes ≤ 4 → All (λ n. 2 ≤ n) sizes → product sizes ≤ 2 ^ 27
    → AreFewRows (axis_of sizes 1) (axis_of sizes 2)
few_rows [] few most cubes small = absurd (omega (arith, few))
few_rows (a ∷ []) few most cubes small = absurd (omega (arith, few))
few_rows (a ∷ b ∷ []) few most cubes small =
    ((omega arith, omega arith, omega arith, omega arith), (omega arith, omega arith, omega arith, omega arith), omega arith)
few_rows (a ∷ b ∷ c ∷ []) few most cubes small =
    let first : 2 ≤ a = All-head (λ k. 2 ≤ k) a (b ∷ c ∷ []) cubes in
    let rest = All-tail (λ k. 2 ≤ k) a (b ∷ c ∷ []) cubes in
    let second : 2 ≤ b = All-head (λ k. 2 ≤ k) b (c ∷ []) rest in
    let third : 2 ≤ c = All-head (λ k. 2 ≤ k) c [] (All-tail (λ k. 2 ≤ k) b (c ∷ []) rest) in
    let within : b ≤ 2 ^ 27 = few_in_three a b c (omega (arith, first)) (omega (arith, second)) (omega (arith, third)) small in (
      (omega (arith, second), within, omega (arith, second), omega arith),
      (omega arith, omega arith, omega arith, omega arith),
      omega (arith, within),
    )
few_rows (a ∷ b ∷ c ∷ d ∷ []) few most cubes small =
    let first : 2 ≤ a = All-head (λ k. 2 ≤ k) a (b ∷ c ∷ d ∷ []) cubes in
    let rest = All-tail (λ k. 2 ≤ k) a (b ∷ c ∷ d ∷ []) cubes in
    let second : 2 ≤ b = All-head (λ k. 2 ≤ k) b (c ∷ d ∷ []) rest in
    let others = All-tail (λ k. 2 ≤ k) b (c ∷ d ∷ []) rest in
    let third : 2 ≤ c = All-head (λ k. 2 ≤ k) c (d ∷ []) others in
    let last : 2 ≤ d = All-head (λ k. 2 ≤ k) d [] (All-tail (λ k. 2 ≤ k) c (d ∷ []) others) in
    let within : b * c ≤ 2 ^ 27 = few_in_four a b c d (omega (arith, first)) (omega (arith, last)) small in
    let b_in : b ≤ c * b = no_less c b (omega (arith, third)) in
    let c_in : c ≤ b * c = no_less b c (omega (arith, second)) in (
      (omega (arith, second), omega (arith, within, b_in), omega (arith, second), omega arith),
      (omega (arith, third), omega (arith, within, c_in), omega (arith, third), omega arith),
      within,
    )
few_rows (a ∷ b ∷ c ∷ d ∷ e ∷ sizes) few most cubes small = absurd (omega (arith, most))

-- ---- sums that fit

pub place_small : (row slice rows long got : ℕ) → 1 ≤ long → (row + slice * rows) * long ≤ 2 ^ 27 → got ≡ rows → row + slice * got ≤ 2 ^ 27
place_small row slice rows long got some few is =
    let less : row + slice * rows ≤ long * (row + slice * rows) = no_less long (row + slice * rows) some in
    let whole : row + slice * rows ≤ 2 ^ 27 = omega (arith, less, few) in
    omega (arith, whole, ap (λ k. slice * k) is)

-- the cubes of a row lie among the samples
pub cubes_inside : (grid : Grid) (rows : GridRows) (row slice : ℕ) → IsWalked Pyramid grid rows → row + 1 < sample_rows rows
    → slice + 1 < slice_index grid.sizes (length grid.sizes - 1)
    → (row + slice * sample_rows rows) * rows.length + (rows.length - 1) + sample_rows rows * rows.length + rows.length < length grid.samples
cubes_inside grid rows row slice w few inside =
    let last = row_inside Pyramid grid rows (row + 1) (slice + 1) w few inside in
    let turned : (row + 1 + (slice + 1) * sample_rows rows) * rows.length
    ≡ (row + slice * sample_rows rows) * rows.length + sample_rows rows * rows.length + rows.length = omega arith in
    let some : 2 ≤ rows.length = omega (arith, first_cubes grid.sizes (omega (arith, w.regular.two_axes)) w.cubes, w.first) in
    omega (arith, last, turned, some)

pub rows_of_pyramids : (grid : Grid) (rows : GridRows) → IsWalked Pyramid grid rows
    → (sample_rows rows ≡ rows.second.samples) × (rows.second.cubes + 1 ≡ rows.second.samples)
rows_of_pyramids grid rows w =
    let axes = by_sizes grid.sizes w.fits w.cubes in
    let third : rows.third.samples ≡ 1 = ap (λ (a : MiddleAxis). a.samples) w.third ∙ axes.0 in
    let second : rows.second.cubes + 1 ≡ rows.second.samples =
    (λ i. (w.second i).cubes + 1) ∙ axes.1 ∙ ap (λ (a : MiddleAxis). a.samples) (sym w.second) in
    let one : rows.second.samples * 1 ≡ rows.second.samples = omega arith in
    (ap (λ k. rows.second.samples * k) third ∙ one, second)
  where
    by_sizes : (sizes : List ℕ) → length sizes ≡ 3 → All (λ n. 2 ≤ n) sizes
        → ((axis_of sizes 2).samples ≡ 1) × ((axis_of sizes 1).cubes + 1 ≡ (axis_of sizes 1).samples)
    by_sizes [] long cubes = absurd (omega (arith, long))
    by_sizes (a ∷ []) long cubes = absurd (omega (arith, long))
    by_sizes (a ∷ b ∷ []) long cubes = absurd (omega (arith, long))
    by_sizes (a ∷ b ∷ c ∷ []) long cubes =
        let two : 2 ≤ b = All-head (λ k. 2 ≤ k) b (c ∷ []) (All-tail (λ k. 2 ≤ k) a (b ∷ c ∷ []) cubes) in
        (refl, omega (arith, two))
    by_sizes (a ∷ b ∷ c ∷ d ∷ sizes) long cubes = absurd (omega (arith, long))

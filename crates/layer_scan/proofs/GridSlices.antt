-- The samples of a slice of a grid, row by row.
use Rattle.std.proofs.Common.{ap, arith, refl, sym, ◌∙◌}
use Rattle.std.proofs.lemmas.List.{get_or-drop, get_or-take}
use Rattle.std.specs.Prelude.{Bool, List, [], ◌∷◌, drop, int_le, length, nat_lt, slice_index, slice_index_or, slice_range, take, true}
use Rattle.std.specs.Prelude.{ℕ, ℤ, pos, ◌&&◌, ◌*◌, ◌+◌, ◌-◌, ◌<◌, ◌≤◌, ◌≡◌}
use Rattle.lists.proofs.Tests.{next_below, of_lt}
use Rattle.iso_model.specs.Cells.{HasDimension}
use Rattle.iso_model.specs.Dimensions.{IsDimension}
use Rattle.iso_model.specs.Values.{IsRegularVolume, Volume, product, sample_at, sample_number}
use Rattle.iso_model.proofs.DimensionLaws.{dimension_cases}
use Rattle.bit_rows.specs.Rows.{row_bit}
use Rattle.bit_rows.specs.SampleRows.{sample_passes}
use Rattle.grid_rows.specs.declared.grids.GridRows.{GridRows}
use Rattle.grid_rows.specs.declared.grids.MiddleAxis.{MiddleAxis}
use Rattle.grid_rows.specs.declared.planes.BitPlane.{BitPlane}
use Rattle.grid_rows.specs.Planes.{bit_row}
use Rattle.grid_rows.specs.RowNumbers.{sample_row, sample_rows}
use Rattle.layer_scan.specs.GridPlanes.{AreRowsOf, HasSignsOfSlice, after_first, slice_of}
use Rattle.layer_scan.specs.SlicePlanes.{AreSampleBits, samples_of}
use Rattle.layer_scan.proofs.SliceRows.{long_range, row_inside}
use Rattle.iso_model.proofs.CellCounts.{axes_between}

-- ---- an element of a part of a list

part_at : (xs : List ℤ) (a n i : ℕ) → i < n → slice_index_or (slice_range xs a (a + n)) i (pos 0) ≡ slice_index_or xs (a + i) (pos 0)
part_at xs a n i h =
    let long : a + n - a ≡ n = omega arith in
    ap (λ m. slice_index_or (take m (drop a xs)) i (pos 0)) long ∙ get_or-take n (drop a xs) i (pos 0) h ∙ get_or-drop a xs i (pos 0)

-- the sample at x of row n of slice s
sample_in_row : (rows : GridRows) (samples : List ℤ) (s n x : ℕ) → n < sample_rows rows → x < rows.length
    → slice_index_or (samples_of rows (slice_of rows samples s) n) x (pos 0)
    ≡ slice_index_or samples (s * (sample_rows rows * rows.length) + (n * rows.length + x)) (pos 0)
sample_in_row rows samples s n x h lt =
    let fits = row_inside n rows.length (sample_rows rows) (sample_rows rows * rows.length) h refl in
    part_at (slice_of rows samples s) (n * rows.length) rows.length x lt
    ∙ part_at samples (s * (sample_rows rows * rows.length)) (sample_rows rows * rows.length) (n * rows.length + x) (omega (arith, fits, lt))

-- ---- where the samples of a slice stand among those of a grid

-- by the samples along the middle axes and in a row: the place of a sample, and how many samples so many slices have
abbrev place_in : (second third long i j s x : ℕ) → ℕ
place_in second third long i j s x = s * (second * third * long) + ((i + second * j) * long + x)

same_place : (rows : GridRows) (second third long i j i' j' s x : ℕ) → rows.second.samples ≡ second → rows.third.samples ≡ third → rows.length ≡ long
    → i ≡ i' → j ≡ j' → s * (sample_rows rows * rows.length) + (sample_row rows i j * rows.length + x) ≡ place_in second third long i' j' s x
same_place rows second third long i j i' j' s x e f g h k =
    ap (λ n. place_in n rows.third.samples rows.length i j s x) e ∙ ap (λ n. place_in second n rows.length i j s x) f
    ∙ ap (λ n. place_in second third n i j s x) g ∙ ap (λ n. place_in second third long n j s x) h ∙ ap (λ n. place_in second third long i' n s x) k

all_in : (rows : GridRows) (second third long last : ℕ) → rows.second.samples ≡ second → rows.third.samples ≡ third → rows.length ≡ long
    → last * (sample_rows rows * rows.length) ≡ last * (second * third * long)
all_in rows second third long last e f g =
    ap (λ n. last * (n * rows.third.samples * rows.length)) e ∙ ap (λ n. last * (second * n * rows.length)) f
    ∙ ap (λ n. last * (second * third * n)) g

sample_place : (rows : GridRows) (sizes : List ℕ) (i j s x : ℕ) → 2 ≤ length sizes → length sizes ≤ 4 → AreRowsOf sizes rows
    → i < rows.second.samples → j < rows.third.samples
    → sample_number sizes (x ∷ after_first (length sizes) i j s) ≡ s * (sample_rows rows * rows.length) + (sample_row rows i j * rows.length + x)
sample_place rows [] i j s x few most is h k = absurd (omega (arith, few))
sample_place rows (a ∷ []) i j s x few most is h k = absurd (omega (arith, few))
sample_place rows (a ∷ b ∷ []) i j s x few most is h k =
    let second : rows.second.samples ≡ 1 = ap (λ (m : MiddleAxis). m.samples) is.second in
    let third : rows.third.samples ≡ 1 = ap (λ (m : MiddleAxis). m.samples) is.third in
    let same = same_place rows 1 1 a i j 0 0 s x second third is.first (omega (arith, h, second)) (omega (arith, k, third)) in
    let turned : x + a * (s + b * 0) ≡ s * (1 * 1 * a) + ((0 + 1 * 0) * a + x) = omega arith in
    turned ∙ sym same
sample_place rows (a ∷ b ∷ c ∷ []) i j s x few most is h k =
    let second : rows.second.samples ≡ b = ap (λ (m : MiddleAxis). m.samples) is.second in
    let third : rows.third.samples ≡ 1 = ap (λ (m : MiddleAxis). m.samples) is.third in
    let same = same_place rows b 1 a i j i 0 s x second third is.first refl (omega (arith, k, third)) in
    let turned : x + a * (i + b * (s + c * 0)) ≡ s * (b * 1 * a) + ((i + b * 0) * a + x) = omega arith in
    turned ∙ sym same
sample_place rows (a ∷ b ∷ c ∷ d ∷ []) i j s x few most is h k =
    let second : rows.second.samples ≡ b = ap (λ (m : MiddleAxis). m.samples) is.second in
    let third : rows.third.samples ≡ c = ap (λ (m : MiddleAxis). m.samples) is.third in
    let same = same_place rows b c a i j i j s x second third is.first refl refl in
    let turned : x + a * (i + b * (j + c * (s + d * 0))) ≡ s * (b * c * a) + ((i + b * j) * a + x) = omega arith in
    turned ∙ sym same
sample_place rows (a ∷ b ∷ c ∷ d ∷ e ∷ more) i j s x few most is h k = absurd (omega (arith, most))

-- a grid has as many samples as its slices
pub all_slices : (rows : GridRows) (sizes : List ℕ) → 2 ≤ length sizes → length sizes ≤ 4 → AreRowsOf sizes rows
    → product sizes ≡ slice_index sizes (length sizes - 1) * (sample_rows rows * rows.length)
all_slices rows [] few most is = absurd (omega (arith, few))
all_slices rows (a ∷ []) few most is = absurd (omega (arith, few))
all_slices rows (a ∷ b ∷ []) few most is =
    let turned : product (a ∷ b ∷ []) ≡ b * (1 * 1 * a) = omega arith in
    turned ∙ sym (all_in rows 1 1 a b (ap (λ (m : MiddleAxis). m.samples) is.second) (ap (λ (m : MiddleAxis). m.samples) is.third) is.first)
all_slices rows (a ∷ b ∷ c ∷ []) few most is =
    let turned : product (a ∷ b ∷ c ∷ []) ≡ c * (b * 1 * a) = omega arith in
    turned ∙ sym (all_in rows b 1 a c (ap (λ (m : MiddleAxis). m.samples) is.second) (ap (λ (m : MiddleAxis). m.samples) is.third) is.first)
all_slices rows (a ∷ b ∷ c ∷ d ∷ []) few most is =
    let turned : product (a ∷ b ∷ c ∷ d ∷ []) ≡ d * (b * c * a) = omega arith in
    turned ∙ sym (all_in rows b c a d (ap (λ (m : MiddleAxis). m.samples) is.second) (ap (λ (m : MiddleAxis). m.samples) is.third) is.first)
all_slices rows (a ∷ b ∷ c ∷ d ∷ e ∷ more) few most is = absurd (omega (arith, most))

-- what a plane tells of the samples of slice s, row by row, it tells of the samples of the grid
pub told_of_slice : (v : Volume) (rows : GridRows) (s : ℕ) (passes : ℤ → Bool) (plane : BitPlane) → IsRegularVolume v → AreRowsOf v.sizes rows
    → s < slice_index v.sizes (length v.sizes - 1) → AreSampleBits rows (sample_passes passes) (slice_of rows v.samples s) plane
    → (i j x : ℕ) → i < rows.second.samples → j < rows.third.samples → x < rows.length
    → row_bit (bit_row plane (sample_row rows i j)) x ≡ passes (sample_at v.sizes v.samples (x ∷ after_first (length v.sizes) i j s))
told_of_slice v rows s passes plane regular is inside bits i j x first second lt =
    let axes = axes_between (length v.sizes) (dimension_cases v.kind (length v.sizes) regular.fits) in
    let size : ℕ = sample_rows rows * rows.length in
    let slice : List ℤ = slice_of rows v.samples s in
    let n : ℕ = sample_row rows i j in
    let row : n < sample_rows rows = next_below i rows.second.samples j rows.third.samples first second in
    let whole : length v.samples ≡ slice_index v.sizes (length v.sizes - 1) * size =
    regular.all_there ∙ all_slices rows v.sizes axes.0 axes.1 is in
    let part = row_inside s size (slice_index v.sizes (length v.sizes - 1)) (length v.samples) inside whole in
    let long : length slice ≡ size = long_range v.samples (s * size) size part in
    let within = row_inside n rows.length (sample_rows rows) (length slice) row long in
    let count : length (samples_of rows slice n) ≡ rows.length = long_range slice (n * rows.length) rows.length within in
    let there : nat_lt x (length (samples_of rows slice n)) ≡ true = of_lt x (length (samples_of rows slice n)) (omega (arith, lt, count)) in
    bits n row x
    ∙ ap (λ t. t && passes (slice_index_or (samples_of rows slice n) x (pos 0))) there
    ∙ ap passes (sample_in_row rows v.samples s n x row lt
    ∙ ap (λ m. slice_index_or v.samples m (pos 0)) (sym (sample_place rows v.sizes i j s x axes.0 axes.1 is first second)))

pub signs_of_slice : (v : Volume) (rows : GridRows) (s : ℕ) (plane : BitPlane) → HasSignsOfSlice v rows s plane
signs_of_slice v rows s plane regular is inside signs i j x first second lt =
    told_of_slice v rows s (int_le v.iso) plane regular is inside signs i j x first second lt

-- the length of a slice
pub long_slice : (v : Volume) (rows : GridRows) (s : ℕ) → IsRegularVolume v → AreRowsOf v.sizes rows → s < slice_index v.sizes (length v.sizes - 1)
    → length (slice_of rows v.samples s) ≡ sample_rows rows * rows.length
long_slice v rows s regular is inside =
    let axes = axes_between (length v.sizes) (dimension_cases v.kind (length v.sizes) regular.fits) in
    let size : ℕ = sample_rows rows * rows.length in
    let whole : length v.samples ≡ slice_index v.sizes (length v.sizes - 1) * size =
    regular.all_there ∙ all_slices rows v.sizes axes.0 axes.1 is in
    long_range v.samples (s * size) size (row_inside s size (slice_index v.sizes (length v.sizes - 1)) (length v.samples) inside whole)

-- the sample at x of a row of a slice
pub sample_of_slice : (v : Volume) (rows : GridRows) (s i j x : ℕ) → HasDimension v.kind (length v.sizes) → AreRowsOf v.sizes rows
    → i < rows.second.samples → j < rows.third.samples → x < rows.length
    → slice_index_or (slice_of rows v.samples s) (sample_row rows i j * rows.length + x) (pos 0)
    ≡ sample_at v.sizes v.samples (x ∷ after_first (length v.sizes) i j s)
sample_of_slice v rows s i j x fits is first second lt =
    let axes = axes_between (length v.sizes) (dimension_cases v.kind (length v.sizes) fits) in
    let row : sample_row rows i j < sample_rows rows = next_below i rows.second.samples j rows.third.samples first second in
    let within = row_inside (sample_row rows i j) rows.length (sample_rows rows) (sample_rows rows * rows.length) row refl in
    part_at v.samples (s * (sample_rows rows * rows.length)) (sample_rows rows * rows.length) (sample_row rows i j * rows.length + x)
    (omega (arith, within, lt))
    ∙ ap (λ m. slice_index_or v.samples m (pos 0)) (sym (sample_place rows v.sizes i j s x axes.0 axes.1 is first second))

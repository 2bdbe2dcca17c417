-- The centres of cubes, in three dimensions, and whether they are positive.
use Rattle.std.specs.Prelude.{ℕ, ◌+◌, ◌*◌, ◌<◌, ◌≤◌, ◌^◌, ◌≡◌, Bool, true, ◌&&◌, List, [], ◌∷◌, length, slice_index, slice_index_or}
use Rattle.std.specs.Prelude.{All, ℤ, pos, ◌+ℤ◌, unsigned_abs}
use Rattle.iso_model.specs.Turns.{total}
use Rattle.iso_model.specs.Values.{is_positive}
use Rattle.bit_rows.specs.Rows.{row_bit}
use Rattle.grid_rows.specs.declared.grids.GridRows.{GridRows}
use Rattle.grid_rows.specs.declared.planes.BitPlane.{BitPlane}
use Rattle.grid_rows.specs.Planes.{bit_row}
use Rattle.grid_rows.specs.RowNumbers.{cube_rows}
use Rattle.layer_scan.specs.declared.centres.CentreRow.{CentreRow}
use Rattle.layer_scan.specs.CubePlanes.{corner_rows, with_border}

-- the samples of a cube in one slice: two from a place on in its near row, and two in its far row
abbrev pub four_samples : List ℤ → ℕ → ℕ → List ℤ
four_samples slice near far =
    slice_index_or slice near (pos 0) ∷ slice_index_or slice (near + 1) (pos 0) ∷ slice_index_or slice far (pos 0)
    ∷ slice_index_or slice (far + 1) (pos 0) ∷ []

-- the centre is positive: the sum of the samples in the lower and in the upper slice is at least 8 times the isovalue
abbrev pub is_centre_above : ℤ → List ℤ → List ℤ → ℕ → ℕ → Bool
is_centre_above iso lower upper near far = is_positive iso (total (four_samples lower near far) +ℤ total (four_samples upper near far))

-- samples are at most 2^32 from 0
abbrev pub AreSmall : List ℤ → Type 0
AreSmall samples = All (λ s. unsigned_abs s ≤ 2 ^ 32) samples

-- ---- in a row of cubes

-- the centre of the cube at x is positive
abbrev pub is_above_in : CentreRow → ℕ → Bool
is_above_in row x = is_centre_above row.iso row.lower.now row.upper.now (row.near + x) (row.far + x)

-- there are as many samples in both slices, and all numbers are small
abbrev pub IsSound : CentreRow → Type 0
IsSound row =
    (length row.upper.now ≡ length row.lower.now) × AreSmall row.lower.now × AreSmall row.upper.now × (unsigned_abs row.iso ≤ 2 ^ 40)

-- the samples of the cube at x are in the slices
abbrev pub HoldsCube : CentreRow → ℕ → Type 0
HoldsCube row x = (row.near + x + 1 < length row.lower.now) × (row.far + x + 1 < length row.lower.now)

-- ---- in the rows of a layer

-- each kept cube lies before the last sample of its row
abbrev pub AreInside : GridRows → BitPlane → Type 0
AreInside rows kept = (c x : ℕ) → c < cube_rows rows → row_bit (bit_row kept (with_border rows c)) x ≡ true → x + 1 < rows.length

-- the first of the samples of row c of cubes, in its near and in its far row
abbrev pub near_place : GridRows → ℕ → ℕ
near_place rows c = slice_index (corner_rows rows c) 0 * rows.length

abbrev pub far_place : GridRows → ℕ → ℕ
far_place rows c = slice_index (corner_rows rows c) 1 * rows.length

-- the cube at x of row c is kept, and its centre is positive
abbrev pub centre_at : GridRows → BitPlane → ℤ → List ℤ → List ℤ → ℕ → ℕ → Bool
centre_at rows kept iso lower upper c x =
    row_bit (bit_row kept (with_border rows c)) x && is_centre_above iso lower upper (near_place rows c + x) (far_place rows c + x)

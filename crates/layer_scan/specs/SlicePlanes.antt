-- Planes of bits in which there is a row for each row of samples of a slice.
use Rattle.std.specs.Prelude.{ℕ, ◌+◌, ◌*◌, ◌<◌, Bool, List, ℤ, slice_range}
use Rattle.bit_rows.specs.Rows.{IsRowOf}
use Rattle.grid_rows.specs.declared.grids.GridRows.{GridRows}
use Rattle.grid_rows.specs.declared.planes.BitPlane.{BitPlane}
use Rattle.grid_rows.specs.Planes.{bit_row}
use Rattle.grid_rows.specs.RowNumbers.{sample_rows}

-- the samples of row n of a slice
abbrev pub samples_of : GridRows → List ℤ → ℕ → List ℤ
samples_of rows slice n = slice_range slice (n * rows.length) (n * rows.length + rows.length)

-- in each row, bit x tells something of sample x of this row of the slice
abbrev pub AreSampleBits : GridRows → (List ℤ → ℕ → Bool) → List ℤ → BitPlane → Type 0
AreSampleBits rows tells slice plane = (n : ℕ) → n < sample_rows rows → IsRowOf (tells (samples_of rows slice n)) (bit_row plane n)

-- Planes of bits in which there is a row for each row of cubes, with a border of one row on each side.
use Rattle.std.specs.Prelude.{ℕ, ◌+◌, ◌*◌, ◌/◌, ◌%◌, ◌<◌, ◌≡◌, ◌≢◌, ◌||◌, Bool, List, length}
use Rattle.bit_rows.specs.Rows.{IsRowOf, row_bit}
use Rattle.grid_rows.specs.declared.grids.GridRows.{GridRows}
use Rattle.grid_rows.specs.declared.planes.BitPlane.{BitPlane}
use Rattle.grid_rows.specs.Planes.{bit_row}
use Rattle.grid_rows.specs.RowNumbers.{bordered, bordered_rows, corners_around, cube_rows}
use Rattle.layer_scan.specs.Corners.{every_corner}

-- a plane has so many rows of so many words
abbrev pub HasRows : ℕ → ℕ → BitPlane → Type 0
HasRows rows words plane = (plane.words ≡ words) × (length plane.bits.items ≡ rows * words)

-- the number, with the border, of row c of cubes
abbrev pub with_border : GridRows → ℕ → ℕ
with_border rows c = bordered rows (c % rows.second.cubes + 1) (c / rows.second.cubes + 1)

-- the rows of samples at the corners of row c of cubes
abbrev pub corner_rows : GridRows → ℕ → List ℕ
corner_rows rows c = corners_around rows (c % rows.second.cubes) (c / rows.second.cubes)

-- in each row of cubes, bit x says whether the cube at x passes
abbrev pub AreCubeBits : GridRows → (ℕ → ℕ → Bool) → BitPlane → Type 0
AreCubeBits rows passes plane = (c : ℕ) → c < cube_rows rows → IsRowOf (passes c) (bit_row plane (with_border rows c))

-- the rows of the border, which are no rows of cubes, stay as they were
abbrev pub KeepsBorder : GridRows → BitPlane → BitPlane → Type 0
KeepsBorder rows old new = (n : ℕ) → n < bordered_rows rows → ((c : ℕ) → c < cube_rows rows → n ≢ with_border rows c)
    → bit_row new n ≡ bit_row old n

-- the cube at x of row c of cubes has the bits at all its corners set
abbrev pub every_at : BitPlane → BitPlane → GridRows → ℕ → ℕ → Bool
every_at lower upper rows c x = every_corner lower upper (corner_rows rows c) x

-- each of these rows of a plane has the bits that are set in this row of one plane or of the other
abbrev pub AreEither : ℕ → BitPlane → BitPlane → BitPlane → Type 0
AreEither rows below above plane =
    (n : ℕ) → n < rows → IsRowOf (λ x. row_bit (bit_row below n) x || row_bit (bit_row above n) x) (bit_row plane n)

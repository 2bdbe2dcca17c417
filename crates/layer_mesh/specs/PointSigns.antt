-- The signs at the points of a row of cubes, by the rows of signs in which they are.
use Rattle.std.specs.Prelude.{ℕ, ◌+◌, ◌-◌, ◌/◌, ◌%◌, ◌<◌, ◌^◌, ◌≡◌, ◌==◌, All, Bool, nat_lt, List, length, slice_index, if◌then◌else◌}
use Rattle.iso_model.specs.declared.Kind.TheVariants.{Pyramid}
use Rattle.bit_rows.specs.Rows.{row_bit}
use Rattle.grid_rows.specs.Planes.{HasRowOfBits, bit_row}
use Rattle.layer_mesh.specs.declared.signs.PointRows.{PointRows}

-- both slices have the rows of samples at the corners, in rows of equally many words, and in pyramids the centres have theirs
pub record HavePoints (d : ℕ) (rows : PointRows) : Type 0 where
  pub words : rows.upper.now.words ≡ rows.lower.now.words
  pub four : length rows.row.corners ≡ 4
  pub lower : All (HasRowOfBits rows.lower.now) rows.row.corners
  pub upper : All (HasRowOfBits rows.upper.now) rows.row.corners
  pub centres : rows.kind ≡ Pyramid → HasRowOfBits rows.centres.now rows.row.number × (rows.centres.now.words ≡ rows.lower.now.words)

-- corner k of the cube at x in a grid of d axes: bit 0 of k goes on along axis 0, the last bit to the upper slice, and those between along the
-- middle axes
abbrev pub corner_sign : ℕ → PointRows → ℕ → ℕ → Bool
corner_sign d rows k x =
    let plane = if nat_lt k (2 ^ (d - 1)) then rows.lower.now else rows.upper.now in
    row_bit (bit_row plane (slice_index rows.row.corners (k / 2 % 2 ^ (d - 2)))) (if k % 2 == 1 then x + 1 else x)

-- the centre of the cube at x
abbrev pub centre_sign : PointRows → ℕ → Bool
centre_sign rows x = row_bit (bit_row rows.centres.now rows.row.number) x

-- What a scan keeps from slice to slice.
use Rattle.std.specs.Prelude.{◌≡◌, ◌≢◌, ◌≤◌, ◌<◌, ◌^◌, ◌*◌, ◌-◌, ℕ, ℤ, Option, false, true, unsigned_abs}
use Rattle.bit_rows.specs.Rows.{row_bit, word_count}
use Rattle.grid_rows.specs.declared.grids.GridRows.{GridRows}
use Rattle.grid_rows.specs.declared.planes.BitPlane.{BitPlane}
use Rattle.grid_rows.specs.Planes.{bit_row}
use Rattle.grid_rows.specs.RowNumbers.{bordered_rows, cube_rows, sample_rows}
use Rattle.layer_scan.specs.declared.scan.LayerPlanes.{LayerPlanes}
use Rattle.layer_scan.specs.CubePlanes.{HasRows, with_border}

-- no bit is set in the border of a plane of cubes
abbrev pub HasClearBorder : GridRows → BitPlane → Type 0
HasClearBorder rows plane = (n : ℕ) → n < bordered_rows rows → ((c : ℕ) → c < cube_rows rows → n ≢ with_border rows c)
    → (x : ℕ) → row_bit (bit_row plane n) x ≡ false

-- in each of these rows of a plane, bits are set below this place alone
abbrev pub HasBitsBelow : ℕ → ℕ → BitPlane → Type 0
HasBitsBelow rows place plane = (n x : ℕ) → n < rows → row_bit (bit_row plane n) x ≡ true → x < place

-- no bit is set in these rows of a plane
abbrev pub HasNoBit : ℕ → BitPlane → Type 0
HasNoBit rows plane = (n x : ℕ) → n < rows → row_bit (bit_row plane n) x ≡ false

-- a plane has so many rows of so many words, and no bit is set
abbrev pub IsNewPlane : ℕ → ℕ → BitPlane → Type 0
IsNewPlane rows words plane = HasRows rows words plane × HasNoBit rows plane

-- a slice has a sample in each row, rows have words for their samples, and a slice has as few samples as a grid
pub record HasFewSamples (rows : GridRows) : Type 0 where
  pub some : 1 ≤ rows.length
  pub words : rows.words ≡ word_count rows.length
  pub few : rows.length * sample_rows rows ≤ 2 ^ 27

-- the planes have the rows of the grid, and no cube is kept in the border, nor where a row has no cube
pub record HasPlanes (scan : LayerPlanes) : Type 0 where
  pub some : 1 ≤ scan.rows.length
  pub words : scan.rows.words ≡ word_count scan.rows.length
  pub few : scan.rows.words ≤ 2 ^ 40
  pub samples : HasFewSamples scan.rows
  pub iso : unsigned_abs scan.iso ≤ 2 ^ 40
  pub below_signs : HasRows (sample_rows scan.rows) scan.rows.words scan.below_signs
  pub lower_signs : HasRows (sample_rows scan.rows) scan.rows.words scan.lower_signs
  pub upper_signs : HasRows (sample_rows scan.rows) scan.rows.words scan.upper_signs
  pub lower_clear : HasRows (sample_rows scan.rows) scan.rows.words scan.lower_clear
  pub upper_clear : HasRows (sample_rows scan.rows) scan.rows.words scan.upper_clear
  pub kept_below : HasRows (bordered_rows scan.rows) scan.rows.words scan.kept_below
  pub kept : HasRows (bordered_rows scan.rows) scan.rows.words scan.kept
  pub around : HasRows (bordered_rows scan.rows) scan.rows.words scan.around
  pub border_below : HasClearBorder scan.rows scan.kept_below
  pub border : HasClearBorder scan.rows scan.kept
  pub lower_within : HasBitsBelow (sample_rows scan.rows) scan.rows.length scan.lower_clear
  pub upper_within : HasBitsBelow (sample_rows scan.rows) scan.rows.length scan.upper_clear
  pub below_within : HasBitsBelow (bordered_rows scan.rows) (scan.rows.length - 1) scan.kept_below
  pub within : HasBitsBelow (bordered_rows scan.rows) (scan.rows.length - 1) scan.kept
  pub around_within : HasBitsBelow (bordered_rows scan.rows) (scan.rows.length - 1) scan.around

-- both scans are of one grid at one isovalue, with one blank value
abbrev pub IsSameScan : LayerPlanes → LayerPlanes → Type 0
IsSameScan old new = (new.rows ≡ old.rows) × (new.iso ≡ old.iso) × (new.blank ≡ old.blank)

-- the slices and the layers have moved on by one: what was above is below now, and what stood below is left to be written
abbrev pub IsMovedOn : LayerPlanes → LayerPlanes → Type 0
IsMovedOn old new = new ≡ record old {
  below_signs = old.lower_signs;
  lower_signs = old.upper_signs;
  upper_signs = old.below_signs;
  lower_clear = old.upper_clear;
  upper_clear = old.lower_clear;
  kept_below = old.kept;
  kept = old.kept_below;
}

-- a scan of a grid that has these rows, at this isovalue, with this blank value, has met nothing: no cube is kept below
pub record IsNewScan (rows : GridRows) (iso : ℤ) (blank : Option ℤ) (scan : LayerPlanes) : Type 0 where
  pub planes : HasPlanes scan
  pub same_rows : scan.rows ≡ rows
  pub same_iso : scan.iso ≡ iso
  pub same_blank : scan.blank ≡ blank
  pub none_below : HasNoBit (bordered_rows rows) scan.kept_below

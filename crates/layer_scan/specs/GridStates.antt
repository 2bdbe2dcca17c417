-- What the planes of a scan tell of a grid when one of its slices is the lower one.
use Rattle.std.specs.Prelude.{ℕ, ◌+◌, ◌-◌, ◌*◌, ◌<◌, ◌≤◌, ◌≡◌, true, ◌∷◌, List, Bool, false, Option, ℤ, length, slice_index, slice_index_or}
use Rattle.iso_model.specs.Values.{IsRegularVolume, Volume, sample_at, without_blank}
use Rattle.bit_rows.specs.Rows.{row_bit}
use Rattle.bit_rows.specs.SampleRows.{is_clear}
use Rattle.grid_rows.specs.declared.grids.GridRows.{GridRows}
use Rattle.grid_rows.specs.declared.planes.BitPlane.{BitPlane}
use Rattle.grid_rows.specs.Planes.{bit_row}
use Rattle.grid_rows.specs.RowNumbers.{bordered_rows, sample_row}
use Rattle.edge_middles.specs.WhatIsThere.{has_cube_at}
use Rattle.layer_scan.specs.declared.scan.LayerPlanes.{LayerPlanes}
use Rattle.layer_scan.specs.CubePlanes.{AreEither}
use Rattle.layer_scan.specs.GridPlanes.{AreRowsOf, TellsBelow, TellsKept, TellsSigns, after_first, slice_of}

-- the planes are those of a scan of this grid at this isovalue
pub record IsScanOf (v : Volume) (planes : LayerPlanes) : Type 0 where
  pub regular : IsRegularVolume v
  pub rows : AreRowsOf v.sizes planes.rows
  pub iso : planes.iso ≡ v.iso

-- how many slices a grid has
abbrev pub slice_count : Volume → ℕ
slice_count v = slice_index v.sizes (length v.sizes - 1)

-- a plane tells of each sample of slice s whether it is not the blank value
abbrev pub TellsClear : Volume → Option ℤ → GridRows → ℕ → BitPlane → Type 0
TellsClear v blank rows s plane = (i j x : ℕ) → i < rows.second.samples → j < rows.third.samples → x < rows.length
    → row_bit (bit_row plane (sample_row rows i j)) x ≡ is_clear blank (sample_at v.sizes v.samples (x ∷ after_first (length v.sizes) i j s))

-- a cube of layer s is kept where none of its samples is the blank value
abbrev pub KeepsClear : Volume → Option ℤ → ℕ → Type 0
KeepsClear v blank s = (i j x : ℕ) → has_cube_at v.sizes (x ∷ after_first (length v.sizes) i j s) ≡ true
    → v.kept (x ∷ after_first (length v.sizes) i j s) ≡ without_blank v.sizes v.samples blank (x ∷ after_first (length v.sizes) i j s)

-- flags say which cubes of layer s are kept, in the order of cube numbers
abbrev pub AreFlagsOf : Volume → GridRows → ℕ → List Bool → Type 0
AreFlagsOf v rows s flags = (i j x : ℕ) → i < rows.second.cubes → j < rows.third.cubes → x < rows.length - 1
    → has_cube_at v.sizes (x ∷ after_first (length v.sizes) i j s) ≡ true
    → v.kept (x ∷ after_first (length v.sizes) i j s) ≡ slice_index_or flags ((i + rows.second.cubes * j) * (rows.length - 1) + x) false

-- ---- how a scan stands

-- slice s is the lower one, and the cubes below it are known
pub record StandsAt (v : Volume) (s : ℕ) (planes : LayerPlanes) : Type 0 where
  pub scan : IsScanOf v planes
  pub signs : TellsSigns v planes.rows s planes.lower_signs
  pub clear : TellsClear v planes.blank planes.rows s planes.lower_clear
  pub below : TellsBelow v planes.rows s planes.kept_below

-- slice s is the lower one, and the slice after it the upper one, so that the cubes on both sides of the lower one are known
pub record StandsBetween (v : Volume) (s : ℕ) (planes : LayerPlanes) : Type 0 where
  pub lower : StandsAt v s planes
  pub signs : TellsSigns v planes.rows (s + 1) planes.upper_signs
  pub clear : TellsClear v planes.blank planes.rows (s + 1) planes.upper_clear
  pub kept : TellsKept v planes.rows s planes.kept
  pub around : AreEither (bordered_rows planes.rows) planes.kept_below planes.kept planes.around

-- where there is a slice below the lower one, its signs are known
abbrev pub HasSignsBelow : Volume → ℕ → LayerPlanes → Type 0
HasSignsBelow v s planes = 1 ≤ s → TellsSigns v planes.rows (s - 1) planes.below_signs

-- ---- what a scan takes

-- slice s as the lower one, when the cubes below it are known
pub record TakesLower (v : Volume) (s : ℕ) (lower : List ℤ) (planes : LayerPlanes) : Type 0 where
  pub scan : IsScanOf v planes
  pub inside : s < slice_count v
  pub slice : lower ≡ slice_of planes.rows v.samples s
  pub below : TellsBelow v planes.rows s planes.kept_below

-- the slice after slice s, which is the lower one
pub record TakesUpper (v : Volume) (s : ℕ) (upper : List ℤ) (planes : LayerPlanes) : Type 0 where
  pub lower : StandsAt v s planes
  pub inside : s + 1 < slice_count v
  pub slice : upper ≡ slice_of planes.rows v.samples (s + 1)
  pub keeps : KeepsClear v planes.blank s

-- flags that say which cubes of layer s are kept
pub record TakesFlags (v : Volume) (s : ℕ) (flags : List Bool) (planes : LayerPlanes) : Type 0 where
  pub scan : IsScanOf v planes
  pub inside : s + 1 < slice_count v
  pub flags_of : AreFlagsOf v planes.rows s flags

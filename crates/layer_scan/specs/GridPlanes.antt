-- What the planes of a scan tell of a grid.
use Rattle.std.specs.Prelude.{ℕ, ◌+◌, ◌*◌, ◌-◌, ◌/◌, ◌%◌, ◌<◌, ◌≤◌, ◌≡◌, Bool, false, List, [], ◌∷◌, ◌++◌, ℤ, length, map, slice_index, slice_range, take}
use Rattle.iso_model.specs.Cells.{HasDimension}
use Rattle.iso_model.specs.Values.{IsRegularVolume, Volume}
use Rattle.bit_rows.specs.Rows.{row_bit}
use Rattle.bit_rows.specs.SampleRows.{is_above}
use Rattle.grid_rows.specs.declared.grids.GridRows.{GridRows}
use Rattle.grid_rows.specs.declared.planes.BitPlane.{BitPlane}
use Rattle.grid_rows.specs.MiddleAxes.{axis_of, edge_span}
use Rattle.grid_rows.specs.Planes.{bit_row}
use Rattle.grid_rows.specs.RowNumbers.{bordered, bordered_rows, cube_rows, cubes_around, sample_row, sample_rows}
use Rattle.edge_middles.specs.PlainCubes.{HasOneSign}
use Rattle.edge_middles.specs.WhatIsThere.{is_above_at, is_kept_around, is_kept_at}
use Rattle.layer_scan.specs.Corners.{mixed_corners}
use Rattle.layer_scan.specs.CubePlanes.{AreEither, corner_rows}
use Rattle.layer_scan.specs.RowsOfEdges.{around}
use Rattle.layer_scan.specs.ScanPlanes.{HasClearBorder, HasNoBit}
use Rattle.layer_scan.specs.SlicePlanes.{AreSampleBits}

-- the rows are those of a grid of these sizes
pub record AreRowsOf (sizes : List ℕ) (rows : GridRows) : Type 0 where
  pub first : rows.length ≡ slice_index sizes 0
  pub second : rows.second ≡ axis_of sizes 1
  pub third : rows.third ≡ axis_of sizes 2

-- the samples of slice s
abbrev pub slice_of : GridRows → List ℤ → ℕ → List ℤ
slice_of rows samples s = slice_range samples (s * (sample_rows rows * rows.length)) (s * (sample_rows rows * rows.length) + sample_rows rows * rows.length)

-- the coordinates after the first: of i and j those along the middle axes that a grid of so many axes has, and the height
abbrev pub after_first : ℕ → ℕ → ℕ → ℕ → List ℕ
after_first axes i j height = take (axes - 2) (i ∷ j ∷ []) ++ height ∷ []

-- a plane tells of each sample of slice s whether it is at least the isovalue
abbrev pub TellsSigns : Volume → GridRows → ℕ → BitPlane → Type 0
TellsSigns v rows s plane = (i j x : ℕ) → i < rows.second.samples → j < rows.third.samples → x < rows.length
    → row_bit (bit_row plane (sample_row rows i j)) x ≡ is_above_at v (x ∷ after_first (length v.sizes) i j s)

-- a plane that has the signs of the samples of slice s of a grid does
abbrev pub HasSignsOfSlice : Volume → GridRows → ℕ → BitPlane → Type 0
HasSignsOfSlice v rows s plane = IsRegularVolume v → AreRowsOf v.sizes rows → s < slice_index v.sizes (length v.sizes - 1)
    → AreSampleBits rows (is_above v.iso) (slice_of rows v.samples s) plane → TellsSigns v rows s plane

-- ---- kept cubes

-- a plane tells of each cube of layer s whether it is kept, and has no bit in its border
pub record TellsKept (v : Volume) (rows : GridRows) (s : ℕ) (plane : BitPlane) : Type 0 where
  pub clear : HasClearBorder rows plane
  pub cubes : (i j x : ℕ) → i < rows.second.cubes → j < rows.third.cubes
      → row_bit (bit_row plane (bordered rows (i + 1) (j + 1))) x ≡ is_kept_at v (x ∷ after_first (length v.sizes) i j s)

-- around the rows of edges from slice s to the next one, of the cubes at x one is kept where the plane of layer s says so
abbrev pub IsKeptUpright : Volume → GridRows → ℕ → BitPlane → Type 0
IsKeptUpright v rows s plane = HasDimension v.kind (length v.sizes) → AreRowsOf v.sizes rows → TellsKept v rows s plane
    → (i j x : ℕ) → i < edge_span rows.second → j < edge_span rows.third
    → around (map (bit_row plane) (cubes_around rows i j)) x ≡ is_kept_around v (after_first (length v.sizes) (2 * i) (2 * j) (4 * s + 2)) x

-- a plane tells which cubes below slice s are kept: none below the first slice, and else those of the layer below
abbrev pub TellsBelow : Volume → GridRows → ℕ → BitPlane → Type 0
TellsBelow v rows s plane = (s ≡ 0 → HasNoBit (bordered_rows rows) plane) × (1 ≤ s → TellsKept v rows (s - 1) plane)

-- around the rows of edges in a slice, of the cubes at x one is kept where the planes of the layers below and above it say so
abbrev pub IsKeptAtSlice : Volume → GridRows → ℕ → BitPlane → BitPlane → BitPlane → Type 0
IsKeptAtSlice v rows s below above plane = HasDimension v.kind (length v.sizes) → AreRowsOf v.sizes rows → TellsBelow v rows s below
    → TellsKept v rows s above → AreEither (bordered_rows rows) below above plane → (i j x : ℕ) → i < edge_span rows.second → j < edge_span rows.third
    → around (map (bit_row plane) (cubes_around rows i j)) x ≡ is_kept_around v (after_first (length v.sizes) (2 * i) (2 * j) (4 * s)) x

-- around those of the last slice, where the plane of the layer below it says so
abbrev pub IsKeptAtLast : Volume → GridRows → ℕ → BitPlane → Type 0
IsKeptAtLast v rows s below = HasDimension v.kind (length v.sizes) → AreRowsOf v.sizes rows → s + 1 ≡ slice_index v.sizes (length v.sizes - 1)
    → TellsBelow v rows s below → (i j x : ℕ) → i < edge_span rows.second → j < edge_span rows.third
    → around (map (bit_row below) (cubes_around rows i j)) x ≡ is_kept_around v (after_first (length v.sizes) (2 * i) (2 * j) (4 * s)) x

-- ---- cubes of one sign

-- a cube of a layer whose corners do not differ in the planes of the signs of its two slices has corners of one sign
abbrev pub IsPlainUnlessMixed : Volume → GridRows → ℕ → BitPlane → BitPlane → Type 0
IsPlainUnlessMixed v rows s lower upper = HasDimension v.kind (length v.sizes) → AreRowsOf v.sizes rows → TellsSigns v rows s lower
    → TellsSigns v rows (s + 1) upper → (c x : ℕ) → c < cube_rows rows → x + 1 < rows.length
    → mixed_corners lower upper (corner_rows rows c) x ≡ false
    → (above : Bool) × HasOneSign v (x ∷ after_first (length v.sizes) (c % rows.second.cubes) (c / rows.second.cubes) s) above

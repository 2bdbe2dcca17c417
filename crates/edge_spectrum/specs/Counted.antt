-- What a row of edges adds to the counts.
use Rattle.std.specs.Prelude.{ℕ, ◌+◌, ◌^◌, ◌<◌, ◌≤◌, ◌≡◌, ◌==◌, nat_lt, Bool, false, List, ℤ, pos, ◌+ℤ◌, int_le, None, length, slice_index, slice_index_or, All, count_by}
use Rattle.std.specs.Prelude.{unsigned_abs}
use Rattle.lists.specs.Orders.{numbers}
use Rattle.iso_model.specs.declared.Kind.{Kind}
use Rattle.iso_model.specs.declared.Kind.TheVariants.{Cube, Simplex, Pyramid}
use Rattle.iso_model.specs.Bipolar.{differ}
use Rattle.iso_model.specs.Cells.{HasDimension}
use Rattle.iso_model.specs.Values.{Grid, IsRegularGrid, Volume, is_positive, volume}
use Rattle.grid_rows.specs.declared.grids.GridRows.{GridRows}
use Rattle.grid_rows.specs.MiddleAxes.{axis_of}
use Rattle.edge_spectrum.specs.declared.cubes.Cubes.{Cubes}
use Rattle.edge_spectrum.specs.Growing.{one_if}

-- no sample has more than 32 bits beside its sign
abbrev pub AreSmall : List ℤ → Type 0
AreSmall samples = All (λ s. unsigned_abs s ≤ 2 ^ 32) samples

-- a regular grid that has cubes, with its rows
pub record IsWalked (kind : Kind) (grid : Grid) (rows : GridRows) : Type 0 where
  pub regular : IsRegularGrid grid
  pub fits : HasDimension kind (length grid.sizes)
  pub cubes : All (λ n. 2 ≤ n) grid.sizes
  pub first : rows.length ≡ slice_index grid.sizes 0
  pub second : rows.second ≡ axis_of grid.sizes 1
  pub third : rows.third ≡ axis_of grid.sizes 2

-- the grid at an isovalue, with no cube left out
abbrev pub grid_at : Kind → Grid → ℤ → Volume
grid_at kind grid iso = volume kind grid iso None

-- an edge of a split that joins samples goes along one axis, and that of a simplex along one or more
abbrev pub goes_along : Kind → ℕ → Bool
goes_along Cube axes = axes == 1
goes_along Simplex axes = nat_lt 0 axes
goes_along Pyramid axes = axes == 1

-- along how many axes but axis 0 the edges of a row go: along these of the two middle axes, and from slice to slice
abbrev pub axes_of : List Bool → Bool → ℕ
axes_of along upright = one_if (slice_index_or along 0 false) + one_if (slice_index_or along 1 false) + one_if upright

-- the sample at a place
abbrev pub sample : List ℤ → ℕ → ℤ
sample samples place = slice_index_or samples place (pos 0)

-- it is at least an isovalue
abbrev pub reaches : List ℤ → ℤ → ℕ → Bool
reaches samples iso place = int_le iso (sample samples place)

-- of so many samples from one place on and as many from another, the pairs of which one is at least an isovalue and the other is below it
abbrev pub apart : List ℤ → ℕ → ℕ → ℕ → ℤ → ℕ
apart samples near far count iso = count_by (λ x. differ (reaches samples iso (near + x)) (reaches samples iso (far + x))) (numbers count)

-- ---- centres of cubes

-- the two samples along axis 0 from a place on
abbrev pub pair_total : List ℤ → ℕ → ℤ
pair_total samples first = sample samples first +ℤ sample samples (first + 1)

-- the four samples along axes 0 and 1, where the next along axis 1 is so many places further
abbrev pub square_total : List ℤ → ℕ → ℕ → ℤ
square_total samples first row = pair_total samples first +ℤ pair_total samples (first + row)

-- the eight samples of a cube, where the next along axis 2 is so many places further
abbrev pub cube_total : List ℤ → ℕ → ℕ → ℕ → ℤ
cube_total samples first row slice = square_total samples first row +ℤ square_total samples (first + slice) row

-- the samples of the cubes of a row are there
abbrev pub AreWithin : List ℤ → Cubes → Type 0
AreWithin samples cubes = cubes.first + cubes.count + cubes.slice + cubes.row < length samples

-- the centre of the cube at x in a row is at least an isovalue, as eighths go
abbrev pub is_centre_above : List ℤ → Cubes → ℤ → ℕ → Bool
is_centre_above samples cubes iso x = is_positive iso (cube_total samples (cubes.first + x) cubes.row cubes.slice)

-- of the centres of so many cubes of a row and as many samples from a place on, the pairs of which one is at least an isovalue and the other is below it
abbrev pub apart_from : List ℤ → Cubes → ℕ → ℕ → ℤ → ℕ
apart_from samples cubes corner count iso =
    count_by (λ x. differ (is_centre_above samples cubes iso x) (reaches samples iso (corner + x))) (numbers count)

-- The vertices on the edges of a plane, by what a grid has.
use Rattle.std.specs.Prelude.{ℕ, ◌+◌, ◌-◌, ◌*◌, ◌/◌, ◌%◌, ◌<◌, ◌≤◌, ◌^◌, ◌≡◌, ◌==◌, List, [], ◌∷◌, length, map, slice_index, slice_range}
use Rattle.std.specs.Prelude.{ℤ, if◌then◌else◌, unsigned_abs}
use Rattle.lists.specs.Orders.{numbers}
use Rattle.iso_model.specs.declared.Kind.TheVariants.{Pyramid}
use Rattle.iso_model.specs.Crossing.{vertex_of}
use Rattle.iso_model.specs.Values.{IsRegularVolume, Volume, product}
use Rattle.edge_middles.specs.MeshMiddles.{middles_between}
use Rattle.edge_middles.specs.Middles.{edge_at}
use Rattle.edge_vertex.specs.Sums.{AreSmall}
use Rattle.bit_rows.specs.Rows.{word_count}
use Rattle.grid_rows.specs.declared.grids.GridRows.{GridRows}
use Rattle.grid_rows.specs.declared.planes.EdgePlane.{EdgePlane}
use Rattle.grid_rows.specs.MiddleAxes.{edge_span}
use Rattle.grid_rows.specs.RowNumbers.{cube_rows, edge_rows, sample_row, upper_half}
use Rattle.layer_scan.specs.GridEdges.{TellsCentreEdges, TellsEdges}
use Rattle.layer_scan.specs.GridPlanes.{AreRowsOf, slice_of}
use Rattle.layer_scan.specs.RowsOfEdges.{HasEdgeRows}
use Rattle.layer_mesh.specs.declared.vertices.Heights.{Heights}

-- the vertices of the mesh at a height: where the edges at the midpoints there are crossed, in ascending order
abbrev pub vertices_at : Volume → ℕ → List (List ℤ)
vertices_at v height = map (λ m. vertex_of v (edge_at m)) (middles_between v height (height + 1))

-- ---- where the rows of a plane stand

-- the samples of row n of a slice
abbrev pub row_samples : GridRows → List ℤ → ℕ → List ℤ
row_samples rows slice n = slice_range slice (n * rows.length) (n * rows.length + rows.length)

-- the rows of samples at the near and at the far ends of row n of edges
abbrev pub near_of : GridRows → ℕ → ℕ
near_of rows n = sample_row rows (n % edge_span rows.second / 2) (n / edge_span rows.second / 2)

abbrev pub far_of : GridRows → ℕ → ℕ
far_of rows n = sample_row rows (upper_half (n % edge_span rows.second)) (upper_half (n / edge_span rows.second))

-- the first midpoint of row n of a plane at a height, in a grid of d axes: at half steps along the middle axes
abbrev pub first_middle : GridRows → ℕ → ℕ → ℕ → List ℕ
first_middle rows d height n =
    map (λ axis. if axis + 1 == d then height else slice_index (0 ∷ 2 * (n % edge_span rows.second) ∷ 2 * (n / edge_span rows.second) ∷ []) axis) (numbers d)

-- the slice that has the corners at the ends of edges to centres: the upper one where the centres lie a quarter below it
abbrev pub corner_slice : Heights → List ℤ
corner_slice heights = if heights.height % 4 == 3 then heights.upper.now else heights.lower.now

-- ---- what a plane tells

-- a grid of d axes that is scanned by these rows at an isovalue: it is no larger than a grid may be, and its numbers are small
pub record IsScanned (v : Volume) (d : ℕ) (rows : GridRows) (iso : ℤ) : Type 0 where
  pub regular : IsRegularVolume v
  pub axes : length v.sizes ≡ d
  pub few : product v.sizes ≤ 2 ^ 27
  pub small : AreSmall v.samples
  pub stand : AreRowsOf v.sizes rows
  pub words : rows.words ≡ word_count rows.length
  pub same_iso : iso ≡ v.iso
  pub iso_small : unsigned_abs v.iso ≤ 2 ^ 40

-- the plane tells which edges there are at a height, in a slice or half way between two, and the slices there are those of the grid
pub record TellsPlane (v : Volume) (d : ℕ) (rows : GridRows) (plane : EdgePlane) (heights : Heights) : Type 0 where
  pub grid : IsScanned v d rows heights.iso
  pub even : heights.height % 2 ≡ 0
  pub inside : (heights.height + 2) / 4 < slice_index v.sizes (d - 1)
  pub lower : heights.lower.now ≡ slice_of rows v.samples (heights.height / 4)
  pub upper : heights.upper.now ≡ slice_of rows v.samples ((heights.height + 2) / 4)
  pub whole : HasEdgeRows (edge_rows rows) rows.words plane
  pub edges : TellsEdges v rows heights.height plane

-- the plane tells which edges there are between the centres of pyramids and the slice at a quarter from them, and the slices are those below and
-- above the centres
pub record TellsCentrePlane (v : Volume) (d : ℕ) (rows : GridRows) (plane : EdgePlane) (heights : Heights) : Type 0 where
  pub grid : IsScanned v d rows heights.iso
  pub pyramids : v.kind ≡ Pyramid
  pub odd : heights.height % 2 ≡ 1
  pub inside : heights.height / 4 + 1 < slice_index v.sizes (d - 1)
  pub lower : heights.lower.now ≡ slice_of rows v.samples (heights.height / 4)
  pub upper : heights.upper.now ≡ slice_of rows v.samples (heights.height / 4 + 1)
  pub whole : HasEdgeRows (2 * cube_rows rows) rows.words plane
  pub edges : TellsCentreEdges v rows heights.height plane

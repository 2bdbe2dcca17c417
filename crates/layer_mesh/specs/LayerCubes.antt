-- The simplices of a layer of cubes, row by row, and what is told of the layer to put them.
use Rattle.std.specs.Prelude.{ℕ, ◌+◌, ◌-◌, ◌*◌, ◌<◌, ◌≤◌, ◌^◌, ◌≡◌, ◌&&◌, Bool, true, nat_lt, Contains, List, [], flat_map, length, slice_index, if◌then◌else◌}
use Rattle.lists.specs.Orders.{numbers}
use Rattle.iso_model.specs.Bipolar.{bipolar_edges}
use Rattle.iso_model.specs.Placed.{cell_simplices}
use Rattle.iso_model.specs.Splits.{cube_at}
use Rattle.iso_model.specs.Tables.{Table}
use Rattle.iso_model.specs.Values.{Volume, cells}
use Rattle.bit_rows.specs.Rows.{row_bit}
use Rattle.grid_rows.specs.declared.grids.GridRows.{GridRows}
use Rattle.grid_rows.specs.Planes.{bit_row}
use Rattle.grid_rows.specs.RowNumbers.{cube_rows}
use Rattle.edge_middles.specs.HeldMiddles.{cells_in}
use Rattle.edge_middles.specs.MeshMiddles.{HasBipolarEntry}
use Rattle.layer_scan.specs.declared.edges.LayerEdges.{LayerEdges}
use Rattle.layer_scan.specs.declared.scan.LayerPlanes.{LayerPlanes}
use Rattle.layer_scan.specs.Corners.{mixed_corners}
use Rattle.layer_scan.specs.CubeNumbers.{cube_number}
use Rattle.layer_scan.specs.CubePlanes.{corner_rows, with_border}
use Rattle.layer_scan.specs.GridEdges.{TellsCubes}
use Rattle.layer_scan.specs.GridPlanes.{TellsKept, TellsSigns}
use Rattle.layer_scan.specs.ScanEdges.{HasEdges}
use Rattle.layer_scan.specs.ScanPlanes.{HasPlanes}

-- the simplices of the cells of a cube, where it is kept
abbrev pub cube_simplices : Volume → Table → ℕ → List (List ℕ)
cube_simplices v t cube =
    if v.kept (cube_at v.sizes cube) then flat_map (cell_simplices v t (bipolar_edges v)) (cells_in v.kind v.sizes cube) else []

-- of the cubes of row c of layer s
abbrev pub row_simplices : Volume → Table → GridRows → ℕ → ℕ → List (List ℕ)
row_simplices v t rows s c = flat_map (λ x. cube_simplices v t (cube_number rows s c x)) (numbers (rows.length - 1))

-- of the cube at x of the row, where there is one
abbrev pub place_simplices : Volume → Table → GridRows → ℕ → ℕ → ℕ → List (List ℕ)
place_simplices v t rows s c x = if nat_lt (x + 1) rows.length then cube_simplices v t (cube_number rows s c x) else []

-- of word w of the row, place by place
unfoldable pub word_simplices : Volume → Table → GridRows → ℕ → ℕ → ℕ → List (List ℕ)
word_simplices v t rows s c w = flat_map (λ k. place_simplices v t rows s c (64 * w + k)) (numbers 64)

-- of layer s, row by row
abbrev pub layer_simplices : Volume → Table → GridRows → ℕ → List (List ℕ)
layer_simplices v t rows s = flat_map (row_simplices v t rows s) (numbers (cube_rows rows))

-- how many cubes lie below slice s
abbrev pub cubes_below : GridRows → ℕ → ℕ
cubes_below rows s = (rows.length - 1) * (cube_rows rows * s)

-- of all cubes whose numbers are below this one
abbrev pub simplices_below : Volume → Table → ℕ → List (List ℕ)
simplices_below v t cube = flat_map (cube_simplices v t) (numbers cube)

-- a table is one of the cells of a grid of d axes, and the entries of the labels of kept cells have bipolar edges alone
pub record SuitsVolume (v : Volume) (d : ℕ) (t : Table) : Type 0 where
  pub axes : length v.sizes ≡ d
  pub kind : t.kind ≡ v.kind
  pub entries : (cell : ℕ) → Contains (cells v) cell → HasBipolarEntry v t cell

-- layer s of a grid lies below the lower slice of a scan: the signs of its two slices, its kept cubes and its edges are known
pub record TellsLayerBelow (v : Volume) (d : ℕ) (t : Table) (s : ℕ) (planes : LayerPlanes) (edges : LayerEdges) : Type 0 where
  pub table : SuitsVolume v d t
  pub scan : HasPlanes planes
  pub rows_of_edges : HasEdges planes.rows edges
  pub below : TellsSigns v planes.rows s planes.below_signs
  pub lower : TellsSigns v planes.rows (s + 1) planes.lower_signs
  pub kept : TellsKept v planes.rows s planes.kept_below
  pub cubes : TellsCubes v planes.rows s edges

-- the cube at x of row c is kept, and its corners have both signs
abbrev pub is_mixed_at : LayerPlanes → ℕ → ℕ → Bool
is_mixed_at planes c x =
    mixed_corners planes.below_signs planes.lower_signs (corner_rows planes.rows c) x
    && row_bit (bit_row planes.kept_below (with_border planes.rows c)) x

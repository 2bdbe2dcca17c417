-- What is made of each bipolar edge and of each cell: a vertex, and the placed tuples of an entry.
use Rattle.std.specs.Prelude.{◌≡◌, ℕ, ◌+◌, ◌*◌, ◌<◌, Bool, true, None, List, ◌++◌, length, map, flat_map, slice_index, ℤ, Result, Vec, OnOk}
use Rattle.std.specs.List.{range_with_len}
use Rattle.iso_model.specs.declared.Kind.{Kind}
use Rattle.iso_model.specs.Cells.{edge_count, label_count}
use Rattle.iso_model.specs.Splits.{Edge, edge, is_odd_cell, cells_per_cube}
use Rattle.iso_model.specs.Values.{Grid, Volume, volume, cells, HasValue, value_at, is_positive}
use Rattle.iso_model.specs.Bipolar.{differ, is_bipolar_in, place_in}
use Rattle.iso_model.specs.Crossing.{crossing}
use Rattle.iso_model.specs.Tables.{Table, IsTable, entry_of}
use Rattle.iso_model.specs.Acceptance.{rule_edges}
use Rattle.iso_model.specs.Placed.{placed_tuple, cell_simplices}
use Rattle.cube_cells.specs.declared.cubes.SignedCube.{SignedCube}
use Rattle.cube_cells.specs.SignedCubes.{IsSignedCube, WhereRead}
use Rattle.edge_vertex.specs.EdgeEnds.{AreNear}

-- the entry of each label keeps the rule of bipolar edges: its tuples have D different edges, all bipolar in the label, and each edge that is
-- bipolar in it stands in one of them
abbrev pub EachKeepsEdges : Kind → ℕ → Table → Type 0
EachKeepsEdges kind d t = (label : ℕ) → label < label_count kind d → rule_edges kind d label (entry_of t label) ≡ true

-- a table fits a grid: it is one of cells of this kind in the dimension of the grid, and each entry has the bipolar edges of its label and no others
pub record FitsGrid (kind : Kind) (g : Grid) (t : Table) : Type 0 where
  pub table : IsTable t
  pub same_kind : t.kind ≡ kind
  pub same_dimension : t.dimension ≡ length g.sizes
  pub keeps_edges : EachKeepsEdges kind (length g.sizes) t

-- an edge of a grid can be crossed at an isovalue: both ends have values, they are near, and one is positive and the other is not
pub record IsCrossed (g : Grid) (iso : ℤ) (e : Edge) : Type 0 where
  pub low : HasValue g.sizes e.low
  pub high : HasValue g.sizes e.high
  pub near : AreNear e.low e.high
  pub bipolar : differ (is_positive iso (value_at g.sizes g.samples e.low)) (is_positive iso (value_at g.sizes g.samples e.high)) ≡ true

-- where an edge of a grid is crossed, by the values of its ends
abbrev pub vertex_on : Grid → ℤ → Edge → List ℤ
vertex_on g iso e = crossing e (value_at g.sizes g.samples e.low) (value_at g.sizes g.samples e.high) iso

-- the edges of a cell that are bipolar in the label stand in the list
abbrev pub ListsEdges : Kind → ℕ → List ℕ → List Edge → ℕ → ℕ → Type 0
ListsEdges kind d sizes edges cell label =
    (e : ℕ) → e < edge_count kind d → is_bipolar_in kind d label e ≡ true → place_in edges (edge kind sizes cell e) < length edges

-- a cube was read in some grid, and the edges of its cell of this rank that are bipolar in the label stand in the list; each cube has this many cells
pub record HasListedEdges {D : ℕ} (kind : Kind) (per : ℕ) (edges : List Edge) (cube : SignedCube D) (rank label : ℕ) : Type 0 where
  pub grid : Grid
  pub iso : ℤ
  pub number : ℕ
  pub axes : length grid.sizes ≡ D
  pub was_read : IsSignedCube grid iso number cube
  pub listed : ListsEdges kind D grid.sizes edges (number * per + rank) label

-- the places in the list of those edges of a cell that are bipolar in the label, among those whose numbers are below n
abbrev pub ArePlaces : Kind → ℕ → List ℕ → List Edge → ℕ → ℕ → ℕ → List ℕ → Type 0
ArePlaces kind d sizes edges cell label n places =
    (e : ℕ) → e < n → is_bipolar_in kind d label e ≡ true → slice_index places e ≡ place_in edges (edge kind sizes cell e)

-- the tuples of an entry in a cell, each placed
abbrev pub placed_tuples : Kind → List ℕ → List Edge → ℕ → List (List ℕ) → List (List ℕ)
placed_tuples kind sizes edges cell tuples =
    map (placed_tuple (is_odd_cell kind sizes cell) (λ e. place_in edges (edge kind sizes cell e))) tuples

-- the cells of a cube, by their numbers
abbrev pub cube_cells : Kind → ℕ → ℕ → List ℕ
cube_cells kind d cube = range_with_len (cube * cells_per_cube kind d) (cells_per_cube kind d)

-- ---- simplices

-- the simplices of all cells of a volume, cell after cell
abbrev pub simplices_of : Volume → Table → List Edge → List (List ℕ)
simplices_of v t edges = flat_map (cell_simplices v t edges) (cells v)

-- tuples of edges, each edge replaced by its place, and the last two exchanged where `odd` holds
abbrev pub placed_by : Bool → List ℕ → List (List ℕ) → List (List ℕ)
placed_by odd places tuples = map (placed_tuple odd (λ e. slice_index places e)) tuples

-- these are all of them
abbrev pub AreSimplicesOf : {A : Type 0} → Volume → Table → List Edge → Vec (List ℕ) A → Type 0
AreSimplicesOf v t edges simplices = simplices.items ≡ simplices_of v t edges

-- the simplices of the cells of a cube of a grid are added at the end
abbrev pub AddsAt : {A : Type 0} → Kind → ℕ → Grid → ℤ → Table → List Edge → ℕ → Vec (List ℕ) A → Vec (List ℕ) A → Type 0
AddsAt kind d g iso t edges number old new =
    new.items ≡ old.items ++ flat_map (cell_simplices (volume kind g iso None) t edges) (cube_cells kind d number)

-- ---- the cell of this rank in a cube that was read, each cube with this many cells

-- the places in the list of those of its edges that are bipolar in the label, among those whose numbers are below n
abbrev pub ArePlacesThere : Kind → ℕ → ℕ → List Edge → ℕ → ℕ → ℕ → List ℕ → Grid → ℤ → ℕ → Type 0
ArePlacesThere kind d per edges rank label n places g iso number = ArePlaces kind d g.sizes edges (number * per + rank) label n places

-- where a call is `Ok`, it has added the tuples of an entry, each placed
abbrev pub AddsPlaced : {D : ℕ} {T E A : Type 0} → SignedCube D → Result T E → Kind → ℕ → ℕ → List Edge → List (List ℕ) → Vec (List ℕ) A
    → Vec (List ℕ) A → Type 0
AddsPlaced cube call kind per rank edges tuples old new =
    WhereRead cube (λ g iso number. OnOk call (new.items ≡ old.items ++ placed_tuples kind g.sizes edges (number * per + rank) tuples))

-- the same of the entry of a label
abbrev pub AddsEntry : {D : ℕ} {T E A : Type 0} → SignedCube D → Result T E → Kind → ℕ → ℕ → ℕ → List Edge → Table → Vec (List ℕ) A
    → Vec (List ℕ) A → Type 0
AddsEntry cube call kind per rank label edges t old new = AddsPlaced cube call kind per rank edges (entry_of t label) old new

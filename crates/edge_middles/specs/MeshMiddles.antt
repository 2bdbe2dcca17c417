-- What a mesh is made of, by the midpoints of its edges: the edges of each slice, the vertices, and the simplices with counted edges.
use Rattle.std.specs.Prelude.{ℕ, ◌-◌, ◌<◌, ◌≡◌, Bool, false, true, ◌&&◌, nat_le, nat_lt, List, [], length, map, filter, flat_map, slice_index, Contains}
use Rattle.lists.specs.Orders.{numbers}
use Rattle.iso_model.specs.Acceptance.{rule_edges}
use Rattle.iso_model.specs.Bipolar.{bipolar_edges, edges_between, is_bipolar, place_in}
use Rattle.iso_model.specs.Cells.{edge_count}
use Rattle.iso_model.specs.Crossing.{vertex_of}
use Rattle.iso_model.specs.Placed.{cell_simplices, placed_mesh, placed_tuple}
use Rattle.iso_model.specs.Splits.{cube_at, cube_count, edge, is_odd_cell, midpoint}
use Rattle.iso_model.specs.Tables.{IsEntry, Table, entry_of}
use Rattle.iso_model.specs.Values.{Volume, cells, label_of}
use Rattle.edge_middles.specs.GridMiddles.{count_before, is_there, middles_there}
use Rattle.edge_middles.specs.HeldMiddles.{cells_in}
use Rattle.edge_middles.specs.Middles.{edge_at}

-- ---- slices of the last axis

-- where a midpoint stands along the last axis
abbrev pub middle_height : Volume → List ℕ → ℕ
middle_height v middle = slice_index middle (length v.sizes - 1)

-- the midpoints that are there and whose last coordinates are from low up to but without high
abbrev pub middles_between : Volume → ℕ → ℕ → List (List ℕ)
middles_between v low high = filter (λ m. nat_le low (middle_height v m) && nat_lt (middle_height v m) high) (middles_there v)

-- the bipolar edges between two heights are those at the midpoints between them
abbrev pub AreBetweenHeights : Volume → Type 0
AreBetweenHeights v = (low high : ℕ) → edges_between v low high ≡ map edge_at (middles_between v low high)

-- ---- vertices

-- the vertices of the mesh lie on the edges at the midpoints that are there, in their order
abbrev pub HasVerticesByMiddles : Volume → Table → Type 0
HasVerticesByMiddles v t = (placed_mesh v t).vertices ≡ map (λ m. vertex_of v (edge_at m)) (middles_there v)

-- ---- simplices

-- a bipolar edge of a kept cell is there at its midpoint, and its place in the list is the number of midpoints before that
abbrev pub CountsCellEdges : Volume → Type 0
CountsCellEdges v = (cell e : ℕ) → Contains (cells v) cell → e < edge_count v.kind (length v.sizes)
    → is_bipolar v (edge v.kind v.sizes cell e) ≡ true
    → (is_there v (midpoint (edge v.kind v.sizes cell e)) ≡ true)
    × (place_in (bipolar_edges v) (edge v.kind v.sizes cell e) ≡ count_before v (midpoint (edge v.kind v.sizes cell e)))

-- the tuples of the entry of a cell's label, where each edge is replaced by the number of midpoints before its own
abbrev pub counted_simplices : Volume → Table → ℕ → List (List ℕ)
counted_simplices v t cell =
    map (placed_tuple (is_odd_cell v.kind v.sizes cell) (λ e. count_before v (midpoint (edge v.kind v.sizes cell e)))) (entry_of t (label_of v cell))

-- the entry of a cell's label keeps the rule of bipolar edges: its tuples have numbers of edges alone that are bipolar in the label
abbrev pub HasBipolarEntry : Volume → Table → ℕ → Type 0
HasBipolarEntry v t cell =
    let entry = entry_of t (label_of v cell) in
    IsEntry v.kind (length v.sizes) entry × (rule_edges v.kind (length v.sizes) (label_of v cell) entry ≡ true)

-- then the simplices of a kept cell are these tuples
abbrev pub HasCountedSimplices : Volume → Table → Type 0
HasCountedSimplices v t = (cell : ℕ) → Contains (cells v) cell → HasBipolarEntry v t cell
    → cell_simplices v t (bipolar_edges v) cell ≡ counted_simplices v t cell

-- the kept cubes, by their numbers
abbrev pub kept_numbers : Volume → List ℕ
kept_numbers v = filter (λ cube. v.kept (cube_at v.sizes cube)) (numbers (cube_count v.sizes))

-- the kept cells are those of the kept cubes, cube by cube
abbrev pub GoCubeByCube : Volume → Type 0
GoCubeByCube v = cells v ≡ flat_map (cells_in v.kind v.sizes) (kept_numbers v)

-- the simplices of the mesh are the counted ones of the cells of those kept cubes that pass a test, cube by cube, where the cells of the other kept
-- cubes have empty entries
abbrev pub HasSimplicesByCubes : Volume → Table → Type 0
HasSimplicesByCubes v t = (passes : ℕ → Bool)
    → ((cell : ℕ) → Contains (cells v) cell → HasBipolarEntry v t cell)
    → ((cube cell : ℕ) → Contains (kept_numbers v) cube → passes cube ≡ false → Contains (cells_in v.kind v.sizes cube) cell
    → entry_of t (label_of v cell) ≡ [])
    → (placed_mesh v t).simplices ≡ flat_map (λ cube. flat_map (counted_simplices v t) (cells_in v.kind v.sizes cube)) (filter passes (kept_numbers v))

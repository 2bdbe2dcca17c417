-- What the planes of edges of a scan tell of a grid: which edges are there, and how many come before them.
use Rattle.std.specs.Prelude.{ℕ, ◌+◌, ◌*◌, ◌<◌, ◌≤◌, ◌^◌, ◌≡◌, true, List, [], ◌∷◌, drop, length, slice_index_or}
use Rattle.iso_model.specs.declared.Kind.TheVariants.{Pyramid}
use Rattle.iso_model.specs.Cells.{HasDimension}
use Rattle.iso_model.specs.Values.{Volume, product}
use Rattle.edge_middles.specs.GridMiddles.{count_before, is_there}
use Rattle.edge_middles.specs.RowLists.{row_at}
use Rattle.edge_middles.specs.WhatIsThere.{is_centre_above, is_kept_at}
use Rattle.bit_rows.specs.Rows.{IsWordOf, row_bit}
use Rattle.grid_rows.specs.declared.grids.GridRows.{GridRows}
use Rattle.grid_rows.specs.declared.planes.BitPlane.{BitPlane}
use Rattle.grid_rows.specs.declared.planes.EdgePlane.{EdgePlane}
use Rattle.grid_rows.specs.declared.planes.EdgeWord.{EdgeWord}
use Rattle.grid_rows.specs.Planes.{bit_row, edge_row, no_edge}
use Rattle.grid_rows.specs.RowNumbers.{bordered, cube_rows, edge_rows}
use Rattle.layer_scan.specs.declared.edges.LayerEdges.{LayerEdges}
use Rattle.layer_scan.specs.GridPlanes.{AreRowsOf}
use Rattle.layer_scan.specs.GridStates.{slice_count}

-- the first point at a height
abbrev pub first_at : Volume → ℕ → List ℕ
first_at v height = 0 ∷ row_at (drop 1 v.sizes) height 0

-- the edges below a height are met, and no others: so many were counted
abbrev pub HasMet : Volume → ℕ → LayerEdges → Type 0
HasMet v height edges = edges.count ≡ count_before v (first_at v height)

-- ---- words, rows and planes of edges

-- word w of a row that has two midpoints at each place tells at which of them an edge is there, and how many edges come before
pub record TellsWord (v : Volume) (at_first at_second : ℕ → ℕ) (rest : List ℕ) (w : ℕ) (word : EdgeWord) : Type 0 where
  pub first : IsWordOf (λ x. is_there v (at_first x ∷ rest)) w word.first
  pub second : IsWordOf (λ x. is_there v (at_second x ∷ rest)) w word.second
  pub before : word.before ≡ count_before v (4 * (64 * w) ∷ rest)

abbrev pub TellsRow : Volume → (ℕ → ℕ) → (ℕ → ℕ) → List ℕ → List EdgeWord → Type 0
TellsRow v at_first at_second rest row = (w : ℕ) → w < length row → TellsWord v at_first at_second rest w (slice_index_or row w no_edge)

-- a plane tells of the edges at a height that join samples, row by row
abbrev pub TellsEdges : Volume → GridRows → ℕ → EdgePlane → Type 0
TellsEdges v rows height plane = (n : ℕ) → n < edge_rows rows
    → TellsRow v (λ x. 4 * x) (λ x. 4 * x + 2) (row_at (drop 1 v.sizes) height n) (edge_row plane n)

-- and of those that lead to centres, in three dimensions: in two rows for each row of cubes
abbrev pub TellsCentreEdges : Volume → GridRows → ℕ → EdgePlane → Type 0
TellsCentreEdges v rows height plane = (n : ℕ) → n < 2 * cube_rows rows
    → TellsRow v (λ x. 4 * x + 1) (λ x. 4 * x + 3) ((2 * n + 1) ∷ height ∷ []) (edge_row plane n)

-- ---- layers

-- a plane tells of each kept cube of layer s whether its centre is positive, in three dimensions
abbrev pub TellsCentres : Volume → GridRows → ℕ → BitPlane → Type 0
TellsCentres v rows s plane = (i x : ℕ) → i < rows.second.cubes → is_kept_at v (x ∷ i ∷ s ∷ []) ≡ true
    → row_bit (bit_row plane (bordered rows (i + 1) 1)) x ≡ is_centre_above v (x ∷ i ∷ s ∷ [])

-- the edges of layer s that are in none of its two slices are told, and the signs of its centres
pub record TellsLayer (v : Volume) (rows : GridRows) (s : ℕ) (edges : LayerEdges) : Type 0 where
  pub upright : TellsEdges v rows (4 * s + 2) edges.upright
  pub centres : v.kind ≡ Pyramid → TellsCentres v rows s edges.centres
  pub to_lower : v.kind ≡ Pyramid → TellsCentreEdges v rows (4 * s + 1) edges.to_lower
  pub to_upper : v.kind ≡ Pyramid → TellsCentreEdges v rows (4 * s + 3) edges.to_upper

-- all edges of the cubes of layer s are told, which is the layer below the lower slice
pub record TellsCubes (v : Volume) (rows : GridRows) (s : ℕ) (edges : LayerEdges) : Type 0 where
  pub fits : HasDimension v.kind (length v.sizes)
  pub stand : AreRowsOf v.sizes rows
  pub few : product v.sizes ≤ 2 ^ 27
  pub layer_there : s + 1 < slice_count v
  pub kind : edges.kind ≡ v.kind
  pub below : TellsEdges v rows (4 * s) edges.below
  pub layer : TellsLayer v rows s edges
  pub lower : TellsEdges v rows (4 * (s + 1)) edges.lower

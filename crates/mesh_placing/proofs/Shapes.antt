-- What holds of each placed mesh of a table whose entries have only bipolar edges: its dimension, and that its simplices are made of its vertices.
use Rattle.std.proofs.Common.{◌≡◌, ℕ, ◌<◌, List, [], ◌∷◌, length, None, ℤ, refl, sym, ap, ◌∙◌, subst, arith, inl, inr}
use Rattle.std.specs.Prelude.{map, flat_map, All, Contains, slice_index_or}
use Rattle.std.proofs.lemmas.List.{length-map}
use Rattle.std.proofs.lemmas.List.FromFn.{length-map-range_with_len}
use Rattle.std.proofs.lemmas.List.Elements.{All-append, All-map}
use Rattle.iso_model.specs.declared.Kind.{Kind}
use Rattle.iso_model.specs.Cells.{HasDimension, label_count}
use Rattle.iso_model.specs.Splits.{Edge, edge, is_odd_cell, cell_count}
use Rattle.iso_model.specs.Values.{Grid, Volume, volume, cells, is_kept, label_of, HasValue}
use Rattle.iso_model.specs.Bipolar.{bipolar_edges, place_in}
use Rattle.iso_model.specs.Crossing.{crossing, vertex_of}
use Rattle.iso_model.specs.Faces.{IsMesh}
use Rattle.iso_model.specs.Tables.{Table, entry_of, IsEntry}
use Rattle.lists.specs.Orders.{numbers}
use Rattle.iso_model.specs.Placed.{placed_tuple, cell_simplices, placed_mesh}
use Rattle.edge_vertex.proofs.LabelSums.{label_few}
use Rattle.mesh_placing.specs.Placing.{ListsEdges, FitsGrid}
use Rattle.mesh_placing.proofs.FilledLists.{filter_all}
use Rattle.mesh_placing.proofs.CellEdges.{bipolar_edge-listed, bipolar_edges-crossed, place_below}
use Rattle.mesh_placing.proofs.PlacedTuples.{bipolar_tuples, All-placed_tuple}
use Rattle.lists.proofs.Contained.{Contains-head, Contains-tail, All-flat_map}
use Rattle.iso_model.proofs.SignLaws.{length-placed}

-- each cell of a grid without blank samples is kept
pub cells-all : (kind : Kind) (g : Grid) (iso : ℤ) → cells (volume kind g iso None) ≡ numbers (cell_count kind g.sizes)
unfolding cells
cells-all kind g iso = filter_all (is_kept (volume kind g iso None)) (numbers (cell_count kind g.sizes)) (λ cell. refl)

-- the edges of a kept cell that are bipolar in its label have places in the list of all bipolar edges
pub lists_edges : (v : Volume) → HasDimension v.kind (length v.sizes) → (cell : ℕ) → Contains (cells v) cell
    → ListsEdges v.kind (length v.sizes) v.sizes (bipolar_edges v) cell (label_of v cell)
lists_edges v has cell kept e he bipolar = place_below (bipolar_edges v) (edge v.kind v.sizes cell e) (bipolar_edge-listed v has cell e kept he bipolar)

-- ---- the shape of a placed mesh

valued_long : (sizes p : List ℕ) → HasValue sizes p → length p ≡ length sizes
valued_long sizes p (inl sample) = sample.0
valued_long sizes p (inr centre) = centre.1 ∙ sym centre.0

length-crossing : (e : Edge) (low high iso : ℤ) → length (crossing e low high iso) ≡ length e.low
unfolding crossing
length-crossing e low high iso = length-map-range_with_len _ 0 (length e.low)

module _ (kind : Kind) (g : Grid) (iso : ℤ) (t : Table) (fits : FitsGrid kind g t) where
  abbrev pub here : Volume
  here = volume kind g iso None

  pub has : HasDimension kind (length g.sizes)
  has = subst (λ (d : ℕ). HasDimension kind d) fits.same_dimension (subst (λ (k : Kind). HasDimension k t.dimension) fits.same_kind fits.table.fits)

  pub labelled : (cell : ℕ) → label_of here cell < label_count kind (length g.sizes)
  labelled cell = label_few here cell

  pub entry_sound : (label : ℕ) → label < label_count kind (length g.sizes) → IsEntry kind (length g.sizes) (entry_of t label)
  entry_sound label h =
      let labels : label_count t.kind t.dimension ≡ label_count kind (length g.sizes) =
      ap (λ (k : Kind). label_count k t.dimension) fits.same_kind ∙ ap (label_count kind) fits.same_dimension in
      let inside : label < length t.entries = omega (arith, h, labels, fits.table.whole) in
      subst (λ (d : ℕ). IsEntry kind d (entry_of t label)) fits.same_dimension
      (subst (λ (k : Kind). IsEntry k t.dimension (entry_of t label)) fits.same_kind (fits.table.sound label [] inside))

  -- a placed mesh has the dimension of the grid
  pub placed_mesh-shape : IsMesh (length g.sizes) (placed_mesh here t)
  unfolding placed_mesh
  placed_mesh-shape = record {
    positions = All-map (λ p. length p ≡ length g.sizes) (vertex_of here) (bipolar_edges here) (λ k e h.
        let low = (bipolar_edges-crossed kind g iso has k e h).low in
        length-crossing _ _ _ _ ∙ valued_long g.sizes _ low);
    corners = All-flat_map (λ w. length w ≡ length g.sizes) (cell_simplices here t (bipolar_edges here)) (cells here) (λ cell c.
        All-map (λ w. length w ≡ length g.sizes)
        (placed_tuple (is_odd_cell kind g.sizes cell) (λ e. place_in (bipolar_edges here) (edge kind g.sizes cell e)))
        (entry_of t (label_of here cell)) (λ k w h.
        length-placed (is_odd_cell kind g.sizes cell) (λ e. place_in (bipolar_edges here) (edge kind g.sizes cell e))
        (slice_index_or (entry_of t (label_of here cell)) k w)
        ∙ ((entry_sound (label_of here cell) (labelled cell)).1 k w h).0));
  }

  -- the simplices of a placed mesh are made of its vertices
  pub placed_mesh-vertices : All (All (λ n. n < length (placed_mesh here t).vertices)) (placed_mesh here t).simplices
  unfolding placed_mesh
  placed_mesh-vertices =
      let edges : List Edge = bipolar_edges here in
      let P : ℕ → Type 0 = λ n. n < length (map (vertex_of here) edges) in
      All-flat_map (All P) (cell_simplices here t edges) (cells here) (λ cell c.
      let label : ℕ = label_of here cell in
      let place : ℕ → ℕ = λ e. place_in edges (edge kind g.sizes cell e) in
      let below = labelled cell in
      let sound = entry_sound label below in
      let bipolar = bipolar_tuples kind (length g.sizes) label (entry_of t label) (fits.keeps_edges label below) in
      All-map (All P) (placed_tuple (is_odd_cell kind g.sizes cell) place) (entry_of t label) (λ k w h.
      All-placed_tuple P (is_odd_cell kind g.sizes cell) place (slice_index_or (entry_of t label) k w) (λ j e i.
      let placed : place (slice_index_or (slice_index_or (entry_of t label) k w) j e) < length edges =
      lists_edges here has cell c (slice_index_or (slice_index_or (entry_of t label) k w) j e) ((sound.1 k w h).1 j e i) (bipolar k w h j e i) in
      omega (arith, placed, length-map edges (vertex_of here)))))

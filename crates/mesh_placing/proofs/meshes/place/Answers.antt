use Rattle.std.proofs.Common.{rules, ◌≡◌, ℕ, ◌<◌, true, List, length, map, None, ℤ, w64, to_z, of_z, sym, ap, ◌∙◌, subst}
use Rattle.std.specs.Prelude.{All, flat_map}
use Rattle.std.proofs.lemmas.Int.{to_z-of_z}
use Rattle.iso_model.specs.declared.Kind.{Kind}
use Rattle.iso_model.specs.Cells.{HasDimension, label_count}
use Rattle.iso_model.specs.Splits.{Edge}
use Rattle.iso_model.specs.Values.{Grid, Volume, volume, cells}
use Rattle.iso_model.specs.Bipolar.{bipolar_edges}
use Rattle.iso_model.specs.Crossing.{vertex_of}
use Rattle.iso_model.specs.Faces.{Mesh, IsMesh}
use Rattle.iso_model.specs.Tables.{Table, IsTable, entry_of}
use Rattle.iso_model.specs.Acceptance.{rule_edges}
use Rattle.iso_model.specs.Placed.{cell_simplices, placed_mesh}
use Rattle.mesh_placing.specs.Placing.{FitsGrid, IsCrossed}
use Rattle.mesh_placing.proofs.CellEdges.{bipolar_edges-crossed}
use Rattle.mesh_placing.proofs.Shapes.{placed_mesh-shape, placed_mesh-vertices}
use Rattle.mesh_placing.proofs.meshes.place.Goals as goal

pub all_vertices-requires : goal.all_vertices-requires
all_vertices-requires g c =
    let has : HasDimension g.C.Cell.KIND (length c.args.grid.now.sizes) = subst (HasDimension g.C.Cell.KIND) (sym c.requires.axes) g.met.C.Cell.has_dimension in
    let crossed : All (IsCrossed c.args.grid.now (to_z w64 (of_z w64 c.args.iso))) c.in_ok-edges.edges =
    subst (λ (es : List Edge). All (IsCrossed c.args.grid.now (to_z w64 (of_z w64 c.args.iso))) es) (sym c.in_ok-edges.ensures)
    (bipolar_edges-crossed g.C.Cell.KIND c.args.grid.now (to_z w64 (of_z w64 c.args.iso)) has) in
    search (rules, c.requires.regular, c.requires.axes, crossed)

-- the mesh of these vertices and simplices
mesh_is : (v : Volume) (t : Table) (edges : List Edge) (m : Mesh) → edges ≡ bipolar_edges v → m.vertices ≡ map (vertex_of v) edges
    → m.simplices ≡ flat_map (cell_simplices v t edges) (cells v) → m ≡ placed_mesh v t
unfolding placed_mesh
mesh_is v t edges m listed vertices simplices =
    let positions : m.vertices ≡ map (vertex_of v) (bipolar_edges v) = vertices ∙ ap (map (vertex_of v)) listed in
    let corners : m.simplices ≡ flat_map (cell_simplices v t (bipolar_edges v)) (cells v) =
    simplices ∙ ap (λ (es : List Edge). flat_map (cell_simplices v t es) (cells v)) listed in
    λ i. record { vertices = positions i; simplices = corners i }

pub returns-clause-mesh : goal.returns-clause-mesh
returns-clause-mesh g c =
    let iso : to_z w64 (of_z w64 c.args.iso) ≡ c.args.iso = to_z-of_z w64 c.args.iso c.ranges.iso in
    let m : Mesh = record { vertices = c.in_ok-vertices.vertices.items; simplices = c.in_ok-simplices.simplices.items } in
    let is : m ≡ placed_mesh (volume g.C.Cell.KIND c.args.grid.now (to_z w64 (of_z w64 c.args.iso)) None) c.args.table.now =
    mesh_is (volume g.C.Cell.KIND c.args.grid.now (to_z w64 (of_z w64 c.args.iso)) None) c.args.table.now c.in_ok-edges.edges m c.in_ok-edges.ensures
    c.in_ok-vertices.ensures c.in_ok-simplices.ensures in
    is ∙ ap (λ (z : ℤ). placed_mesh (volume g.C.Cell.KIND c.args.grid.now z None) c.args.table.now) iso

-- the table fits the grid
fits_grid : (kind : Kind) (d : ℕ) (grid : Grid) (t : Table) → IsTable t → t.kind ≡ kind → t.dimension ≡ d → length grid.sizes ≡ d
    → ((label : ℕ) → label < label_count kind d → rule_edges kind d label (entry_of t label) ≡ true) → FitsGrid kind grid t
fits_grid kind d grid t table same_kind same_dimension axes keeps = record {
  table = table;
  same_kind = same_kind;
  same_dimension = same_dimension ∙ sym axes;
  keeps_edges = subst (λ (n : ℕ). (label : ℕ) → label < label_count kind n → rule_edges kind n label (entry_of t label) ≡ true) (sym axes) keeps;
}

pub all_simplices-requires : goal.all_simplices-requires
all_simplices-requires g c =
    let fits : FitsGrid g.C.Cell.KIND c.args.grid.now c.args.table.now =
    fits_grid g.C.Cell.KIND g.row.D c.args.grid.now c.args.table.now c.kind.ensures.table c.requires.kind c.kind.ensures.dimension c.requires.axes
    c.requires.edges in
    search (rules, fits, c.requires.regular, c.requires.axes, c.in_ok-edges.ensures)

pub returns-clause-shape : goal.returns-clause-shape
returns-clause-shape g c =
    subst (λ (d : ℕ). IsMesh d (record { vertices = c.in_ok-vertices.vertices.items; simplices = c.in_ok-simplices.simplices.items })) c.requires.axes
    (subst (IsMesh (length c.args.grid.now.sizes)) (sym (returns-clause-mesh g c))
    (placed_mesh-shape g.C.Cell.KIND c.args.grid.now c.args.iso c.args.table.now
    (fits_grid g.C.Cell.KIND g.row.D c.args.grid.now c.args.table.now c.kind.ensures.table c.requires.kind c.kind.ensures.dimension
    c.requires.axes c.requires.edges)))

pub returns-clause-vertices : goal.returns-clause-vertices
returns-clause-vertices g c =
    subst (λ (m : Mesh). All (All (λ n. n < length m.vertices)) m.simplices) (sym (returns-clause-mesh g c))
    (placed_mesh-vertices g.C.Cell.KIND c.args.grid.now c.args.iso c.args.table.now
    (fits_grid g.C.Cell.KIND g.row.D c.args.grid.now c.args.table.now c.kind.ensures.table c.requires.kind c.kind.ensures.dimension
    c.requires.axes c.requires.edges))

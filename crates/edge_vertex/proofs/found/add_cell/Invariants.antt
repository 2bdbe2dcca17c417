use Rattle.std.proofs.Common.{◌≡◌, ℕ, ℤ, ◌+◌, ◌*◌, length}
use Rattle.iso_model.specs.Values.{Grid}
use Rattle.cube_cells.specs.SignedCubes.{IsSignedCube}
use Rattle.edge_vertex.specs.EdgeValue.{edges_of, Adds, IsBipolarOf}
use Rattle.edge_vertex.proofs.found.add_cell.Given as goal

abbrev pub invariant-loop-edge : goal.invariant-loop-edge
invariant-loop-edge g l =
    (s : Grid) (iso : ℤ) (number : ℕ) → length s.sizes ≡ g.row.D → IsSignedCube s iso number l.cube
    → Adds (IsBipolarOf g.C.Cell.KIND s.sizes (number * g.C.Split.PER_CUBE + l.rank) l.label l.edge) (edges_of l.initial.edges.keys)
    (edges_of l.edges.keys)

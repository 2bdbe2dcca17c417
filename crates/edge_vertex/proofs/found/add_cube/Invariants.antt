use Rattle.std.proofs.Common.{◌≡◌, ℕ, ℤ, ◌*◌, length, None}
use Rattle.iso_model.specs.Values.{Grid, volume}
use Rattle.cube_cells.specs.SignedCubes.{IsSignedCube}
use Rattle.edge_vertex.specs.EdgeValue.{edges_of, Adds, IsBipolarFrom}
use Rattle.edge_vertex.proofs.found.add_cube.Given as goal

abbrev pub invariant-loop-rank : goal.invariant-loop-rank
invariant-loop-rank g l =
    (s : Grid) (iso : ℤ) (number : ℕ) → length s.sizes ≡ g.row.D → IsSignedCube s iso number l.cube
    → Adds (IsBipolarFrom (volume g.C.Cell.KIND s iso None) g.C.Cell.EDGES (number * g.C.Split.PER_CUBE) l.rank) (edges_of l.initial.edges.keys)
    (edges_of l.edges.keys)

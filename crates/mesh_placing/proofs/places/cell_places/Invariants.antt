use Rattle.std.proofs.Common.{◌≡◌, ℕ, ℤ, ◌+◌, ◌*◌, length}
use Rattle.iso_model.specs.Values.{Grid}
use Rattle.cube_cells.specs.SignedCubes.{IsSignedCube}
use Rattle.mesh_placing.specs.Placing.{ArePlaces}
use Rattle.mesh_placing.proofs.places.cell_places.Given as goal

abbrev pub invariant-loop-edge : goal.invariant-loop-edge
invariant-loop-edge g l =
    (length l.places ≡ 32)
    × ((s : Grid) (iso : ℤ) (number : ℕ) → length s.sizes ≡ g.row.D → IsSignedCube s iso number l.cube
    → ArePlaces g.C.Cell.KIND g.row.D s.sizes l.edges (number * g.C.Split.PER_CUBE + l.rank) l.label l.edge l.places)

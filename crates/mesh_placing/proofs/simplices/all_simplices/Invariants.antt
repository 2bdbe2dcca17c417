use Rattle.std.proofs.Common.{◌≡◌, take, length, None}
use Rattle.std.specs.Prelude.{flat_map}
use Rattle.iso_model.specs.Values.{volume}
use Rattle.iso_model.specs.Placed.{cell_simplices}
use Rattle.edge_vertex.proofs.CubeCells.{mixed}
use Rattle.mesh_placing.specs.Placing.{cube_cells}
use Rattle.mesh_placing.proofs.simplices.all_simplices.Given as goal

abbrev pub invariant-loop-place : goal.invariant-loop-place
invariant-loop-place g l =
    l.simplices.items
    ≡ flat_map
    (λ cube.
    flat_map (cell_simplices (volume g.C.Cell.KIND l.grid l.iso None) l.table l.edges)
    (cube_cells g.C.Cell.KIND (length l.grid.sizes) cube))
    (take l.place-index (mixed l.grid l.iso))

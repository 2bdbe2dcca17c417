use Rattle.std.proofs.Common.{◌≡◌, ◌++◌, ◌*◌, None}
use Rattle.std.specs.Prelude.{flat_map}
use Rattle.std.specs.List.{range_with_len}
use Rattle.iso_model.specs.Values.{volume}
use Rattle.iso_model.specs.Placed.{cell_simplices}
use Rattle.mesh_placing.proofs.simplices.add_cube.Given as goal

abbrev pub invariant-loop-rank : goal.invariant-loop-rank
invariant-loop-rank g l =
    l.simplices.items
    ≡ l.initial.simplices.items
    ++ flat_map (cell_simplices (volume g.C.Cell.KIND l.grid l.iso None) l.table l.edges)
    (range_with_len (l.fn.place.number * g.C.Split.PER_CUBE) l.rank)

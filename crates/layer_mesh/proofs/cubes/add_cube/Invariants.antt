use Rattle.std.proofs.Common.{◌≡◌, ◌++◌, ℕ, ◌+◌, ◌*◌}
use Rattle.std.specs.Prelude.{flat_map}
use Rattle.lists.specs.Orders.{numbers}
use Rattle.iso_model.specs.Bipolar.{bipolar_edges}
use Rattle.iso_model.specs.Placed.{cell_simplices}
use Rattle.iso_model.specs.Splits.{cells_per_cube}
use Rattle.iso_model.specs.Values.{Volume}
use Rattle.layer_mesh.specs.CubeCells.{TellsCube}
use Rattle.layer_mesh.proofs.cubes.add_cube.Given as goal

abbrev pub invariant-loop-rank : goal.invariant-loop-rank
invariant-loop-rank g l =
    (v : Volume) (cube : ℕ) → TellsCube v cube g.row.D l.table l.signs l.numbers → l.simplices.items
    ≡ l.initial.simplices.items
    ++ flat_map (λ rank. cell_simplices v l.table (bipolar_edges v) (cube * cells_per_cube v.kind g.row.D + rank)) (numbers l.rank)

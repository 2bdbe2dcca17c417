use Rattle.std.proofs.Common.{◌≡◌, ◌++◌, ℕ}
use Rattle.std.specs.Prelude.{flat_map}
use Rattle.lists.specs.Orders.{numbers}
use Rattle.iso_model.specs.Values.{Volume}
use Rattle.layer_mesh.specs.LayerCubes.{TellsLayerBelow, row_simplices}
use Rattle.layer_mesh.proofs.layers.Layer.add.Given as goal

abbrev pub invariant-loop-number : goal.invariant-loop-number
invariant-loop-number g l =
    (v : Volume) (s : ℕ) → TellsLayerBelow v g.row.D l.self.table.now s l.self.planes.now l.self.edges.now → l.simplices.items
    ≡ l.initial.simplices.items ++ flat_map (row_simplices v l.self.table.now l.self.planes.now.rows s) (numbers l.number)

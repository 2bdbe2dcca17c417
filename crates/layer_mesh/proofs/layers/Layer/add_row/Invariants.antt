use Rattle.std.proofs.Common.{◌≡◌, ◌++◌, ℕ}
use Rattle.std.specs.Prelude.{flat_map}
use Rattle.lists.specs.Orders.{numbers}
use Rattle.iso_model.specs.Values.{Volume}
use Rattle.layer_mesh.specs.LayerCubes.{TellsLayerBelow, word_simplices}
use Rattle.layer_mesh.proofs.layers.Layer.add_row.Given as goal

abbrev pub invariant-loop-w : goal.invariant-loop-w
invariant-loop-w g l =
    (v : Volume) (s : ℕ) → TellsLayerBelow v g.row.D l.self.table.now s l.self.planes.now l.self.edges.now → l.simplices.items
    ≡ l.initial.simplices.items ++ flat_map (word_simplices v l.self.table.now l.self.planes.now.rows s l.fn.number) (numbers l.w)

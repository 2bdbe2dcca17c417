use Rattle.std.proofs.Common.{◌≡◌, ◌++◌, ◌+◌, ◌*◌, ℕ}
use Rattle.std.specs.Prelude.{flat_map}
use Rattle.iso_model.specs.Values.{Volume}
use Rattle.layer_mesh.specs.LayerCubes.{TellsLayerBelow, place_simplices}
use Rattle.layer_mesh.proofs.layers.Layer.add_word.Given as goal

abbrev pub invariant-loop-place : goal.invariant-loop-place
invariant-loop-place g l =
    (goal.iterator-loop-place g).can_next l.place-iterator ×
    (goal.iterator-loop-place g).is_finite l.place-iterator ×
    ((v : Volume) (s : ℕ) → TellsLayerBelow v g.row.D l.self.table.now s l.self.planes.now l.self.edges.now → l.simplices.items
    ≡ l.initial.simplices.items
    ++ flat_map (λ k. place_simplices v l.self.table.now l.self.planes.now.rows s l.number (64 * l.w + k)) l.yielded)

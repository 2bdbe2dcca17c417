use Rattle.std.proofs.Common.{◌≡◌, ◌++◌, ◌+◌, ◌*◌, [], ◌∷◌}
use Rattle.std.specs.Prelude.{flat_map, map}
use Rattle.lists.specs.Orders.{numbers}
use Rattle.iso_model.specs.Crossing.{vertex_of}
use Rattle.iso_model.specs.Values.{Volume}
use Rattle.edge_middles.specs.Middles.{edge_at}
use Rattle.edge_middles.specs.RowLists.{centre_row}
use Rattle.layer_mesh.specs.PlaneVertices.{TellsCentrePlane}
use Rattle.layer_mesh.proofs.vertices.add_centre_vertices.Given as goal

abbrev pub invariant-loop-number : goal.invariant-loop-number
invariant-loop-number g l =
    (v : Volume) → TellsCentrePlane v g.row.D l.rows l.plane l.heights → l.vertices.items
    ≡ l.initial.vertices.items
    ++ flat_map (λ n. map (λ m. vertex_of v (edge_at m)) (centre_row v ((2 * n + 1) ∷ l.heights.height ∷ []))) (numbers l.number)

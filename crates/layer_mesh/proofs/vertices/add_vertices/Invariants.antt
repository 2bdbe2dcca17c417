use Rattle.std.proofs.Common.{◌≡◌, ◌++◌}
use Rattle.std.specs.Prelude.{drop, flat_map, map}
use Rattle.lists.specs.Orders.{numbers}
use Rattle.iso_model.specs.Crossing.{vertex_of}
use Rattle.iso_model.specs.Values.{Volume}
use Rattle.edge_middles.specs.Middles.{edge_at}
use Rattle.edge_middles.specs.RowLists.{row_at, sample_row}
use Rattle.layer_mesh.specs.PlaneVertices.{TellsPlane}
use Rattle.layer_mesh.proofs.vertices.add_vertices.Given as goal

abbrev pub invariant-loop-number : goal.invariant-loop-number
invariant-loop-number g l =
    (v : Volume) → TellsPlane v g.row.D l.rows l.plane l.heights → l.vertices.items
    ≡ l.initial.vertices.items
    ++ flat_map (λ n. map (λ m. vertex_of v (edge_at m)) (sample_row v (row_at (drop 1 v.sizes) l.heights.height n))) (numbers l.number)

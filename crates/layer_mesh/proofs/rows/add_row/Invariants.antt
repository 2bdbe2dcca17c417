use Rattle.std.proofs.Common.{◌≡◌, ◌++◌}
use Rattle.std.specs.Prelude.{flat_map, slice_index_or}
use Rattle.lists.specs.Orders.{numbers}
use Rattle.grid_rows.specs.Planes.{no_edge}
use Rattle.layer_mesh.specs.RowVertices.{word_vertices}
use Rattle.layer_mesh.proofs.rows.add_row.Given as goal

abbrev pub invariant-loop-w : goal.invariant-loop-w
invariant-loop-w g l =
    l.vertices.items ≡ l.initial.vertices.items ++ flat_map (λ w. word_vertices l.ends w (slice_index_or l.row w no_edge)) (numbers l.w)

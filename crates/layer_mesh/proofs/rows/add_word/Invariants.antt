use Rattle.std.proofs.Common.{◌≡◌, ◌++◌}
use Rattle.std.specs.Prelude.{flat_map}
use Rattle.layer_mesh.specs.RowVertices.{place_vertices}
use Rattle.layer_mesh.proofs.rows.add_word.Given as goal

abbrev pub invariant-loop-place : goal.invariant-loop-place
invariant-loop-place g l =
    (goal.iterator-loop-place g).can_next l.place-iterator ×
    (goal.iterator-loop-place g).is_finite l.place-iterator ×
    (l.vertices.items ≡ l.initial.vertices.items ++ flat_map (place_vertices l.ends l.w l.word) l.yielded)

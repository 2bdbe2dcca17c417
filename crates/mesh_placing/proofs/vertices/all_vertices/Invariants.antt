use Rattle.std.proofs.Common.{◌≡◌, map, take}
use Rattle.mesh_placing.specs.Placing.{vertex_on}
use Rattle.mesh_placing.proofs.vertices.all_vertices.Given as goal

abbrev pub invariant-loop-number : goal.invariant-loop-number
invariant-loop-number g l = l.vertices.items ≡ map (vertex_on l.grid l.iso) (take l.number l.edges)

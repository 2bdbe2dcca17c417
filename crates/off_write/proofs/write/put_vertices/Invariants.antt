use Rattle.std.proofs.Common.{◌≤◌, ◌++◌, take}
use Rattle.off_write.specs.Pages.{AllButPage, vertex_lines}
use Rattle.off_write.proofs.write.put_vertices.Given as goal

abbrev pub invariant-loop-vertex : goal.invariant-loop-vertex
invariant-loop-vertex g l =
    (g.O.Sink.faults l.initial.out ≤ g.O.Sink.faults l.out)
    × AllButPage (g.O.Sink.bytes l.initial.out) (g.O.Sink.bytes l.out) (l.initial.page ++ vertex_lines (take l.vertex-index l.vertices)) l.page

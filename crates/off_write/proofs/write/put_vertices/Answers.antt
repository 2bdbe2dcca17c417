use Rattle.std.proofs.Common.{arith, map, append-nil}
use Rattle.iso_formats.specs.MeshText.{line, millionths}
use Rattle.off_write.specs.Pages.{vertex_lines}
use Rattle.off_write.proofs.Waiting.{waits_all, lines_front, lines_more, on_err}
use Rattle.off_write.proofs.write.put_vertices.Goals as goal

pub loop-vertex-init : goal.loop-vertex-init
unfolding vertex_lines
loop-vertex-init g c = (omega arith, rw (append-nil c.args.page.now) (waits_all _ _))

pub returns-in_err-make_room-clause-front : goal.returns-in_err-make_room-clause-front
unfolding vertex_lines
returns-in_err-make_room-clause-front g c =
    on_err c.from_residual.result
    (lines_front (λ v. line (map millionths v)) _ _ _ c.args.page.now _ c.loop-vertex.vertex-index c.args.vertices.now c.loop-vertex.invariant.1
    c.in_err-make_room.ensures.front)

pub loop-vertex-preserved : goal.loop-vertex-preserved
unfolding vertex_lines
loop-vertex-preserved g c = (
  omega (arith, c.in_ok-make_room.ensures.faults.later, c.loop-vertex.invariant.0),
  rw c.push_vertex.ensures.text
      (lines_more (λ v. line (map millionths v)) _ _ _ c.args.page.now _ _ c.loop-vertex.vertex-index c.args.vertices.now _ c.loop-vertex-test.true
      c.vertex-item.is c.loop-vertex.invariant.1 c.in_ok-make_room.ensures.waits),
)

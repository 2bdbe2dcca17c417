use Rattle.std.proofs.Common.{arith}
use Rattle.edge_vertex.proofs.EdgeOrder.{reversed_is}
use Rattle.edge_vertex.proofs.found.reversed_sum.Goals as goal

pub returns : goal.returns
returns g c =
    reversed_is g.row.D c.loop-axis.sum c.args.p.now c.args.q.now c.loop-axis.invariant.0 (omega arith) (omega arith)
    (λ i h. c.loop-axis.invariant.1 i (omega (arith, h, c.loop-axis-test.false)))

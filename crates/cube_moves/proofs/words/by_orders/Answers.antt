use Rattle.std.proofs.Common.{◌<◌, get_or, arith, below_more, length, length-set, get_or-set_other, get_or-set_same, ◌≢◌, ◌∙◌}
use Rattle.cube_moves.proofs.ExchangeChecks.{step_at, order_goes_on, order_count, few_orders}
use Rattle.cube_moves.proofs.words.by_orders.Goals as goal

pub bounds-swap-in-loop-next : goal.bounds-swap-in-loop-next
bounds-swap-in-loop-next g c =
    let count = order_count g.row.D c.requires.dimension in
    (order_goes_on g.row.D c.loop-next.next c.requires.dimension (omega arith) (omega arith)).swap

pub exchanged-requires-clause-label : goal.exchanged-requires-clause-label
exchanged-requires-clause-label g c =
    let count = order_count g.row.D c.requires.dimension in
    let step = order_goes_on g.row.D c.loop-next.next c.requires.dimension (omega arith) (omega arith) in
    (c.loop-next.invariant.carried (step_at g.row.D c.loop-next.next).0 step.earlier).0

pub exchanged-requires-clause-by : goal.exchanged-requires-clause-by
exchanged-requires-clause-by g c =
    let count = order_count g.row.D c.requires.dimension in
    (order_goes_on g.row.D c.loop-next.next c.requires.dimension (omega arith) (omega arith)).exchange

pub loop-next-preserved : goal.loop-next-preserved
loop-next-preserved g c =
    let count = order_count g.row.D c.requires.dimension in
    let few = few_orders g.row.D c.requires.dimension in
    let step = order_goes_on g.row.D c.loop-next.next c.requires.dimension (omega arith) (omega arith) in
    let inside : c.loop-next.next < length c.loop-next.labels = omega (arith, c.loop-next.invariant.room) in
    record {
      room = length-set _ _ _ ∙ c.loop-next.invariant.room;
      carried = below_more _ _
          (λ n h. let ne : n ≢ c.loop-next.next = omega arith in rw get_or-set_other (c.loop-next.invariant.carried n h))
          (rw get_or-set_same
          (step.carried c.args.label (get_or c.loop-next.labels (step_at g.row.D c.loop-next.next).0 0) c.exchanged.result
          (record { below = c.exchanged.ensures.below; signs = c.exchanged.ensures.signs })
          (c.loop-next.invariant.carried (step_at g.row.D c.loop-next.next).0 step.earlier)));
    }

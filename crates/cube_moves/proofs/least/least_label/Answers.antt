use Rattle.std.proofs.Common.{◌≡◌, ℕ, ◌+◌, ◌<◌, arith, sym, subst, get_or, length}
use Rattle.cube_moves.proofs.ExchangeChecks.{order_count, some_order}
use Rattle.cube_moves.proofs.LeastLabels.{IsLeastSoFar, least_at_first, least_goes_on, least_stays, least_at_last}
use Rattle.cube_moves.proofs.least.least_label.Goals as goal
use Rattle.cube_moves.proofs.least.least_label.Goals.{then-other-least, else-other-least}
use Rattle.lists.specs.Orders.{orders}

pub loop-next-init : goal.loop-next-init
loop-next-init g c =
    let some = some_order g.row.D c.requires.dimension in
    least_at_first g.row.D c.requires.dimension some c.args.label (get_or c.by_orders-turned.result 0 0) c.least_flips-least.result.0
    c.least_flips-least.result.1
    (c.by_orders-turned.ensures 0 some) c.least_flips-least.ensures

pub loop-next-preserved : goal.loop-next-preserved
loop-next-preserved g c =
    let count = order_count g.row.D c.requires.dimension in
    let inside : c.loop-next.next < length (orders g.row.D) = omega arith in
    let carried = c.by_orders-turned.ensures c.loop-next.next inside in
    elim c.if-other-least.branch [
      | then-other-least w ↦
          subst (λ (n : ℕ). IsLeastSoFar g.row.D (c.loop-next.next + 1) c.args.label n c.if-other-least.order c.if-other-least.flips) (sym w.least-is)
          (subst (λ (n : ℕ). IsLeastSoFar g.row.D (c.loop-next.next + 1) c.args.label c.least_flips-other.result.0 n c.if-other-least.flips) (sym w.order-is)
          (subst (λ (n : ℕ). IsLeastSoFar g.row.D (c.loop-next.next + 1) c.args.label c.least_flips-other.result.0 c.loop-next.next n) (sym w.flips-is)
          (least_goes_on g.row.D c.requires.dimension c.loop-next.next inside c.args.label
          (get_or c.by_orders-turned.result c.loop-next.next 0) c.loop-next.least c.loop-next.order c.loop-next.flips
          c.least_flips-other.result.0 c.least_flips-other.result.1 carried c.least_flips-other.ensures c.loop-next.invariant w.if-other-least.true)))
      | else-other-least w ↦
          subst (λ (n : ℕ). IsLeastSoFar g.row.D (c.loop-next.next + 1) c.args.label n c.if-other-least.order c.if-other-least.flips) (sym w.least-is)
          (subst (λ (n : ℕ). IsLeastSoFar g.row.D (c.loop-next.next + 1) c.args.label c.loop-next.least n c.if-other-least.flips) (sym w.order-is)
          (subst (λ (n : ℕ). IsLeastSoFar g.row.D (c.loop-next.next + 1) c.args.label c.loop-next.least c.loop-next.order n) (sym w.flips-is)
          (least_stays g.row.D c.requires.dimension c.loop-next.next inside c.args.label
          (get_or c.by_orders-turned.result c.loop-next.next 0) c.loop-next.least c.loop-next.order c.loop-next.flips
          c.least_flips-other.result.0 c.least_flips-other.result.1 carried c.least_flips-other.ensures c.loop-next.invariant w.if-other-least.false)))
    ]

pub returns : goal.returns
returns g c =
    let some = some_order g.row.D c.requires.dimension in
    let count : c.loop-next.next ≡ length (orders g.row.D) = omega (arith, order_count g.row.D c.requires.dimension) in
    least_at_last g.row.D c.requires.dimension c.args.label c.loop-next.least c.loop-next.order c.loop-next.flips c.order_at.result c.order_at.ensures
    (subst (λ (n : ℕ). IsLeastSoFar g.row.D n c.args.label c.loop-next.least c.loop-next.order c.loop-next.flips) count c.loop-next.invariant)

use Rattle.std.proofs.Common.{◌≡◌, ℕ, ◌<◌, length, get_or}
use Rattle.iso_model.specs.Moves.{Carries}
use Rattle.cube_moves.proofs.MovedBits.{order_alone}
use Rattle.cube_moves.proofs.ExchangeChecks.{order_of}
use Rattle.cube_moves.proofs.words.by_orders.Given as goal

abbrev pub invariant-loop-next : goal.invariant-loop-next
invariant-loop-next g l = record {
  room : length l.labels ≡ 24;
  carried : (n : ℕ) → n < l.next → Carries g.row.D (order_alone (order_of g.row.D n)) l.label (get_or l.labels n 0);
}

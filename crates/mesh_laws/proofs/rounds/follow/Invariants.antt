use Rattle.std.proofs.Common.{◌≡◌, ◌<◌, length}
use Rattle.std.specs.Prelude.{IfSome}
use Rattle.mesh_laws.proofs.RoundWalks.{UnderWay}
use Rattle.mesh_laws.proofs.rounds.follow.Given as goal

abbrev pub invariant-loop : goal.invariant-loop
invariant-loop l = record {
  inside : IfSome l.next (λ place. place < length l.corners);
  marks : length l.met ≡ length l.corners;
  counted : length l.order.items ≡ l.counter;
  under_way : UnderWay l.corners l.first l.met l.order.items l.next;
}

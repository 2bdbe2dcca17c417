use Rattle.std.proofs.Common.{◌≡◌, ◌+◌, ◌%◌, ◌<◌, drop}
use Rattle.lists.specs.Orders.{inversions}
use Rattle.face_tallies.proofs.signs.order_parity.Given as goal

abbrev pub invariant-loop-i : goal.invariant-loop-i
invariant-loop-i l = ((l.parity + inversions (drop l.i l.edges)) % 2 ≡ inversions l.edges % 2) × (l.parity < 2)

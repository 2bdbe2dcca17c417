use Rattle.std.proofs.Common.{◌≡◌, ◌+◌, ◌%◌, ◌<◌, drop}
use Rattle.lists.specs.Orders.{inversions}
use Rattle.mesh_laws.proofs.face.order_parity.Given as goal

abbrev pub invariant-loop-i : goal.invariant-loop-i
invariant-loop-i l = ((l.parity + inversions (drop l.i l.numbers)) % 2 ≡ inversions l.numbers % 2) × (l.parity < 2)

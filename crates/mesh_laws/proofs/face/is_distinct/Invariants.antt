use Rattle.std.proofs.Common.{◌≡◌, drop}
use Rattle.lists.specs.Orders.{is_distinct}
use Rattle.mesh_laws.proofs.face.is_distinct.Given as goal

abbrev pub invariant-loop-i : goal.invariant-loop-i
invariant-loop-i l = is_distinct (drop l.i l.numbers) ≡ is_distinct l.numbers

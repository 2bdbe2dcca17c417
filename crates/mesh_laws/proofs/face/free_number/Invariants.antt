use Rattle.std.proofs.Common.{◌≡◌, ℕ, ◌<◌, get_or, true}
use Rattle.lists.specs.Orders.{has}
use Rattle.mesh_laws.proofs.face.free_number.Given as goal

abbrev pub invariant-loop-number : goal.invariant-loop-number
invariant-loop-number g l = (k : ℕ) → k < l.number-index → has l.face (get_or l.simplex k 0) ≡ true

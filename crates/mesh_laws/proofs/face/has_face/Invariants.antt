use Rattle.std.proofs.Common.{◌≡◌, ℕ, ◌<◌, get_or, true}
use Rattle.lists.specs.Orders.{has}
use Rattle.mesh_laws.proofs.face.has_face.Given as goal

abbrev pub invariant-loop-number : goal.invariant-loop-number
invariant-loop-number g l = (k : ℕ) → k < l.number-index → has l.simplex (get_or l.face k 0) ≡ true

use Rattle.std.proofs.Common.{◌≡◌, take}
use Rattle.std.specs.Prelude.{count_by}
use Rattle.lists.specs.Orders.{has}
use Rattle.path_rule.proofs.walk.triangle_count.Given as goal

abbrev pub invariant-loop-tuple : goal.invariant-loop-tuple
invariant-loop-tuple g l = l.count ≡ count_by (λ w. has w l.edge) (take l.tuple-index l.tuples)

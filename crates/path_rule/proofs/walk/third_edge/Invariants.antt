use Rattle.std.proofs.Common.{◌≡◌, ℕ, ◌<◌, true, false, get_or}
use Rattle.std.specs.Prelude.{not, ◌&&◌, ◌==◌}
use Rattle.lists.specs.Orders.{has}
use Rattle.path_rule.proofs.walk.third_edge.Given as goal

abbrev pub invariant-loop-third : goal.invariant-loop-third
invariant-loop-third g l = record {
  edge : has l.tuple l.edge ≡ true;
  other : has l.tuple l.other ≡ true;
  before : (k : ℕ) → k < l.third-index → (not (get_or l.tuple k 0 == l.edge) && not (get_or l.tuple k 0 == l.other)) ≡ false;
}

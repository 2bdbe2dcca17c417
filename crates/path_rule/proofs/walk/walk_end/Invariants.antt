use Rattle.std.proofs.Common.{ℕ, ◌<◌, All}
use Rattle.path_rule.specs.PathRule.{SharesByTwo, IsFree}
use Rattle.path_rule.proofs.WalkStates.{IsWalk}
use Rattle.path_rule.proofs.walk.walk_end.Given as goal

abbrev pub invariant-loop : goal.invariant-loop
invariant-loop g l = record {
  walk : SharesByTwo l.edge l.tuples → IsFree l.edge l.start l.tuples → IsWalk l.edge l.start l.tuples l.end l.face l.present l.counter;
  small : (m : ℕ) → l.start < m → All (λ w. All (λ e. e < m) w) l.tuples → l.face < m;
  met : 0 < l.counter → (m : ℕ) → All (λ w. All (λ e. e < m) w) l.tuples → l.face < m;
}

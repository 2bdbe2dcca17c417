use Rattle.std.proofs.Common.{◌≡◌, ◌≢◌, ℕ, ◌<◌, slice_index_or, None, Some, []}
use Rattle.path_rule.specs.PathRule.{third}
use Rattle.path_rule.proofs.walk.next_triangle.Given as goal

abbrev pub invariant-loop-number : goal.invariant-loop-number
invariant-loop-number g l = (i : ℕ) → i < l.number → l.present ≢ Some i → third l.edge l.other (slice_index_or l.tuples i []) ≡ None

use Rattle.std.proofs.Common.{◌≡◌, ℕ, ◌<◌, ◌≤◌, false, slice_index}
use Rattle.lists.specs.Bits.{is_set}
use Rattle.path_rule.proofs.rule.facet_with.Given as goal

abbrev pub invariant-loop-facet : goal.invariant-loop-facet
invariant-loop-facet l = record { from : l.from ≤ l.facet; before : (i : ℕ) → l.from ≤ i → i < l.facet → is_set (slice_index l.facets i) l.edge ≡ false }

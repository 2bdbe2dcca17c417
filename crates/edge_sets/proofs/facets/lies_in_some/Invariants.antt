use Rattle.std.proofs.Common.{◌≡◌, false, take}
use Rattle.std.specs.List.{list_all, list_any}
use Rattle.lists.specs.Bits.{is_set}
use Rattle.edge_sets.proofs.facets.lies_in_some.Given as goal

abbrev pub invariant-loop-set : goal.invariant-loop-set
invariant-loop-set g l = list_any (λ set. list_all (is_set set) l.tuple) (take l.set-index l.sets) ≡ false

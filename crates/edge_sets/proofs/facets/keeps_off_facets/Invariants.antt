use Rattle.std.proofs.Common.{◌≡◌, true, take}
use Rattle.std.specs.Prelude.{not}
use Rattle.std.specs.List.{list_all, list_any}
use Rattle.lists.specs.Bits.{is_set}
use Rattle.edge_sets.proofs.facets.keeps_off_facets.Given as goal

abbrev pub invariant-loop-tuple : goal.invariant-loop-tuple
invariant-loop-tuple g l = list_all (λ w. not (list_any (λ set. list_all (is_set set) w) l.facets)) (take l.tuple-index l.tuples) ≡ true

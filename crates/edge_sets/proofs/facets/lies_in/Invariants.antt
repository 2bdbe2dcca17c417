use Rattle.std.proofs.Common.{◌≡◌, true, take}
use Rattle.std.specs.List.{list_all}
use Rattle.lists.specs.Bits.{is_set}
use Rattle.edge_sets.proofs.facets.lies_in.Given as goal

abbrev pub invariant-loop-edge : goal.invariant-loop-edge
invariant-loop-edge g l = list_all (is_set l.set) (take l.edge-index l.tuple) ≡ true

use Rattle.std.proofs.Common.{◌≡◌, true, take}
use Rattle.lists.specs.Orders.{is_distinct}
use Rattle.edge_sets.specs.Sets.{IsSetOf}
use Rattle.face_tallies.proofs.signs.distinct_set.Given as goal

abbrev pub invariant-loop-edge : goal.invariant-loop-edge
invariant-loop-edge g l = record { distinct : is_distinct (take l.edge-index l.tuple) ≡ true; set : IsSetOf l.set (take l.edge-index l.tuple) }

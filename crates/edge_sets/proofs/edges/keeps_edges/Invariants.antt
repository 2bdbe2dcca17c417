use Rattle.std.proofs.Common.{◌≡◌, true, take}
use Rattle.std.specs.List.{list_all}
use Rattle.edge_sets.specs.Sets.{is_sound_in}
use Rattle.edge_sets.proofs.EdgeRule.{IsCover}
use Rattle.edge_sets.proofs.edges.keeps_edges.Given as goal

abbrev pub invariant-loop-tuple : goal.invariant-loop-tuple
invariant-loop-tuple g l =
    record { sound : list_all (is_sound_in l.bipolar) (take l.tuple-index l.tuples) ≡ true; cover : IsCover l.covered (take l.tuple-index l.tuples) }

use Rattle.std.proofs.Common.{◌≡◌, true, take}
use Rattle.edge_sets.specs.Sets.{IsSetOf, is_sound_in}
use Rattle.edge_sets.proofs.sets.sound_set.Given as goal

abbrev pub invariant-loop-edge : goal.invariant-loop-edge
invariant-loop-edge g l = record { sound : is_sound_in l.within (take l.edge-index l.tuple) ≡ true; set : IsSetOf l.set (take l.edge-index l.tuple) }

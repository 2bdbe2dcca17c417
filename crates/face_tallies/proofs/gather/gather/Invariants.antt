use Rattle.std.proofs.Common.{◌≡◌, ◌*◌, ◌≤◌, [], take, length}
use Rattle.std.specs.Prelude.{All}
use Rattle.face_tallies.specs.Parts.{AddsParts, all_parts, whole_count}
use Rattle.face_tallies.proofs.gather.gather.Given as goal

abbrev pub invariant-loop-tuple : goal.invariant-loop-tuple
invariant-loop-tuple g l = record {
  wide : All (λ w. length w ≡ g.row.D) (take l.tuple-index l.tuples);
  few : whole_count l.parts.items ≤ g.row.D * l.tuple-index;
  adds : AddsParts (all_parts (take l.tuple-index l.tuples)) [] l.parts.items;
}

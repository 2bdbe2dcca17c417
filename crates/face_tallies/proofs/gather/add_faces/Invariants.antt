use Rattle.std.specs.Prelude.{map}
use Rattle.lists.specs.Orders.{numbers}
use Rattle.face_tallies.specs.Parts.{AddsParts, part_at}
use Rattle.face_tallies.proofs.gather.add_faces.Given as goal

abbrev pub invariant-loop-place : goal.invariant-loop-place
invariant-loop-place g l = AddsParts (map (part_at l.tuple) (numbers l.place)) l.initial.parts.items l.parts.items

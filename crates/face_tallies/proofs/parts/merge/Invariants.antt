use Rattle.std.proofs.Common.{[], take}
use Rattle.face_tallies.specs.Parts.{AddsParts}
use Rattle.face_tallies.proofs.AddedParts.{AscendsBySets, AreBelowRest}
use Rattle.face_tallies.proofs.parts.merge.Given as goal

abbrev pub invariant-loop-part : goal.invariant-loop-part
invariant-loop-part l = record {
  adds : AddsParts (take l.part-index l.parts) [] l.tallies.items;
  ascends : AscendsBySets l.tallies.items;
  below : AreBelowRest l.parts l.part-index l.tallies.items;
}

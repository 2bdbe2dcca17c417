use Rattle.std.proofs.Common.{◌≡◌, true, take}
use Rattle.std.specs.List.{list_all}
use Rattle.face_tallies.specs.Parts.{is_right_in}
use Rattle.face_tallies.proofs.rule.keeps_faces.Given as goal

abbrev pub invariant-loop-tally : goal.invariant-loop-tally
invariant-loop-tally l = list_all (is_right_in l.facets) (take l.tally-index l.tallies) ≡ true

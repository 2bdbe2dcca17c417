use Rattle.std.proofs.Common.{◌≡◌, ◌++◌, map, take, drop}
use Rattle.iso_model.specs.Entries.{oriented}
use Rattle.case_patch.proofs.sides.orient.Given as goal

-- the tuples so far are oriented, and the others are as they were
abbrev pub invariant-loop-tuple : goal.invariant-loop-tuple
invariant-loop-tuple g l = l.tuples ≡ map (oriented g.C.Cell.KIND g.row.D l.label) (take l.tuple-index l.initial.tuples) ++ drop l.tuple-index l.initial.tuples

use Rattle.std.proofs.Common.{take}
use Rattle.case_patch.specs.Tuples.{Adds, IsNamed}
use Rattle.case_patch.proofs.AddedTuples.{OfSome}
use Rattle.case_patch.proofs.patches.add_facet.Given as goal

-- the tuples of the simplices so far are added
abbrev pub invariant-loop-simplex : goal.invariant-loop-simplex
invariant-loop-simplex g l = Adds (OfSome (IsNamed l.edges) (take l.simplex-index l.simplex-items)) l.initial.tuples.items l.tuples.items

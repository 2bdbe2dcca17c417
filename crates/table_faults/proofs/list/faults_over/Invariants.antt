use Rattle.seam_traces.specs.SeamLists.{seams_of}
use Rattle.table_faults.specs.Faults.{AreFaultsBelow}
use Rattle.table_faults.proofs.list.faults_over.Given as goal

-- the faults so far are those of the labels so far
abbrev pub invariant-loop-label : goal.invariant-loop-label
invariant-loop-label g l = AreFaultsBelow (seams_of l.seams) l.table l.label l.faults.items

use Rattle.std.proofs.Common.{◌≤◌}
use Rattle.seam_traces.specs.SeamLists.{seams_of}
use Rattle.table_check.specs.Verdicts.{KeepsBelow}
use Rattle.table_check.proofs.labels.first_failed.Given as goal

-- the label keeps the rules asked so far
abbrev pub invariant-loop-number : goal.invariant-loop-number
invariant-loop-number g l = record { first : 1 ≤ l.number; kept : KeepsBelow (seams_of l.seams) l.table l.label l.number }

use Rattle.std.proofs.Common.{◌≤◌}
use Rattle.seam_traces.specs.SeamLists.{seams_of}
use Rattle.table_check.specs.Verdicts.{KeptBetween}
use Rattle.table_check.proofs.labels.judge.Given as goal

-- the labels so far keep each rule
abbrev pub invariant-loop-label : goal.invariant-loop-label
invariant-loop-label g l = record { low : l.from ≤ l.label; kept : KeptBetween (seams_of l.seams) l.table l.from l.label }

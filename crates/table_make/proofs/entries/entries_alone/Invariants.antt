use Rattle.std.proofs.Common.{◌≤◌, map}
use Rattle.table_make.specs.HullEntries.{AreHullEntries}
use Rattle.table_make.proofs.entries.entries_alone.Given as goal

-- the entries of the labels so far
abbrev pub invariant-loop-label : goal.invariant-loop-label
invariant-loop-label g l = record {
  low : l.from ≤ l.label;
  high : l.label ≤ l.to;
  entries : AreHullEntries g.C.Cell.KIND g.row.D l.from l.label (map (λ entry. entry.items) l.entries.items);
}

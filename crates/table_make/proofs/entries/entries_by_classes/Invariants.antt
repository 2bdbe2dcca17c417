use Rattle.std.proofs.Common.{◌≡◌, ◌≤◌, ◌^◌, map, length}
use Rattle.table_make.specs.HullEntries.{AreHullEntries}
use Rattle.table_make.specs.ClassHulls.{KnowsHulls}
use Rattle.table_make.proofs.entries.entries_by_classes.Given as goal

-- the entries of the labels so far, and the hulls of their classes
abbrev pub invariant-loop-label : goal.invariant-loop-label
invariant-loop-label g l = record {
  low : l.from ≤ l.label;
  high : l.label ≤ l.to;
  entries : AreHullEntries g.C.Cell.KIND g.row.D l.from l.label (map (λ entry. entry.items) l.entries.items);
  room : length l.places.items ≡ 2 ^ g.C.Cell.CORNERS;
  hulls : KnowsHulls g.C.Cell.KIND g.row.D l.places.items (map (λ hull. hull.items) l.hulls.items);
}

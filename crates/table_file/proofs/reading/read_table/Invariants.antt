use Rattle.std.proofs.Common.{◌≡◌, length, map}
use Rattle.table_file.proofs.Progress.{HasRead}
use Rattle.table_file.proofs.reading.read_table.Given as goal

abbrev pub invariant-loop-label : goal.invariant-loop-label
invariant-loop-label g l = record {
  read : HasRead l.kind g.row.D l.bytes (map (λ entry. entry.items) l.entries.items) l.place;
  count : length l.entries.items ≡ l._label;
}

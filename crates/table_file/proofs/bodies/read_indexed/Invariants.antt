use Rattle.std.proofs.Common.{◌≡◌, ◌≤◌, length, map}
use Rattle.iso_formats.proofs.TableReadLaws.{HasReadOn}
use Rattle.table_file.proofs.bodies.read_indexed.Given as goal

abbrev pub invariant-loop-label : goal.invariant-loop-label
invariant-loop-label g l =
    record {
      read : HasReadOn l.kind g.row.D l.bytes (map (λ entry. entry.items) l.entries.items) l.number l.place;
      count : length l.entries.items ≡ l.label;
      inside : l.place ≤ length l.bytes;
      most : l.number ≤ l.records;
    }

use Rattle.std.proofs.Common.{◌≡◌, ◌+◌, ◌*◌, ◌≤◌, take, length}
use Rattle.iso_formats.specs.TableFile.{table_bytes}
use Rattle.table_file.proofs.Progress.{table_of}
use Rattle.table_file.proofs.writing.length_of.Given as goal

abbrev pub invariant-loop-label : goal.invariant-loop-label
invariant-loop-label g l =
    record {
      is : l.length ≡ length (table_bytes (table_of l.table.kind g.row.D (take l.label l.table.entries)));
      few : l.length ≤ 16 + l.label * 1073741828;
    }

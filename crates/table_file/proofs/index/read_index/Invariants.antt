use Rattle.std.proofs.Common.{◌+◌, ◌*◌, ◌≤◌, length}
use Rattle.iso_formats.specs.TableFile2.{NoneFailsBefore}
use Rattle.table_file.proofs.index.read_index.Given as goal

abbrev pub invariant-loop-number : goal.invariant-loop-number
invariant-loop-number g l =
    record {
      inside : 20 + 12 * l.number ≤ length l.bytes;
      before : NoneFailsBefore l.kind g.row.D l.bytes (20 + 12 * l.number);
    }

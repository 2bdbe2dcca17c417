use Rattle.std.proofs.Common.{◌≡◌, ◌≤◌, ◌*◌, ◌^◌, take, length}
use Rattle.std.specs.Prelude.{flat_map}
use Rattle.iso_formats.specs.TableFile2.{body_bytes, filled_count}
use Rattle.table_file.proofs.indexed_writing.measure.Given as goal

abbrev pub invariant-loop-label : goal.invariant-loop-label
invariant-loop-label g l =
    record {
      records : l.records ≡ filled_count (take l.label l.table.entries);
      few_records : l.records ≤ l.label;
      bodies : l.bodies ≡ length (flat_map body_bytes (take l.label l.table.entries));
      few_bytes : l.bodies ≤ l.label * 2 ^ 31;
    }

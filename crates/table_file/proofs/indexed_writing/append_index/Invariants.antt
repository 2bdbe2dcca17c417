use Rattle.std.proofs.Common.{◌≡◌, ◌≤◌, ◌+◌, ◌*◌, ◌^◌, ◌++◌, take, length}
use Rattle.std.specs.Prelude.{flat_map}
use Rattle.iso_formats.specs.TableFile2.{body_bytes, index_bytes}
use Rattle.table_file.proofs.indexed_writing.append_index.Given as goal

abbrev pub invariant-loop-label : goal.invariant-loop-label
invariant-loop-label g l =
    record {
      put : l.bytes.items ≡ l.initial.bytes.items ++ index_bytes 0 l.place (take l.label l.table.entries);
      next : l.next ≡ l.place + length (flat_map body_bytes (take l.label l.table.entries));
      few : l.next ≤ 2 ^ 20 + l.label * 2 ^ 31;
    }

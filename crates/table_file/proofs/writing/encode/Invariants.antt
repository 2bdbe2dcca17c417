use Rattle.std.proofs.Common.{◌≡◌, take}
use Rattle.iso_formats.specs.TableFile.{table_bytes}
use Rattle.table_file.proofs.Progress.{table_of}
use Rattle.table_file.proofs.writing.encode.Given as goal

abbrev pub invariant-loop-label : goal.invariant-loop-label
invariant-loop-label g l = l.bytes.items ≡ table_bytes (table_of l.table.kind g.row.D (take l.label l.table.entries))

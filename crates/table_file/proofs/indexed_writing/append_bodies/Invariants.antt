use Rattle.std.proofs.Common.{◌≡◌, ◌++◌, take}
use Rattle.std.specs.Prelude.{flat_map}
use Rattle.iso_formats.specs.TableFile2.{body_bytes}
use Rattle.table_file.proofs.indexed_writing.append_bodies.Given as goal

abbrev pub invariant-loop-label : goal.invariant-loop-label
invariant-loop-label g l = l.bytes.items ≡ l.initial.bytes.items ++ flat_map body_bytes (take l.label l.table.entries)

use Rattle.std.proofs.Common.{take}
use Rattle.std.specs.Prelude.{All}
use Rattle.iso_model.specs.Tables.{IsTuple}
use Rattle.table_file.proofs.checks.is_entry.Given as goal

abbrev pub invariant-loop-tuple : goal.invariant-loop-tuple
invariant-loop-tuple g l = All (IsTuple l.kind g.row.D) (take l.tuple-index l.tuples)

use Rattle.std.proofs.Common.{take, map}
use Rattle.std.specs.Prelude.{All}
use Rattle.iso_model.specs.Tables.{IsEntry}
use Rattle.table_file.proofs.checks.are_entries.Given as goal

abbrev pub invariant-loop-entry : goal.invariant-loop-entry
invariant-loop-entry g l = All (IsEntry l.kind g.row.D) (map (λ entry. entry.items) (take l.entry-index l.entries))

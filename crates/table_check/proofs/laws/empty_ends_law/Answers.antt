use Rattle.table_check.proofs.EmptyEntries.{empty_ends}
use Rattle.table_check.proofs.laws.empty_ends_law.Goals as goal

pub returns : goal.returns
returns c = empty_ends

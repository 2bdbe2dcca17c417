use Rattle.table_faults.proofs.FaultLists.{first_refused}
use Rattle.table_faults.proofs.laws.first_fault_law.Goals as goal

pub returns : goal.returns
returns c = first_refused

use Rattle.table_faults.proofs.FaultLists.{none_accepted, accepted_none}
use Rattle.table_faults.proofs.laws.no_fault_law.Goals as goal

pub returns : goal.returns
returns c = λ t faults are. (none_accepted t faults are, accepted_none t faults are)

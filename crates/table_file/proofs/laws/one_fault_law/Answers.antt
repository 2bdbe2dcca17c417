use Rattle.table_file.proofs.SomeFault.{one_fault}
use Rattle.table_file.proofs.laws.one_fault_law.Goals as goal

pub returns : goal.returns
returns c = one_fault

use Rattle.table_file.proofs.InverseLaws.{read_back, written_back}
use Rattle.table_file.proofs.laws.inverse_law.Goals as goal

pub returns-clause-read : goal.returns-clause-read
returns-clause-read c = read_back

pub returns-clause-written : goal.returns-clause-written
returns-clause-written c = written_back

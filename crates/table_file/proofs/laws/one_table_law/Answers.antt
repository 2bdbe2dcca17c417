use Rattle.table_file.proofs.FileLaws.{one_file_table}
use Rattle.table_file.proofs.laws.one_table_law.Goals as goal

pub returns : goal.returns
returns c = one_file_table

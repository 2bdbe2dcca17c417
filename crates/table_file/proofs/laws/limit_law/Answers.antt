use Rattle.table_file.proofs.LimitLaws.{keeps_limit}
use Rattle.table_file.proofs.laws.limit_law.Goals as goal

pub returns : goal.returns
returns c = keeps_limit

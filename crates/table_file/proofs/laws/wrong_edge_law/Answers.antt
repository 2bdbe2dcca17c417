use Rattle.table_file.proofs.FaultLaws.{wrong_edge_stops}
use Rattle.table_file.proofs.laws.wrong_edge_law.Goals as goal

pub returns : goal.returns
returns c = wrong_edge_stops

use Rattle.edge_middles.proofs.PlainCubes.{empty_entries, no_bipolar}
use Rattle.edge_middles.proofs.plain_law.Goals as goal

pub returns-clause-edges : goal.returns-clause-edges
returns-clause-edges c = no_bipolar

pub returns-clause-entries : goal.returns-clause-entries
returns-clause-entries c = empty_entries

use Rattle.edge_middles.proofs.Heights.{all_between, by_centres, joins_heights, none_at_odd}
use Rattle.edge_middles.proofs.RowLists.{row_by_row}
use Rattle.edge_middles.proofs.rows_law.Goals as goal

pub returns : goal.returns
returns c = record { rows = row_by_row; centres = by_centres; none = none_at_odd; joined = joins_heights; all = all_between }

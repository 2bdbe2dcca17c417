use Rattle.edge_middles.proofs.KeptAround.{held_by_kept, stands_where_kept}
use Rattle.edge_middles.proofs.WhatIsThere.{there_at_centre, there_in_row}
use Rattle.edge_middles.proofs.there_law.Goals as goal

pub returns : goal.returns
returns c = record { kept = stands_where_kept; held = held_by_kept; row = there_in_row; centre = there_at_centre }

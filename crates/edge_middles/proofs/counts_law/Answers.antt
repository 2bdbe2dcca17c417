use Rattle.edge_middles.proofs.FewMiddles.{counts_few}
use Rattle.edge_middles.proofs.NextRows.{counts_rows}
use Rattle.edge_middles.proofs.RowCounts.{counts_between, counts_centres, counts_first, counts_first_centre}
use Rattle.edge_middles.proofs.RowCounts.{counts_next, counts_none, counts_points, counts_samples}
use Rattle.edge_middles.proofs.counts_law.Goals as goal

pub returns : goal.returns
returns c = record {
  points = counts_points;
  samples = counts_samples;
  first = counts_first;
  next = counts_next;
  centres = counts_centres;
  first_centre = counts_first_centre;
  rows = counts_rows;
  same = counts_between;
  none = counts_none;
  few = counts_few;
}

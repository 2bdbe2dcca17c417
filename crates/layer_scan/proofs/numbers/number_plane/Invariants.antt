use Rattle.grid_rows.specs.RowNumbers.{edge_rows}
use Rattle.layer_scan.specs.PlanesOfEdges.{firsts, seconds}
use Rattle.layer_scan.proofs.EdgePlaneSteps.{AreRowsBefore}
use Rattle.layer_scan.proofs.numbers.number_plane.Given as goal

abbrev pub invariant-loop-number : goal.invariant-loop-number
invariant-loop-number l =
    AreRowsBefore (firsts l.rows l.signs) (seconds l.rows l.signs) (edge_rows l.rows) l.rows.words l.fn.count l.number l.plane l.count

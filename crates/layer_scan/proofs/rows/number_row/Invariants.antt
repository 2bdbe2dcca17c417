use Rattle.layer_scan.specs.RowsOfEdges.{first_edge, rows_of, second_edge}
use Rattle.layer_scan.proofs.EdgeWordSteps.{AreBefore}
use Rattle.layer_scan.proofs.rows.number_row.Given as goal

abbrev pub invariant-loop-w : goal.invariant-loop-w
invariant-loop-w l =
    AreBefore (first_edge l.directions.first l.near l.far (rows_of l.cubes)) (second_edge l.directions.second l.near l.far (rows_of l.cubes))
    l.fn.count l.w l.row l.count

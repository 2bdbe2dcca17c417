use Rattle.layer_scan.specs.RowsOfEdges.{first_to_corner, second_to_corner}
use Rattle.layer_scan.proofs.EdgeWordSteps.{AreBefore}
use Rattle.layer_scan.proofs.rows.number_centre_row.Given as goal

abbrev pub invariant-loop-w : goal.invariant-loop-w
invariant-loop-w l =
    AreBefore (first_to_corner l.centres l.corners l.kept) (second_to_corner l.centres l.corners l.kept) l.fn.count l.w l.row l.count

use Rattle.std.specs.Prelude.{◌*◌}
use Rattle.grid_rows.specs.RowNumbers.{cube_rows}
use Rattle.layer_scan.specs.PlanesOfCentres.{firsts_to, seconds_to}
use Rattle.layer_scan.proofs.EdgePlaneSteps.{AreRowsBefore}
use Rattle.layer_scan.proofs.centre_numbers.number_centres.Given as goal

abbrev pub invariant-loop-number : goal.invariant-loop-number
invariant-loop-number l =
    AreRowsBefore (firsts_to l.rows l.signs) (seconds_to l.rows l.signs) (2 * cube_rows l.rows) l.rows.words l.fn.count l.number l.plane l.count

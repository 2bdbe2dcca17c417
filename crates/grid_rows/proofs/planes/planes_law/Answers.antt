-- The laws of planes are those of lists in rows.
use Rattle.std.proofs.Common.{ap, ◌∙◌, ◌*◌, replicate, sym}
use Rattle.grid_rows.proofs.PlaneRows.{kept_rows, empty_rows}
use Rattle.grid_rows.specs.Planes.{no_edge}
use Rattle.grid_rows.proofs.planes.planes_law.Goals as goal

pub returns-clause-bits : goal.returns-clause-bits
returns-clause-bits c plane number words there long = kept_rows plane.bits plane.words number words there long

pub returns-clause-edges : goal.returns-clause-edges
returns-clause-edges c plane number words there long = kept_rows plane.edges plane.words number words there long

pub returns-clause-clear : goal.returns-clause-clear
returns-clause-clear c rows words plane is number less =
    let row = empty_rows plane.bits.items 0 rows plane.words number (is.1 ∙ ap (λ w. replicate (rows * w) 0) (sym is.0)) less in
    (row.0, row.1 ∙ ap (λ w. replicate w 0) is.0)

pub returns-clause-no_edge : goal.returns-clause-no_edge
returns-clause-no_edge c rows words plane is number less =
    let row = empty_rows plane.edges.items no_edge rows plane.words number (is.1 ∙ ap (λ w. replicate (rows * w) no_edge) (sym is.0)) less in
    (row.0, row.1 ∙ ap (λ w. replicate w no_edge) is.0)

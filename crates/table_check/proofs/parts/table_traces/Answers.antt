use Rattle.std.proofs.Common.{sym, subst, arith}
use Rattle.seam_traces.specs.Kept.{TellTable}
use Rattle.table_check.proofs.PieceTraces.{whole_traces}
use Rattle.table_check.proofs.parts.table_traces.Goals as goal

pub of_run-requires : goal.of_run-requires
of_run-requires g c = (omega arith, c.in_ok-gathered.ensures.facets)

pub returns : goal.returns
returns g c =
    subst (λ run. TellTable g.C.Cell.KIND g.row.D c.args.table.now run) (sym c.of_run.ensures)
    (whole_traces g.C.Cell.KIND g.row.D c.args.table.now c.args.parts c.in_ok-gathered.gathered c.requires.some c.requires.kind
    c.kind-kind.ensures.dimension c.kind-kind.ensures.table c.in_ok-gathered.ensures)

use Rattle.std.proofs.Common.{◌∙◌, ap}
use Rattle.iso_model.specs.Splits as Splits
use Rattle.cube_cells.proofs.CellPoints.{edge_is}
use Rattle.cube_cells.proofs.cubes.SignedCube.edge.Goals as goal

pub returns-clause-low : goal.returns-clause-low
returns-clause-low g c = λ grid iso number long read.
    c.edge_between.ensures.low
    ∙ ap (λ (e : Splits.Edge). e.low)
    (edge_is g.C.Cell.KIND grid.sizes g.row.D g.C.Split.PER_CUBE number c.args.rank c.args.edge c.edge_ends-first.result c.args.self.now.place
    c.offset.result c.offset-2.result c.placed-from.result c.placed-to.result
    long g.met.C.Split.counted c.requires.rank read.stands c.edge_ends-first.ensures.ends c.offset.ensures.offset c.offset-2.ensures.offset
    c.placed-from.ensures c.placed-to.ensures)

pub returns-clause-high : goal.returns-clause-high
returns-clause-high g c = λ grid iso number long read.
    c.edge_between.ensures.high
    ∙ ap (λ (e : Splits.Edge). e.high)
    (edge_is g.C.Cell.KIND grid.sizes g.row.D g.C.Split.PER_CUBE number c.args.rank c.args.edge c.edge_ends-first.result c.args.self.now.place
    c.offset.result c.offset-2.result c.placed-from.result c.placed-to.result
    long g.met.C.Split.counted c.requires.rank read.stands c.edge_ends-first.ensures.ends c.offset.ensures.offset c.offset-2.ensures.offset
    c.placed-from.ensures c.placed-to.ensures)

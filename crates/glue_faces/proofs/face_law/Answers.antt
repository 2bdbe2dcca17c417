use Rattle.surface_laws.proofs.GridSurface.{suits_grid}
use Rattle.surface_laws.proofs.KeptSurface.{closed, placed, sided, outer}
use Rattle.glue_faces.proofs.face_law.Goals as goal

pub returns : goal.returns
returns g c =
    let suits = suits_grid g.C.Cell.KIND g.row.D c.args.complex.now c.args.grid.now c.args.table.now c.table.result.now
    c.requires.regular c.table.ensures.whole c.table.ensures.accepted c.table.ensures.kind c.table.ensures.dimension c.table.ensures.same
    c.cells.ensures.axes c.requires.sizes in
    record {
      closed = closed g.C.Cell.KIND c.args.grid.now c.args.table.now c.args.iso c.args.blank suits;
      placed = placed g.C.Cell.KIND c.args.grid.now c.args.table.now c.args.iso c.args.blank suits;
      sided = sided g.C.Cell.KIND c.args.grid.now c.args.table.now c.args.iso c.args.blank suits;
      outer = outer g.C.Cell.KIND c.args.grid.now c.args.table.now c.args.iso c.args.blank suits;
    }

use Rattle.std.proofs.Common.{◌∙◌}
use Rattle.grid_split.proofs.CubeNumbers.{corner_is}
use Rattle.grid_split.proofs.complex.Complex.corner.Goals as goal

pub returns : goal.returns
returns g c =
    c.placed.ensures
    ∙ corner_is g.C.Cell.KIND c.args.self.now g.row.D c.args.cell c.args.corner c.rank_of.result c.cube_of-cube.result c.offset-offset.result
    c.rank_of.ensures.axes c.cube_of-cube.ensures.cube c.rank_of.ensures.rank c.offset-offset.ensures.offset

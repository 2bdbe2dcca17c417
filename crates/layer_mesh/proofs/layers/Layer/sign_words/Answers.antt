use Rattle.std.proofs.Common.{◌≡◌, ◌<◌}
use Rattle.layer_mesh.proofs.CubesTold.{have_points}
use Rattle.layer_mesh.proofs.layers.Layer.sign_words.Goals as goal

pub new-requires-clause-points : goal.new-requires-clause-points
new-requires-clause-points g c =
    have_points c.requires.told.0 g.row.D c.args.self.now.table.now c.requires.told.1 c.args.number c.args.self.now.planes.now c.args.self.now.edges.now
    c.point_rows.result c.requires.told.2 c.point_rows.ensures.points c.point_rows.ensures.corners c.point_rows.ensures.bordered

pub returns : goal.returns
returns g c = (c.point_rows.result, c.point_rows.ensures.points, c.new.ensures)

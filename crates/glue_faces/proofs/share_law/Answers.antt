use Rattle.glue_faces.specs.EdgeSets.{edges_in}
use Rattle.glue_faces.proofs.share_law.Goals as goal

pub returns : goal.returns
returns g c = record {
  law = g.met.C.Split.shares c.args.complex.now c.cells.ensures.axes c.args.cell c.args.other (edges_in g.C.Cell.EDGES c.args.edges);
}

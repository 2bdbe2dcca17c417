use Rattle.std.proofs.Common.{refl}
use Rattle.grid_split.specs.EdgeEnds.{as_edge}
use Rattle.glue_links.proofs.ring_law.Goals as goal

pub returns : goal.returns
returns g c = record {
  ring = g.met.C.Split.rings refl c.args.complex.now c.cells.ensures.axes (as_edge c.args.edge.now) c.requires.edge;
}

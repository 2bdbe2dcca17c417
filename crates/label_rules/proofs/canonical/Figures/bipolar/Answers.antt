use Rattle.label_rules.proofs.FigureLaws.{corners_few}
use Rattle.label_rules.proofs.canonical.Figures.bipolar.Goals as goal

pub bipolar_set-requires-clause-corners : goal.bipolar_set-requires-clause-corners
bipolar_set-requires-clause-corners g c =
    let f = c.self.inside in
    corners_few f.kind g.row.D f.edges f.facets f.edge_ends f.midpoints f.corners f.facet_sets c.self.invariant

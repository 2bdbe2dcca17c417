use Rattle.std.proofs.Common.{arith}
use Rattle.label_rules.proofs.FigureLaws.{edges_few}
use Rattle.label_rules.proofs.SideLaws.{in_dimension}
use Rattle.label_rules.proofs.canonical.Figures.keeps_off_facets.Goals as goal

pub keeps_off_facets-requires : goal.keeps_off_facets-requires
keeps_off_facets-requires g c =
    let few = (in_dimension c.args.self.now g.row.D c.kind-kind.ensures.cell).greatest in
    (omega (arith, few), edges_few c.args.self.now g.row.D c.args.tuples.now c.kind-kind.ensures.cell c.requires)

pub returns : goal.returns
returns g c = c.keeps_off_facets.ensures c.args.self.now (c.facets.ensures c.args.tuples.now c.requires)

use Rattle.std.proofs.Common.{◌<◌, ℤ, List, sym, subst}
use Rattle.polynomials.specs.Small.{AreSmall}
use Rattle.iso_model.specs.declared.Kind.{Kind}
use Rattle.iso_model.specs.Cells.{edge_count}
use Rattle.label_rules.proofs.FigureLaws.{midpoint_ints}
use Rattle.label_rules.proofs.canonical.Figures.midpoint.Goals as goal

pub returns-clause-small : goal.returns-clause-small
returns-clause-small g c =
    let f = c.self.inside in
    let below : c.args.edge < edge_count f.kind g.row.D = subst (λ (kind : Kind). c.args.edge < edge_count kind g.row.D) (sym c.self.view_is) c.requires in
    subst (λ (p : List ℤ). AreSmall 32 p) (sym (c.self.invariant.midpoints_are c.args.edge below))
    (midpoint_ints f.kind g.row.D c.self.invariant.fits c.args.edge below)

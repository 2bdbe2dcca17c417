use Rattle.std.proofs.Common.{arith, ◌<◌, ℤ, List, sym, subst}
use Rattle.polynomials.specs.Small.{AreSmall}
use Rattle.iso_model.specs.declared.Kind.{Kind}
use Rattle.iso_model.specs.Cells.{corner_count}
use Rattle.iso_model.proofs.DimensionLaws.{is_small_cell}
use Rattle.label_rules.proofs.FigureLaws.{corner_ints}
use Rattle.label_rules.proofs.canonical.Figures.corner.Goals as goal

pub bounds-corners-corner : goal.bounds-corners-corner
bounds-corners-corner g c =
    let f = c.self.inside in
    let below : c.args.corner < corner_count f.kind g.row.D =
    subst (λ (kind : Kind). c.args.corner < corner_count kind g.row.D) (sym c.self.view_is) c.requires in
    omega (arith, below, (is_small_cell f.kind g.row.D c.self.invariant.fits).corners)

pub returns-clause-small : goal.returns-clause-small
returns-clause-small g c =
    let f = c.self.inside in
    let below : c.args.corner < corner_count f.kind g.row.D =
    subst (λ (kind : Kind). c.args.corner < corner_count kind g.row.D) (sym c.self.view_is) c.requires in
    subst (λ (p : List ℤ). AreSmall 32 p) (sym (c.self.invariant.corners_are c.args.corner below))
    (corner_ints f.kind g.row.D c.self.invariant.fits c.args.corner below)

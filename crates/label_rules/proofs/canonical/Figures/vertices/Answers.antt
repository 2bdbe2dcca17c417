use Rattle.std.proofs.Common.{arith, map, pos, ℤ, List, All, sym, subst}
use Rattle.polynomials.specs.Small.{AreSmall}
use Rattle.iso_model.specs.Cells.{edge_midpoint}
use Rattle.label_rules.proofs.FigureLaws.{points_from, midpoints_small}
use Rattle.label_rules.proofs.canonical.Figures.vertices.Goals as goal

pub returns-clause-midpoints : goal.returns-clause-midpoints
returns-clause-midpoints g c =
    points_from (λ e. map pos (edge_midpoint c.args.self.now g.row.D e)) c.args.tuple.now c.loop-place.midpoints
    (omega (arith, c.loop-place.invariant.all, c.requires.0))
    (λ k h. c.loop-place.invariant.same k (omega (arith, h, c.requires.0)))

pub returns-clause-small : goal.returns-clause-small
returns-clause-small g c =
    subst (λ (ps : List (List ℤ)). All (λ p. AreSmall 32 p) ps) (sym (returns-clause-midpoints g c))
    (midpoints_small c.args.self.now g.row.D c.args.tuple.now c.kind-kind.ensures.cell c.requires.1)

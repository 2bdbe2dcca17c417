-- The bound is small, so it is read back unchanged.
use Rattle.std.proofs.Common.{ℤ, ◌^◌, ◌∙◌, sym, subst, arith, lit<}
use Rattle.polynomials.specs.Small.{IsSmall}
use Rattle.polynomials.proofs.SmallLaws.{small-back}
use Rattle.small_turn.proofs.MatrixRows.{bound_small}
use Rattle.small_turn.proofs.plane_at.Goals as goal

pub returns-clause-bound : goal.returns-clause-bound
returns-clause-bound g c =
    small-back (2 ^ 28) c.dot.result (lit< tt)
    (bound_small c.args.normal.now c.args.point.now c.dot.result (omega arith) c.dot.ensures c.requires.coefficients c.requires.small)
    ∙ c.dot.ensures

pub returns-clause-constant : goal.returns-clause-constant
returns-clause-constant g c =
    let small = bound_small c.args.normal.now c.args.point.now c.dot.result (omega arith) c.dot.ensures c.requires.coefficients c.requires.small in
    subst (λ (z : ℤ). IsSmall (2 ^ 28) z) (sym (small-back (2 ^ 28) c.dot.result (lit< tt) small)) small

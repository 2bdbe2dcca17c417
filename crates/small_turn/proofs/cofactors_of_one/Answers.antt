use Rattle.std.proofs.Common.{◌∙◌, sym, lit<, get_or, pos, arith}
use Rattle.small_turn.proofs.Cramer.{two_same}
use Rattle.small_turn.proofs.TurnLaws.{cofactors-one_row}
use Rattle.polynomials.proofs.SmallLaws.{small-back, negated_back}
use Rattle.small_turn.proofs.cofactors_of_one.Goals as goal

pub returns-clause-value : goal.returns-clause-value
returns-clause-value c =
    two_same _ _ _ _
    (negated_back 64 (get_or c.args.a.now 1 (pos 0)) (lit< tt) (c.requires 1 (pos 0) (omega arith)))
    (small-back 64 (get_or c.args.a.now 0 (pos 0)) (lit< tt) (c.requires 0 (pos 0) (omega arith)))
    ∙ sym (cofactors-one_row c.args.a.now c.told-a)

use Rattle.std.proofs.Common.{◌^◌, lit<, ap, neg_ℤ, ◌∙◌}
use Rattle.iso_model.specs.Turns.{cofactors}
use Rattle.small_turn.proofs.Cramer.{four_same}
use Rattle.polynomials.proofs.SmallLaws.{small-back, negated_back}
use Rattle.small_turn.proofs.cofactors_of_three.Goals as goal

pub returns-clause-value : goal.returns-clause-value
unfolding cofactors
returns-clause-value c =
    four_same _ _ _ _ _ _ _ _
    (negated_back (2 ^ 21) c.turn_without-first.result (lit< tt) c.turn_without-first.ensures.small ∙ ap neg_ℤ c.turn_without-first.ensures.value)
    (small-back (2 ^ 21) c.turn_without-second.result (lit< tt) c.turn_without-second.ensures.small ∙ c.turn_without-second.ensures.value)
    (negated_back (2 ^ 21) c.turn_without-third.result (lit< tt) c.turn_without-third.ensures.small ∙ ap neg_ℤ c.turn_without-third.ensures.value)
    (small-back (2 ^ 21) c.turn_without-fourth.result (lit< tt) c.turn_without-fourth.ensures.small ∙ c.turn_without-fourth.ensures.value)

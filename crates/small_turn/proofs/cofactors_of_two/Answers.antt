use Rattle.std.proofs.Common.{ℤ, sym, ◌∙◌, lit<, subst, List}
use Rattle.small_turn.proofs.TurnLaws.{cofactors-two_rows}
use Rattle.polynomials.specs.Small.{AreSmall}
use Rattle.polynomials.proofs.SmallLaws.{small-back, AreSmall-back, three_small}
use Rattle.small_turn.proofs.Cramer.{three_same}
use Rattle.small_turn.proofs.cofactors_of_two.Goals as goal

pub returns-clause-value : goal.returns-clause-value
returns-clause-value c =
    let a = AreSmall-back 64 c.args.a.now (lit< tt) c.requires.a_small in
    let b = AreSmall-back 64 c.args.b.now (lit< tt) c.requires.b_small in
    let e = cofactors-two_rows c.args.a.now c.args.b.now c.told-a c.told-b in
    let f = simp (a, b) at c.turn_two-first.ensures.value in
    let s = simp (a, b) at c.turn_two-second.ensures.value in
    let t = simp (a, b) at c.turn_two-third.ensures.value in
    let f' = small-back 8192 c.turn_two-first.result (lit< tt) c.turn_two-first.ensures.small in
    let s' = small-back 8192 c.turn_two-second.result (lit< tt) c.turn_two-second.ensures.small in
    let t' = small-back 8192 c.turn_two-third.result (lit< tt) c.turn_two-third.ensures.small in
    three_same _ _ _ _ _ _ (f' ∙ f) (s' ∙ s) (t' ∙ t) ∙ sym e

pub returns-clause-small : goal.returns-clause-small
returns-clause-small c =
    let f' = small-back 8192 c.turn_two-first.result (lit< tt) c.turn_two-first.ensures.small in
    let s' = small-back 8192 c.turn_two-second.result (lit< tt) c.turn_two-second.ensures.small in
    let t' = small-back 8192 c.turn_two-third.result (lit< tt) c.turn_two-third.ensures.small in
    subst (λ (xs : List ℤ). AreSmall 8192 xs) (sym (three_same _ _ _ _ _ _ f' s' t'))
    (three_small 8192 c.turn_two-first.result c.turn_two-second.result c.turn_two-third.result c.turn_two-first.ensures.small
    c.turn_two-second.ensures.small c.turn_two-third.ensures.small)

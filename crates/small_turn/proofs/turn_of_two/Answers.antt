use Rattle.std.proofs.Common.{sym, ◌∙◌, lit<}
use Rattle.small_turn.proofs.TurnLaws.{turn-two_rows}
use Rattle.polynomials.proofs.SmallLaws.{small-back, AreSmall-back}
use Rattle.small_turn.proofs.turn_of_two.Goals as goal

pub returns : goal.returns
returns c =
    let a = AreSmall-back 64 c.args.a.now (lit< tt) c.requires.a_small in
    let b = AreSmall-back 64 c.args.b.now (lit< tt) c.requires.b_small in
    let v = simp (a, b) at c.turn_two.ensures.value in
    small-back 8192 c.turn_two.result (lit< tt) c.turn_two.ensures.small ∙ v ∙ sym (turn-two_rows c.args.a.now c.args.b.now c.told-a c.told-b)

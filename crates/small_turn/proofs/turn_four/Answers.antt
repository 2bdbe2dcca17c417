use Rattle.std.proofs.Common.{arith, ℤ, sym, ◌∙◌, ap, subst, lit<, ◌^◌, List}
use Rattle.iso_model.specs.Turns.{dot}
use Rattle.small_turn.proofs.TurnLaws.{turn-expand_four}
use Rattle.polynomials.specs.Small.{IsSmall}
use Rattle.polynomials.proofs.SmallLaws.{small-back, small-weaken}
use Rattle.small_turn.proofs.MatrixRows.{small-dot}
use Rattle.small_turn.proofs.turn_four.Goals as goal

pub returns : goal.returns
returns c =
    let b =
    small-weaken _ (2 ^ 40) (dot c.cofactors_of_three.result c.args.d.now)
    (small-dot (2 ^ 21) 64 c.cofactors_of_three.result c.args.d.now c.cofactors_of_three.ensures.small c.requires.d_small) (omega arith) in
    small-back (2 ^ 40) c.dot.result (lit< tt) (subst (λ (z : ℤ). IsSmall (2 ^ 40) z) (sym c.dot.ensures) b)
    ∙ c.dot.ensures ∙ ap (λ (xs : List ℤ). dot xs c.args.d.now) c.cofactors_of_three.ensures.value
    ∙ sym (turn-expand_four c.args.a.now c.args.b.now c.args.c.now c.args.d.now c.told-a c.told-b c.told-c c.told-d)

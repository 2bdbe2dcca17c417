use Rattle.std.proofs.Common.{arith, ℤ, sym, ◌∙◌, ap, subst, lit<, ◌^◌, List}
use Rattle.iso_model.specs.Turns.{dot}
use Rattle.small_turn.proofs.TurnLaws.{turn-expand_three}
use Rattle.polynomials.specs.Small.{IsSmall}
use Rattle.polynomials.proofs.SmallLaws.{small-back, small-weaken}
use Rattle.small_turn.proofs.MatrixRows.{small-dot}
use Rattle.small_turn.proofs.turn_three.Goals as goal

pub returns-clause-value : goal.returns-clause-value
returns-clause-value c =
    let b =
    small-weaken _ (2 ^ 21) (dot c.cofactors_of_two.result c.args.c.now)
    (small-dot 8192 64 c.cofactors_of_two.result c.args.c.now c.cofactors_of_two.ensures.small c.requires.c_small) (omega arith) in
    let e = c.dot.ensures in
    small-back (2 ^ 21) c.dot.result (lit< tt) (subst (λ (z : ℤ). IsSmall (2 ^ 21) z) (sym e) b)
    ∙ e ∙ ap (λ (xs : List ℤ). dot xs c.args.c.now) c.cofactors_of_two.ensures.value
    ∙ sym (turn-expand_three c.args.a.now c.args.b.now c.args.c.now c.told-a c.told-b c.told-c)

pub returns-clause-small : goal.returns-clause-small
returns-clause-small c =
    let b =
    small-weaken _ (2 ^ 21) (dot c.cofactors_of_two.result c.args.c.now)
    (small-dot 8192 64 c.cofactors_of_two.result c.args.c.now c.cofactors_of_two.ensures.small c.requires.c_small) (omega arith) in
    let n : IsSmall (2 ^ 21) c.dot.result = subst (λ (z : ℤ). IsSmall (2 ^ 21) z) (sym c.dot.ensures) b in
    subst (λ (z : ℤ). IsSmall (2 ^ 21) z) (sym (small-back (2 ^ 21) c.dot.result (lit< tt) n)) n

use Rattle.std.proofs.Common.{List, ℤ, subst, sym}
use Rattle.polynomials.specs.Small.{AreSmall}
use Rattle.small_turn.proofs.MatrixRows.{AreSmall-without}
use Rattle.small_turn.proofs.turn_without.Goals as goal

pub turn_three-requires-clause-a_small : goal.turn_three-requires-clause-a_small
turn_three-requires-clause-a_small c =
    subst (λ (xs : List ℤ). AreSmall 64 xs) (sym c.minor_of_four.ensures) (AreSmall-without 64 c.args.k c.args.a.now c.requires.a_small)

pub turn_three-requires-clause-b_small : goal.turn_three-requires-clause-b_small
turn_three-requires-clause-b_small c =
    subst (λ (xs : List ℤ). AreSmall 64 xs) (sym c.minor_of_four-2.ensures) (AreSmall-without 64 c.args.k c.args.b.now c.requires.b_small)

pub turn_three-requires-clause-c_small : goal.turn_three-requires-clause-c_small
turn_three-requires-clause-c_small c =
    subst (λ (xs : List ℤ). AreSmall 64 xs) (sym c.minor_of_four-3.ensures) (AreSmall-without 64 c.args.k c.args.c.now c.requires.c_small)

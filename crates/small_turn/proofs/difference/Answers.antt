use Rattle.std.proofs.Common.{lit<, ℤ, List, pos, get_or, ◌-ℤ◌, ◌∙◌, ◌≡◌, sym, subst, length, length-set, arith}
use Rattle.iso_model.specs.Turns.{minus}
use Rattle.small_turn.proofs.PointSums.{get_or-minus}
use Rattle.small_turn.proofs.Planes.{length-minus}
use Rattle.polynomials.specs.Small.{AreSmall}
use Rattle.polynomials.proofs.SmallLaws.{same_ints, written_more, difference_back}
use Rattle.small_turn.proofs.MatrixRows.{AreSmall-minus}
use Rattle.small_turn.proofs.difference.Goals as goal

pub loop-i-preserved : goal.loop-i-preserved
loop-i-preserved g c = (
  length-set _ _ _ ∙ c.loop-i.invariant.0,
  written_more c.loop-i.out c.loop-i.i _ (λ k. get_or c.args.a.now k (pos 0) -ℤ get_or c.args.b.now k (pos 0)) (omega arith)
      (difference_back 32 32 (get_or c.args.a.now c.loop-i.i (pos 0)) (get_or c.args.b.now c.loop-i.i (pos 0)) (lit< tt)
      (c.requires.a_small c.loop-i.i (pos 0) (omega arith)) (c.requires.b_small c.loop-i.i (pos 0) (omega arith)))
      c.loop-i.invariant.1,
)

pub returns-clause-value : goal.returns-clause-value
returns-clause-value g c =
    let wide : length c.args.a.now ≡ length c.args.b.now = omega arith in
    let l = length-minus c.args.a.now c.args.b.now wide in
    same_ints c.loop-i.out (minus c.args.a.now c.args.b.now) (omega (arith, l))
    (λ k p. c.loop-i.invariant.1 k (omega arith) ∙ sym (get_or-minus c.args.a.now c.args.b.now k wide (omega arith)))

pub returns-clause-small : goal.returns-clause-small
returns-clause-small g c =
    subst (λ (xs : List ℤ). AreSmall 64 xs) (sym (returns-clause-value g c))
    (AreSmall-minus 32 32 c.args.a.now c.args.b.now c.requires.a_small c.requires.b_small)

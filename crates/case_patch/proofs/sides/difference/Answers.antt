use Rattle.std.proofs.Common.{lit<, ℤ, List, pos, get_or, ◌-ℤ◌, ◌∙◌, ◌≡◌, sym, subst, length, length-set, arith}
use Rattle.iso_model.specs.Turns.{minus}
use Rattle.small_turn.proofs.PointSums.{get_or-minus}
use Rattle.small_turn.proofs.Planes.{length-minus}
use Rattle.small_turn.proofs.MatrixRows.{AreSmall-minus}
use Rattle.polynomials.specs.Small.{AreSmall}
use Rattle.polynomials.proofs.SmallLaws.{same_ints, written_more}
use Rattle.case_patch.proofs.Narrow.{narrow_difference}
use Rattle.case_patch.proofs.sides.difference.Goals as goal

pub loop-axis-preserved : goal.loop-axis-preserved
loop-axis-preserved g c = (
  length-set _ _ _ ∙ c.loop-axis.invariant.0,
  written_more c.loop-axis.vector c.loop-axis.axis _ (λ k. get_or c.args.to.now k (pos 0) -ℤ get_or c.args.from.now k (pos 0)) (omega arith)
      (narrow_difference 32 32 (get_or c.args.to.now c.loop-axis.axis (pos 0)) (get_or c.args.from.now c.loop-axis.axis (pos 0)) (lit< tt)
      (c.requires.to c.loop-axis.axis (pos 0) (omega arith)) (c.requires.from c.loop-axis.axis (pos 0) (omega arith)))
      c.loop-axis.invariant.1,
)

pub returns-clause-value : goal.returns-clause-value
returns-clause-value g c =
    let wide : length c.args.to.now ≡ length c.args.from.now = omega arith in
    let l = length-minus c.args.to.now c.args.from.now wide in
    same_ints c.loop-axis.vector (minus c.args.to.now c.args.from.now) (omega (arith, l))
    (λ k p. c.loop-axis.invariant.1 k (omega arith) ∙ sym (get_or-minus c.args.to.now c.args.from.now k wide (omega arith)))

pub returns-clause-small : goal.returns-clause-small
returns-clause-small g c =
    subst (λ (xs : List ℤ). AreSmall 64 xs) (sym (returns-clause-value g c)) (AreSmall-minus 32 32 c.args.to.now c.args.from.now c.requires.to c.requires.from)

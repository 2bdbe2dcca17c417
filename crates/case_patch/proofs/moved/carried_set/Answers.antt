use Rattle.std.proofs.Common.{◌<◌, ◌∙◌, sym, arith, get_or}
use Rattle.std.proofs.lemmas.Bool.{eq-eqb, ne_eqb}
use Rattle.std.proofs.lemmas.Nat.Bits.{shr_and_one}
use Rattle.case_patch.proofs.moved.carried_set.Goals as goal
use Rattle.case_patch.proofs.moved.carried_set.Goals.{then-set-list-eq1, else-set-list-eq1}
use Rattle.lists.specs.Bits.{is_set}
use Rattle.halfspace.proofs.TightNumbers.{number_with, number_without}

pub loop-point-preserved : goal.loop-point-preserved
loop-point-preserved c =
    let few : c.loop-point.point < 64 = omega (arith, c.loop-point-test.true, c.requires.few) in
    elim c.if-set-list-eq1.branch [
      | then-set-list-eq1 w ↦
          w.carried-is ∙ number_with (λ i. is_set c.args.set (get_or c.args.list.now i 0)) c.loop-point.point c.loop-point.carried few c.loop-point.invariant
          (eq-eqb _ 1 (sym (shr_and_one c.args.set (get_or c.args.list.now c.loop-point.point 0)) ∙ w.if-set-list-eq1.true))
      | else-set-list-eq1 w ↦
          w.carried-is ∙ number_without (λ i. is_set c.args.set (get_or c.args.list.now i 0)) c.loop-point.point c.loop-point.carried c.loop-point.invariant
          (ne_eqb _ 1 (λ e. w.if-set-list-eq1.false (shr_and_one c.args.set (get_or c.args.list.now c.loop-point.point 0) ∙ e)))
    ]

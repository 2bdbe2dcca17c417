use Rattle.std.proofs.Common.{◌≡◌, ◌<◌, ◌≤◌, ◌+◌, ◌^◌, arith, sym, ◌∙◌, subst}
use Rattle.std.specs.Prelude.{true, false}
use Rattle.std.proofs.lemmas.Bool.{eq-eqb, ne_eqb}
use Rattle.std.proofs.lemmas.Nat.Bits.{shr_and_one}
use Rattle.iso_model.specs.Moves.{Move}
use Rattle.cube_moves.proofs.ExchangeChecks.{few_flips}
use Rattle.cube_moves.proofs.LabelSteps.{IsMovedBelow, one_left_out, one_more_moved}
use Rattle.cube_moves.proofs.moves.move_label.Goals as goal
use Rattle.cube_moves.proofs.moves.move_label.Goals.{then-label-corner-eq1, else-label-corner-eq1}
use Rattle.lists.specs.Bits.{is_set}

pub loop-corner-preserved : goal.loop-corner-preserved
loop-corner-preserved g c =
    let by : Move = record { axes = c.args.by.now.axes; flips = c.args.by.now.flips } in
    let few : 2 ^ g.row.D ≤ 16 = few_flips g.row.D c.requires.dimension in
    let inside : c.loop-corner.corner < 2 ^ g.row.D = omega arith in
    elim c.if-label-corner-eq1.branch [
      | then-label-corner-eq1 w ↦
          let some : is_set c.args.label c.loop-corner.corner ≡ true =
          eq-eqb _ 1 (sym (shr_and_one c.args.label c.loop-corner.corner) ∙ w.if-label-corner-eq1.true) in
          subst (IsMovedBelow g.row.D by c.args.label (c.loop-corner.corner + 1)) (sym w.moved-is)
          (one_more_moved g.row.D c.requires.dimension by c.requires.is_move c.args.label c.loop-corner.corner c.loop-corner.moved w.move_corner.result inside
          w.move_corner.ensures.value some c.loop-corner.invariant)
      | else-label-corner-eq1 w ↦
          let none : is_set c.args.label c.loop-corner.corner ≡ false =
          ne_eqb _ 1 (λ e. w.if-label-corner-eq1.false (shr_and_one c.args.label c.loop-corner.corner ∙ e)) in
          subst (IsMovedBelow g.row.D by c.args.label (c.loop-corner.corner + 1)) (sym w.moved-is)
          (one_left_out g.row.D by c.args.label c.loop-corner.corner c.loop-corner.moved none c.loop-corner.invariant)
    ]

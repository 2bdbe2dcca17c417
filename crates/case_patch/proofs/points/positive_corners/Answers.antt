use Rattle.std.proofs.Common.{sym, ap, ◌∙◌}
use Rattle.case_patch.proofs.AppendedLists.{kept_more, kept_same}
use Rattle.case_patch.proofs.points.positive_corners.Goals as goal
use Rattle.case_patch.proofs.points.positive_corners.Goals.{then-has_member+in_ok-add_number, else-has_member}
use Rattle.lists.specs.Bits.{is_set}

pub loop-corner-preserved : goal.loop-corner-preserved
loop-corner-preserved g c = elim c.if-has_member.branch [
  | then-has_member+in_ok-add_number w ↦ ap (λ v. v.items) w.corners-is
      ∙ kept_more (is_set c.args.label) c.loop-corner.corner c.loop-corner.corners.items w.add_number.new.numbers.items c.loop-corner.invariant
      (sym c.has_member.ensures ∙ w.if-has_member.true) w.in_ok-add_number.ensures
  | else-has_member w ↦ ap (λ v. v.items) w.corners-is
      ∙ kept_same (is_set c.args.label) c.loop-corner.corner c.loop-corner.corners.items c.loop-corner.invariant
      (sym c.has_member.ensures ∙ w.if-has_member.false)
]

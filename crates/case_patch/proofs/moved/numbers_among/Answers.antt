use Rattle.std.proofs.Common.{ℕ, ◌∷◌, ◌++◌, [], ◌∙◌, ap, sym, List, map}
use Rattle.case_patch.specs.MovedPoints.{carried_among}
use Rattle.lists.specs.Orders.{numbers}
use Rattle.case_patch.proofs.AppendedLists.{mapped_more}
use Rattle.case_patch.proofs.moved.numbers_among.Goals as goal

pub loop-point-preserved : goal.loop-point-preserved
loop-point-preserved g c =
    let number = carried_among g.row.D (record { axes = c.args.by.now.axes; flips = c.args.by.now.flips }) c.args.edges.now c.args.corners.now
    c.args.to_edges.now c.args.to_corners.now in
    c.in_ok-add_number.ensures ∙ ap (λ (xs : List ℕ). xs ++ c.carried_number-number.result ∷ []) c.loop-point.invariant
    ∙ ap (λ (x : ℕ). map number (numbers c.loop-point.point) ++ x ∷ []) c.carried_number-number.ensures ∙ sym (mapped_more number c.loop-point.point)

use Rattle.std.proofs.Common.{ℕ, ◌<◌, ◌∙◌, ap, List, ℤ, pos, ◌+ℤ◌, map, slice_index_or, arith, subst}
use Rattle.std.proofs.lemmas.List.FromFn.{fill_by_all}
use Rattle.lists.specs.Orders.{numbers}
use Rattle.iso_model.specs.Cells.{corner_point, corner_count}
use Rattle.case_patch.proofs.AppendedLists.{doubled_points}
use Rattle.case_patch.proofs.SmallPoints.{corner_is_point}
use Rattle.case_patch.proofs.points.twice_corner.Goals as goal

pub returns : goal.returns
returns g c =
    let below : c.args.corner < corner_count g.C.Cell.KIND g.row.D = subst (λ (n : ℕ). c.args.corner < n) g.met.C.Cell.corners c.requires in
    fill_by_all (λ i. slice_index_or c.corner_at-point.result i (pos 0) +ℤ slice_index_or c.corner_at-point.result i (pos 0)) c.loop-axis.twice
    g.row.D (pos 0) c.loop-axis.invariant.0
    (λ i h. c.loop-axis.invariant.1 i (omega arith))
    ∙ ap (λ (xs : List ℤ). map (λ i. slice_index_or xs i (pos 0) +ℤ slice_index_or xs i (pos 0)) (numbers g.row.D)) c.corner_at-point.ensures
    ∙ doubled_points g.row.D (corner_point g.C.Cell.KIND g.row.D c.args.corner)
    (corner_is_point g.C.Cell.KIND g.row.D g.met.C.Cell.is_dimension g.met.C.Cell.has_dimension c.args.corner below).wide

use Rattle.std.proofs.Common.{◌≡◌, ◌∙◌, ap, sym, subst, map, length, arith}
use Rattle.std.proofs.lemmas.List.FromFn.{length-map-range_with_len}
use Rattle.iso_model.specs.declared.Kind.{Kind}
use Rattle.iso_model.specs.declared.Kind.TheVariants.{Cube}
use Rattle.iso_model.specs.Cells.{HasDimension}
use Rattle.iso_model.specs.Entries.{label_points}
use Rattle.iso_model.specs.Moves.{Move}
use Rattle.halfspace.specs.Choices.{AreFacetNumbers}
use Rattle.cube_moves.proofs.InverseMoves.{undone, undone_is}
use Rattle.case_patch.specs.FacetLists.{AreAllFacets}
use Rattle.case_patch.specs.MovedPoints.{carried_point, carried_by}
use Rattle.case_patch.proofs.CarriedFacets.{class_facets, numbers_small}
use Rattle.case_patch.proofs.CubeLabels.{cube_label}
use Rattle.case_patch.proofs.LabelPoints.{few_points, points_length}
use Rattle.case_patch.proofs.Narrow.{bytes_fit}
use Rattle.lists.specs.Orders.{numbers}
use Rattle.case_patch.proofs.patches.patch_moved.Goals as goal
use Rattle.iso_model.proofs.CellCounts.{axes_between}

pub carried_sets-requires-clause-members : goal.carried_sets-requires-clause-members
carried_sets-requires-clause-members g c =
    let by : Move = record { axes = c.args.by.now.axes; flips = c.args.by.now.flips } in
    let is = g.met.C.Cell.is_dimension in
    let has : HasDimension Cube g.row.D = axes_between g.row.D is in
    let other = c.in_ok-numbers.ensures.other in
    numbers_small g.row.D is by (undone g.row.D by) (undone_is g.row.D is by c.requires.is_move) c.args.label other
    (cube_label g.C.Cell.KIND g.row.D g.C.Cell.CORNERS c.args.label c.requires.kind g.met.C.Cell.corners c.requires.label) c.in_ok-numbers.ensures.carries 64
    (omega (arith, points_length Cube g.row.D other, few_points Cube g.row.D other has)) c.deref.result.now
    (c.deref.ensures.value ∙ c.in_ok-numbers.ensures.numbered)

pub carried_sets-requires-clause-few : goal.carried_sets-requires-clause-few
carried_sets-requires-clause-few g c =
    let by : Move = record { axes = c.args.by.now.axes; flips = c.args.by.now.flips } in
    let has : HasDimension Cube g.row.D = axes_between g.row.D g.met.C.Cell.is_dimension in
    let list : c.deref.result.now ≡ map (carried_point g.row.D by c.args.label c.in_ok-numbers.ensures.other)
    (numbers (length (label_points Cube g.row.D c.args.label))) =
    c.deref.ensures.value ∙ c.in_ok-numbers.ensures.numbered in
    let long = ap length list ∙ length-map-range_with_len (carried_point g.row.D by c.args.label c.in_ok-numbers.ensures.other) 0
    (length (label_points Cube g.row.D c.args.label)) in
    omega (arith, long, points_length Cube g.row.D c.args.label, few_points Cube g.row.D c.args.label has)

pub entry_with-requires : goal.entry_with-requires
entry_with-requires g c =
    let by : Move = record { axes = c.args.by.now.axes; flips = c.args.by.now.flips } in
    let is = g.met.C.Cell.is_dimension in
    let other = c.in_ok-numbers.ensures.other in
    let class : AreFacetNumbers g.row.D (label_points Cube g.row.D other) c.args.class.now =
    subst (λ (q : Kind). AreFacetNumbers g.row.D (label_points q g.row.D other) c.args.class.now) c.requires.kind
    (c.requires.class other c.in_ok-numbers.ensures.carries) in
    let facets : AreAllFacets g.row.D (label_points Cube g.row.D c.args.label) (map (carried_by c.deref.result.now) c.args.class.now) =
    class_facets g.row.D is by (undone g.row.D by) (undone_is g.row.D is by c.requires.is_move) c.args.label other
    (cube_label g.C.Cell.KIND g.row.D g.C.Cell.CORNERS c.args.label c.requires.kind g.met.C.Cell.corners c.requires.label) c.in_ok-numbers.ensures.carries
    c.args.class.now c.deref.result.now (c.deref.ensures.value ∙ c.in_ok-numbers.ensures.numbered) class in
    let found : c.deref-2.result.now ≡ map (carried_by c.deref.result.now) c.args.class.now = c.deref-2.ensures.value ∙ c.in_ok-facets.ensures in (
      bytes_fit g.row.D is,
      (
        c.requires.label,
        subst (λ (q : Kind). AreAllFacets g.row.D (label_points q g.row.D c.args.label) c.deref-2.result.now) (sym c.requires.kind)
            (subst (AreAllFacets g.row.D (label_points Cube g.row.D c.args.label)) (sym found) facets),
      ),
    )

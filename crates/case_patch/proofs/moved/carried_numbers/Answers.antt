use Rattle.std.proofs.Common.{◌≡◌, ◌+◌, ◌∙◌, ap, sym, List, ℕ, map, length, arith}
use Rattle.iso_model.specs.declared.Kind.{Kind}
use Rattle.iso_model.specs.declared.Kind.TheVariants.{Cube}
use Rattle.iso_model.specs.Entries.{label_edges, label_corners}
use Rattle.iso_model.specs.Moves.{Move}
use Rattle.case_patch.specs.MovedPoints.{carried_among, AreCarriedNumbers}
use Rattle.case_patch.proofs.CubeLabels.{cube_label, cube_edges_below, cube_corners_below, few_of}
use Rattle.case_patch.proofs.LabelPoints.{points_length}
use Rattle.lists.specs.Orders.{numbers}
use Rattle.std.proofs.lemmas.Result.{IfOk-weaker}
use Rattle.case_patch.proofs.moved.carried_numbers.Goals as goal
use Rattle.iso_model.proofs.CellCounts.{axes_between}

pub move_label-other-requires : goal.move_label-other-requires
move_label-other-requires g c =
    let few = axes_between g.row.D g.met.C.Cell.is_dimension in (
      omega arith,
      (
        g.met.C.Cell.is_dimension,
        (c.requires.is_move, cube_label g.C.Cell.KIND g.row.D g.C.Cell.CORNERS c.args.label c.requires.kind g.met.C.Cell.corners c.requires.label),
      ),
    )

pub numbers_among-requires : goal.numbers_among-requires
numbers_among-requires g c =
    let few = axes_between g.row.D g.met.C.Cell.is_dimension in
    let edges : c.deref.result.now ≡ label_edges g.C.Cell.KIND g.row.D c.args.label = c.deref.ensures.value ∙ c.in_ok-edges.ensures in
    let corners : c.deref-2.result.now ≡ label_corners g.C.Cell.KIND g.row.D c.args.label = c.deref-2.ensures.value ∙ c.in_ok-corners.ensures in
    let to_edges : c.deref-3.result.now ≡ label_edges g.C.Cell.KIND g.row.D c.move_label-other.result = c.deref-3.ensures.value ∙ c.in_ok-to_edges.ensures in
    let to_corners : c.deref-4.result.now ≡ label_corners g.C.Cell.KIND g.row.D c.move_label-other.result = c.deref-4.ensures.value
    ∙ c.in_ok-to_corners.ensures in (
      omega arith,
      (
        g.met.C.Cell.is_dimension,
        (
          c.requires.is_move,
          (
            cube_edges_below g.C.Cell.KIND g.row.D c.args.label c.deref.result.now c.requires.kind edges,
            (
              cube_corners_below g.C.Cell.KIND g.row.D c.args.label c.deref-2.result.now c.requires.kind corners,
              (
                few_of g.C.Cell.KIND g.row.D c.args.label c.deref.result.now c.deref-2.result.now g.met.C.Cell.has_dimension edges corners,
                few_of g.C.Cell.KIND g.row.D c.move_label-other.result c.deref-3.result.now c.deref-4.result.now g.met.C.Cell.has_dimension to_edges to_corners,
              ),
            ),
          ),
        ),
      ),
    )

pub returns : goal.returns
returns g c =
    let by : Move = record { axes = c.args.by.now.axes; flips = c.args.by.now.flips } in
    let edges : c.deref.result.now ≡ label_edges Cube g.row.D c.args.label =
    c.deref.ensures.value ∙ c.in_ok-edges.ensures ∙ ap (λ (q : Kind). label_edges q g.row.D c.args.label) c.requires.kind in
    let corners : c.deref-2.result.now ≡ label_corners Cube g.row.D c.args.label =
    c.deref-2.ensures.value ∙ c.in_ok-corners.ensures ∙ ap (λ (q : Kind). label_corners q g.row.D c.args.label) c.requires.kind in
    let to_edges : c.deref-3.result.now ≡ label_edges Cube g.row.D c.move_label-other.result =
    c.deref-3.ensures.value ∙ c.in_ok-to_edges.ensures ∙ ap (λ (q : Kind). label_edges q g.row.D c.move_label-other.result) c.requires.kind in
    let to_corners : c.deref-4.result.now ≡ label_corners Cube g.row.D c.move_label-other.result =
    c.deref-4.ensures.value ∙ c.in_ok-to_corners.ensures ∙ ap (λ (q : Kind). label_corners q g.row.D c.move_label-other.result) c.requires.kind in
    IfOk-weaker c.numbers_among.result
    (λ list. list.items ≡ map (carried_among g.row.D by c.deref.result.now c.deref-2.result.now c.deref-3.result.now c.deref-4.result.now)
    (numbers (length c.deref.result.now + length c.deref-2.result.now)))
    (λ list. AreCarriedNumbers g.row.D c.args.by.now.axes c.args.by.now.flips c.args.label list.items)
    (λ list e. record {
      other = c.move_label-other.result;
      carries = c.move_label-other.ensures;
      numbered = e
          ∙ ap (λ (xs : List ℕ). map (carried_among g.row.D by xs c.deref-2.result.now c.deref-3.result.now c.deref-4.result.now)
          (numbers (length xs + length c.deref-2.result.now))) edges
          ∙ ap (λ (xs : List ℕ). map (carried_among g.row.D by (label_edges Cube g.row.D c.args.label) xs c.deref-3.result.now c.deref-4.result.now)
          (numbers (length (label_edges Cube g.row.D c.args.label) + length xs))) corners
          ∙ ap (λ (xs : List ℕ). map
          (carried_among g.row.D by (label_edges Cube g.row.D c.args.label) (label_corners Cube g.row.D c.args.label) xs c.deref-4.result.now)
          (numbers (length (label_edges Cube g.row.D c.args.label) + length (label_corners Cube g.row.D c.args.label)))) to_edges
          ∙ ap (λ (xs : List ℕ). map
          (carried_among g.row.D by (label_edges Cube g.row.D c.args.label) (label_corners Cube g.row.D c.args.label)
          (label_edges Cube g.row.D c.move_label-other.result) xs)
          (numbers (length (label_edges Cube g.row.D c.args.label) + length (label_corners Cube g.row.D c.args.label)))) to_corners
          ∙ ap (λ (n : ℕ). map
          (carried_among g.row.D by (label_edges Cube g.row.D c.args.label) (label_corners Cube g.row.D c.args.label)
          (label_edges Cube g.row.D c.move_label-other.result) (label_corners Cube g.row.D c.move_label-other.result)) (numbers n))
          (sym (points_length Cube g.row.D c.args.label));
    })
    c.numbers_among.ensures

use Rattle.std.proofs.Common.{◌≡◌, ◌*◌, ◌++◌, ◌<◌, ◌≤◌, ◌∙◌, ap, sym, subst, List, ℕ, ℤ, pos, map, length, All, IfOk, arith}
use Rattle.polynomials.specs.Small.{AreSmall}
use Rattle.iso_model.specs.Cells.{corner_count, edge_count, corner_point, edge_midpoint}
use Rattle.iso_model.specs.Entries.{label_edges, label_corners, label_points}
use Rattle.halfspace.specs.Choices.{AreFacetNumbers}
use Rattle.case_patch.proofs.Narrow.{row_fits}
use Rattle.case_patch.proofs.LabelPoints.{edges_below, corners_below, few_points, points_length, points_small}
use Rattle.case_patch.proofs.facets.hull.Goals as goal

pub points_of-requires : goal.points_of-requires
points_of-requires g c =
    let edges : c.deref.result.now ≡ label_edges g.C.Cell.KIND g.row.D c.args.label = c.deref.ensures.value ∙ c.in_ok-edges.ensures in
    let corners : c.deref-2.result.now ≡ label_corners g.C.Cell.KIND g.row.D c.args.label = c.deref-2.ensures.value ∙ c.in_ok-corners.ensures in (
      row_fits g.row.D g.met.C.Cell.is_dimension,
      (
        subst (λ (n : ℕ). All (λ e. e < n) c.deref.result.now) (sym g.met.C.Cell.edges)
            (subst (All (λ e. e < edge_count g.C.Cell.KIND g.row.D)) (sym edges) (edges_below g.C.Cell.KIND g.row.D c.args.label)),
        subst (λ (n : ℕ). All (λ k. k < n) c.deref-2.result.now) (sym g.met.C.Cell.corners)
            (subst (All (λ k. k < corner_count g.C.Cell.KIND g.row.D)) (sym corners) (corners_below g.C.Cell.KIND g.row.D c.args.label)),
      ),
    )

pub facets-requires : goal.facets-requires
facets-requires g c =
    let edges : c.deref.result.now ≡ label_edges g.C.Cell.KIND g.row.D c.args.label = c.deref.ensures.value ∙ c.in_ok-edges.ensures in
    let corners : c.deref-2.result.now ≡ label_corners g.C.Cell.KIND g.row.D c.args.label = c.deref-2.ensures.value ∙ c.in_ok-corners.ensures in
    let points : c.deref-3.result.now ≡ label_points g.C.Cell.KIND g.row.D c.args.label =
    c.deref-3.ensures.value ∙ c.in_ok-points.ensures
    ∙ ap
    (λ (es : List ℕ).
    map (λ e. map pos (edge_midpoint g.C.Cell.KIND g.row.D e)) es
    ++ map (λ k. map (λ x. pos (2 * x)) (corner_point g.C.Cell.KIND g.row.D k)) c.deref-2.result.now)
    edges
    ∙ ap
    (λ (ks : List ℕ).
    map (λ e. map pos (edge_midpoint g.C.Cell.KIND g.row.D e)) (label_edges g.C.Cell.KIND g.row.D c.args.label)
    ++ map (λ k. map (λ x. pos (2 * x)) (corner_point g.C.Cell.KIND g.row.D k)) ks)
    corners in
    let number : length c.deref-3.result.now ≤ 48 =
    omega (
      arith,
      ap length points,
      points_length g.C.Cell.KIND g.row.D c.args.label,
      few_points g.C.Cell.KIND g.row.D c.args.label
          g.met.C.Cell.has_dimension,
    ) in (
      row_fits g.row.D g.met.C.Cell.is_dimension,
      (
        omega (arith, g.met.C.Cell.is_dimension),
        (
          omega (arith, g.met.C.Cell.is_dimension),
          (
            number,
            subst (λ (ps : List (List ℤ)). All (λ p. AreSmall 32 p) ps) (sym points)
                (points_small g.C.Cell.KIND g.row.D c.args.label g.met.C.Cell.is_dimension g.met.C.Cell.has_dimension),
          ),
        ),
      ),
    )

pub returns : goal.returns
returns g c =
    let edges : c.deref.result.now ≡ label_edges g.C.Cell.KIND g.row.D c.args.label = c.deref.ensures.value ∙ c.in_ok-edges.ensures in
    let corners : c.deref-2.result.now ≡ label_corners g.C.Cell.KIND g.row.D c.args.label = c.deref-2.ensures.value ∙ c.in_ok-corners.ensures in
    let points : c.deref-3.result.now ≡ label_points g.C.Cell.KIND g.row.D c.args.label =
    c.deref-3.ensures.value ∙ c.in_ok-points.ensures
    ∙ ap
    (λ (es : List ℕ).
    map (λ e. map pos (edge_midpoint g.C.Cell.KIND g.row.D e)) es
    ++ map (λ k. map (λ x. pos (2 * x)) (corner_point g.C.Cell.KIND g.row.D k)) c.deref-2.result.now)
    edges
    ∙ ap
    (λ (ks : List ℕ).
    map (λ e. map pos (edge_midpoint g.C.Cell.KIND g.row.D e)) (label_edges g.C.Cell.KIND g.row.D c.args.label)
    ++ map (λ k. map (λ x. pos (2 * x)) (corner_point g.C.Cell.KIND g.row.D k)) ks)
    corners in
    subst (λ (ps : List (List ℤ)). IfOk c.facets.result (λ facets. AreFacetNumbers g.row.D ps facets.items)) points c.facets.ensures

use Rattle.std.proofs.Common.{rules, ◌≡◌, ℕ, ◌^◌, ◌<◌, List, length, None, ℤ, w64, FitsSigned, to_z, of_z, arith, ◌∙◌, ap, sym, subst}
use Rattle.std.proofs.lemmas.Int.{to_z-of_z, fits_signed_from_abs}
use Rattle.iso_model.specs.Cells.{HasDimension, corner_count}
use Rattle.iso_model.specs.Splits.{cells_per_cube, corner}
use Rattle.iso_model.specs.Values.{HasValue, volume, positive_at, is_positive, value_at}
use Rattle.iso_model.specs.Dimensions.{IsDimension}
use Rattle.edge_vertex.proofs.LabelSums.{next_label, whole_label}
use Rattle.edge_vertex.proofs.Corners.{corner_value}
use Rattle.lists.proofs.Powers.{powers_below, powers_few}
use Rattle.iso_model.proofs.CellCounts.{few_corners}
use Rattle.edge_vertex.proofs.labels.label_of.Goals as goal

pub value_at-value-requires : goal.value_at-value-requires
value_at-value-requires g c =
    let long : length c.args.complex.now ≡ g.row.D = c.know_axes.ensures in
    let is : IsDimension (length c.args.complex.now) = subst IsDimension (sym long) g.met.C.Cell.is_dimension in
    let has : HasDimension g.C.Cell.KIND (length c.args.complex.now) = subst (HasDimension g.C.Cell.KIND) (sym long) g.met.C.Cell.has_dimension in
    let ranks : 0 < cells_per_cube g.C.Cell.KIND g.row.D = subst (λ (n : ℕ). 0 < n) g.met.C.Split.counted (omega (arith, g.met.C.Split.few_ranks.0)) in
    let some : 0 < cells_per_cube g.C.Cell.KIND (length c.args.complex.now) = subst (λ (n : ℕ). 0 < cells_per_cube g.C.Cell.KIND n) (sym long) ranks in
    let below : c.loop-corner.corner < corner_count g.C.Cell.KIND g.row.D =
    omega (arith, c.loop-corner-test.true, c.CORNERS-corner-end.ensures, g.met.C.Cell.corners) in
    let hk : c.loop-corner.corner < corner_count g.C.Cell.KIND (length c.args.complex.now) =
    subst (λ (n : ℕ). c.loop-corner.corner < corner_count g.C.Cell.KIND n) (sym long) below in
    let at : HasValue c.args.complex.now (corner g.C.Cell.KIND c.args.complex.now c.args.cell c.loop-corner.corner) =
    corner_value g.C.Cell.KIND c.args.complex.now c.args.cell c.loop-corner.corner is has c.requires.cell some hk in
    let there : HasValue c.args.complex.now c.corner-point.result = subst (HasValue c.args.complex.now) (sym c.corner-point.ensures) at in
    let valued : HasValue c.args.grid.now.sizes c.corner-point.result =
    subst (λ (sizes : List ℕ). HasValue sizes c.corner-point.result) c.requires.sizes there in
    let axes : length c.args.grid.now.sizes ≡ g.row.D = ap length (sym c.requires.sizes) ∙ long in
    search (rules, valued, axes, c.requires.regular)

pub with_corner-label-requires-clause-corner : goal.with_corner-label-requires-clause-corner
with_corner-label-requires-clause-corner g c =
    omega (
      arith,
      c.loop-corner-test.true,
      c.CORNERS-corner-end.ensures,
      g.met.C.Cell.corners,
      few_corners g.C.Cell.KIND g.row.D g.met.C.Cell.is_dimension g.met.C.Cell.has_dimension,
    )

pub with_corner-label-requires-clause-below : goal.with_corner-label-requires-clause-below
with_corner-label-requires-clause-below g c =
    rw c.loop-corner.invariant
    (powers_few
    (λ k.
    positive_at (volume g.C.Cell.KIND c.args.grid.now (to_z w64 (of_z w64 c.args.iso)) None)
    (corner g.C.Cell.KIND c.args.grid.now.sizes c.args.cell k))
    c.loop-corner.corner)

pub loop-corner-preserved : goal.loop-corner-preserved
loop-corner-preserved g c =
    let iso : to_z w64 (of_z w64 c.args.iso) ≡ c.args.iso = to_z-of_z w64 c.args.iso c.ranges.iso in
    let fits : FitsSigned w64 c.value_at-value.result = fits_signed_from_abs w64 c.value_at-value.result (omega (arith, c.value_at-value.ensures.small)) in
    let value : to_z w64 (of_z w64 c.value_at-value.result) ≡ c.value_at-value.result = to_z-of_z w64 c.value_at-value.result fits in
    let read : c.positive.result ≡ is_positive (to_z w64 (of_z w64 c.args.iso)) c.value_at-value.result =
    c.positive.ensures ∙ ap (is_positive (to_z w64 (of_z w64 c.args.iso))) value in
    let point : c.corner-point.result ≡ corner g.C.Cell.KIND c.args.grid.now.sizes c.args.cell c.loop-corner.corner =
    c.corner-point.ensures ∙ ap (λ (sizes : List ℕ). corner g.C.Cell.KIND sizes c.args.cell c.loop-corner.corner) c.requires.sizes in
    let valued : c.value_at-value.result
    ≡ value_at c.args.grid.now.sizes c.args.grid.now.samples (corner g.C.Cell.KIND c.args.grid.now.sizes c.args.cell c.loop-corner.corner) =
    c.value_at-value.ensures.value ∙ ap (value_at c.args.grid.now.sizes c.args.grid.now.samples) point in
    next_label
    (λ k.
    positive_at (volume g.C.Cell.KIND c.args.grid.now (to_z w64 (of_z w64 c.args.iso)) None)
    (corner g.C.Cell.KIND c.args.grid.now.sizes c.args.cell k))
    c.loop-corner.corner c.loop-corner.label c.with_corner-label.result c.positive.result
    c.loop-corner.invariant (read ∙ ap (is_positive (to_z w64 (of_z w64 c.args.iso))) valued) c.with_corner-label.ensures

pub returns-clause-label : goal.returns-clause-label
returns-clause-label g c =
    let iso : to_z w64 (of_z w64 c.args.iso) ≡ c.args.iso = to_z-of_z w64 c.args.iso c.ranges.iso in
    let axes : length c.args.grid.now.sizes ≡ g.row.D = ap length (sym c.requires.sizes) ∙ c.know_axes.ensures in
    let all : c.loop-corner.corner ≡ corner_count g.C.Cell.KIND g.row.D =
    omega (arith, c.loop-corner-test.false, c.loop-corner.auto.corner-end, c.CORNERS-corner-end.ensures, g.met.C.Cell.corners) in
    whole_label (volume g.C.Cell.KIND c.args.grid.now c.args.iso None) c.args.cell c.loop-corner.corner c.loop-corner.label
    (all ∙ ap (corner_count g.C.Cell.KIND) (sym axes))
    (subst
    (λ (z : ℤ).
    c.loop-corner.label
    ≡ powers_below
    (λ k. positive_at (volume g.C.Cell.KIND c.args.grid.now z None) (corner g.C.Cell.KIND c.args.grid.now.sizes c.args.cell k))
    c.loop-corner.corner)
    iso c.loop-corner.invariant)

pub returns-clause-few : goal.returns-clause-few
returns-clause-few g c =
    let all : c.loop-corner.corner ≡ g.C.Cell.CORNERS = omega (arith, c.loop-corner-test.false, c.loop-corner.auto.corner-end, c.CORNERS-corner-end.ensures) in
    subst (λ (n : ℕ). c.loop-corner.label < 2 ^ n) all
    (rw c.loop-corner.invariant
    (powers_few
    (λ k.
    positive_at (volume g.C.Cell.KIND c.args.grid.now (to_z w64 (of_z w64 c.args.iso)) None)
    (corner g.C.Cell.KIND c.args.grid.now.sizes c.args.cell k))
    c.loop-corner.corner))

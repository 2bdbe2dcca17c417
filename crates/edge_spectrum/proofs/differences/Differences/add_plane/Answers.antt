use Rattle.std.proofs.Common.{ap, arith, ◌∙◌, ◌+◌, ◌-◌, ◌/◌, ◌≡◌, ◌≤◌, ◌<◌, ℕ, ℤ, length}
use Rattle.std.specs.Prelude.{slice_index, if◌then◌else◌}
use Rattle.iso_model.specs.Values.{Grid}
use Rattle.grid_rows.specs.RowNumbers.{edge_rows}
use Rattle.edge_spectrum.specs.Counted.{apart, goes_along}
use Rattle.edge_spectrum.proofs.RowRoom.{few_samples, row_inside}
use Rattle.edge_spectrum.proofs.RowsThere.{first_cubes}
use Rattle.edge_spectrum.proofs.StepSums.{grows_both, grows_same}
use Rattle.edge_spectrum.proofs.Walked.{plane_done, row_more, rows_there}
use Rattle.edge_spectrum.proofs.differences.Differences.add_plane.Goals as goal

pub row_place-near-requires-clause-few : goal.row_place-near-requires-clause-few
row_place-near-requires-clause-few c =
    let w = c.requires.walked in
    let grid : Grid = c.args.grid.now in
    let below : c.args.step / 2 < slice_index grid.sizes (length grid.sizes - 1) = omega (arith, c.requires.inside) in
    omega (
      arith,
      row_inside c.args.kind grid c.args.rows.now c.edge_row-row.result.near (c.args.step / 2) w c.edge_row-row.ensures.near below,
      few_samples c.args.kind grid c.args.rows.now w,
    )

pub row_place-far-requires-clause-few : goal.row_place-far-requires-clause-few
row_place-far-requires-clause-few c =
    let w = c.requires.walked in
    let grid : Grid = c.args.grid.now in
    omega (
      arith,
      row_inside c.args.kind grid c.args.rows.now c.edge_row-row.result.far ((c.args.step + 1) / 2) w c.edge_row-row.ensures.far c.requires.inside,
      few_samples c.args.kind grid c.args.rows.now w,
    )

pub add_if-requires-clause-near : goal.add_if-requires-clause-near
add_if-requires-clause-near c =
    let w = c.requires.walked in
    let grid : Grid = c.args.grid.now in
    let same : c.as_slice.result.now ≡ grid.samples = c.as_slice.ensures.value ∙ ap (λ (g : Grid). g.samples) c.grid.view_is in
    let below : c.args.step / 2 < slice_index grid.sizes (length grid.sizes - 1) = omega (arith, c.requires.inside) in
    omega (
      arith,
      row_inside c.args.kind grid c.args.rows.now c.edge_row-row.result.near (c.args.step / 2) w c.edge_row-row.ensures.near below,
      c.row_place-near.ensures,
      ap length same,
    )

pub add_if-requires-clause-far : goal.add_if-requires-clause-far
add_if-requires-clause-far c =
    let w = c.requires.walked in
    let grid : Grid = c.args.grid.now in
    let same : c.as_slice.result.now ≡ grid.samples = c.as_slice.ensures.value ∙ ap (λ (g : Grid). g.samples) c.grid.view_is in
    omega (
      arith,
      row_inside c.args.kind grid c.args.rows.now c.edge_row-row.result.far ((c.args.step + 1) / 2) w c.edge_row-row.ensures.far c.requires.inside,
      c.row_place-far.ensures,
      ap length same,
    )

pub overflow_add-far : goal.overflow_add-far
overflow_add-far c =
    let w = c.requires.walked in
    let grid : Grid = c.args.grid.now in
    omega (
      arith,
      row_inside c.args.kind grid c.args.rows.now c.edge_row-row.result.far ((c.args.step + 1) / 2) w c.edge_row-row.ensures.far c.requires.inside,
      c.row_place-far.ensures,
      few_samples c.args.kind grid c.args.rows.now w,
    )

pub add_if-requires-in-loop-number-clause-near : goal.add_if-requires-in-loop-number-clause-near
add_if-requires-in-loop-number-clause-near c =
    let w = c.requires.walked in
    let grid : Grid = c.args.grid.now in
    let same : c.as_slice-in-loop-number.result.now ≡ grid.samples =
    c.as_slice-in-loop-number.ensures.value ∙ ap (λ (g : Grid). g.samples) c.grid.view_is in
    let below : c.args.step / 2 < slice_index grid.sizes (length grid.sizes - 1) = omega (arith, c.requires.inside) in
    omega (
      arith,
      row_inside c.args.kind grid c.args.rows.now c.edge_row-row.result.near (c.args.step / 2) w c.edge_row-row.ensures.near below,
      c.row_place-near.ensures,
      ap length same,
    )

pub add_if-requires-in-loop-number-clause-far : goal.add_if-requires-in-loop-number-clause-far
add_if-requires-in-loop-number-clause-far c =
    let w = c.requires.walked in
    let grid : Grid = c.args.grid.now in
    let same : c.as_slice-in-loop-number.result.now ≡ grid.samples =
    c.as_slice-in-loop-number.ensures.value ∙ ap (λ (g : Grid). g.samples) c.grid.view_is in
    let some : 2 ≤ c.args.rows.now.length = omega (arith, first_cubes grid.sizes (omega (arith, w.regular.two_axes)) w.cubes, w.first) in
    omega (
      arith,
      row_inside c.args.kind grid c.args.rows.now c.edge_row-row.result.far ((c.args.step + 1) / 2) w c.edge_row-row.ensures.far c.requires.inside,
      c.row_place-far.ensures,
      ap length same,
      some,
    )

pub loop-number-preserved : goal.loop-number-preserved
loop-number-preserved c =
    let grid : Grid = c.args.grid.now in
    let long : ℕ = c.args.rows.now.length in
    let near : ℕ = c.row_place-near.result in
    let far : ℕ = c.row_place-far.result in
    let one : c.as_slice.result.now ≡ grid.samples = c.as_slice.ensures.value ∙ ap (λ (g : Grid). g.samples) c.grid.view_is in
    let other : c.as_slice-in-loop-number.result.now ≡ grid.samples =
    c.as_slice-in-loop-number.ensures.value ∙ ap (λ (g : Grid). g.samples) c.grid.view_is in
    let inside : c.loop-number.number < edge_rows c.args.rows.now = omega (arith, c.loop-number-test.true, c.edge_rows-number-end.ensures) in
    let goes = c.goes_along.ensures ∙ ap (λ n. goes_along c.args.kind n) c.axes_of-axes.ensures.axes in
    let further = c.goes_along-in-loop-number.ensures ∙ ap (λ n. goes_along c.args.kind (n + 1)) c.axes_of-axes.ensures.axes in
    let before = rows_there c.args.kind grid c.args.step c.loop-number.number in
    let f = λ (iso : ℤ). before iso + (if c.goes_along.result then apart c.as_slice.result.now near far long iso else 0) in
    let g = λ (iso : ℤ). if c.goes_along-in-loop-number.result then apart c.as_slice-in-loop-number.result.now near (far + 1) (long - 1) iso else 0 in
    grows_same c.args.self.now c.add_if-in-loop-number.new.self (λ (iso : ℤ). f iso + g iso)
    (rows_there c.args.kind grid c.args.step (c.loop-number.number + 1))
    (λ (iso : ℤ).
    (λ k. before iso + (if c.goes_along.result then apart (one k) near far long iso else 0)
    + (if c.goes_along-in-loop-number.result then apart (other k) near (far + 1) (long - 1) iso else 0))
    ∙ row_more c.args.kind grid c.args.rows.now c.args.step c.loop-number.number c.requires.walked c.requires.inside inside c.edge_row-row.result
    c.edge_row-row.ensures.row c.goes_along.result c.goes_along-in-loop-number.result near far goes further c.row_place-near.ensures
    c.row_place-far.ensures iso)
    (grows_both c.args.self.now c.add_if.new.self c.add_if-in-loop-number.new.self f g
    (grows_both c.args.self.now c.loop-number.self c.add_if.new.self before
    (λ (iso : ℤ). if c.goes_along.result then apart c.as_slice.result.now near far long iso else 0) c.loop-number.invariant c.add_if.ensures)
    c.add_if-in-loop-number.ensures)

pub returns : goal.returns
returns c =
    let all : c.loop-number.number ≡ edge_rows c.args.rows.now =
    omega (arith, c.loop-number-test.false, c.edge_rows-number-end.ensures, c.loop-number.auto.number-end) in
    grows_same c.args.self.now c.loop-number.self (rows_there c.args.kind c.args.grid.now c.args.step c.loop-number.number) _
    (λ (iso : ℤ).
    ap (λ n. rows_there c.args.kind c.args.grid.now c.args.step n iso) all
    ∙ plane_done c.args.kind c.args.grid.now c.args.rows.now c.args.step c.requires.walked iso)
    c.loop-number.invariant

use Rattle.std.proofs.Common.{ap, arith, ◌∙◌, ◌+◌, ◌-◌, ◌*◌, ◌/◌, ◌≡◌, ◌≤◌, ◌<◌, ℕ, ℤ, length}
use Rattle.std.specs.Prelude.{slice_index}
use Rattle.iso_model.specs.declared.Kind.TheVariants.{Pyramid}
use Rattle.iso_model.specs.Values.{Grid}
use Rattle.grid_rows.specs.RowNumbers.{sample_rows}
use Rattle.edge_spectrum.specs.declared.cubes.Cubes.{Cubes}
use Rattle.edge_spectrum.specs.Counted.{apart_from}
use Rattle.edge_spectrum.proofs.RowRoom.{cubes_inside, few_samples, row_inside, rows_of_pyramids}
use Rattle.edge_spectrum.proofs.RowsThere.{first_cubes}
use Rattle.edge_spectrum.proofs.StepSums.{grows_both, grows_same}
use Rattle.edge_spectrum.proofs.Walked.{centre_more, centres_done, centres_there}
use Rattle.edge_spectrum.proofs.differences.Differences.add_centres.Goals as goal

pub row_place-requires-clause-few : goal.row_place-requires-clause-few
row_place-requires-clause-few c =
    let w = c.requires.walked in
    let rows = rows_of_pyramids c.args.grid.now c.args.rows.now w in
    let few : c.loop-number.number / 2 < sample_rows c.args.rows.now = omega (arith, c.loop-number-test.true, rows.0, rows.1) in
    let below : c.args.step / 2 < slice_index c.args.grid.now.sizes (length c.args.grid.now.sizes - 1) = omega (arith, c.requires.inside) in
    omega (
      arith,
      row_inside Pyramid c.args.grid.now c.args.rows.now (c.loop-number.number / 2) (c.args.step / 2) w few below,
      few_samples Pyramid c.args.grid.now c.args.rows.now w,
    )

pub row_place-corner-requires-clause-few : goal.row_place-corner-requires-clause-few
row_place-corner-requires-clause-few c =
    let w = c.requires.walked in
    let rows = rows_of_pyramids c.args.grid.now c.args.rows.now w in
    let few : (c.loop-number.number + 1) / 2 < sample_rows c.args.rows.now = omega (arith, c.loop-number-test.true, rows.0, rows.1) in
    let below : (c.args.step + 1) / 2 < slice_index c.args.grid.now.sizes (length c.args.grid.now.sizes - 1) = omega (arith, c.requires.inside) in
    omega (
      arith,
      row_inside Pyramid c.args.grid.now c.args.rows.now ((c.loop-number.number + 1) / 2) ((c.args.step + 1) / 2) w few below,
      few_samples Pyramid c.args.grid.now c.args.rows.now w,
    )

pub add_row_of_centres-requires-clause-cubes : goal.add_row_of_centres-requires-clause-cubes
add_row_of_centres-requires-clause-cubes c =
    let w = c.requires.walked in
    let rows = rows_of_pyramids c.args.grid.now c.args.rows.now w in
    let same : c.as_slice.result.now ≡ c.args.grid.now.samples = c.as_slice.ensures.value ∙ ap (λ (g : Grid). g.samples) c.grid.view_is in
    let few : c.loop-number.number / 2 + 1 < sample_rows c.args.rows.now = omega (arith, c.loop-number-test.true, rows.0, rows.1) in
    omega (
      arith,
      cubes_inside c.args.grid.now c.args.rows.now (c.loop-number.number / 2) (c.args.step / 2) w few c.requires.inside,
      c.row_place.ensures,
      ap (λ k. k * c.args.rows.now.length) c.sample_rows.ensures,
      ap length same,
    )

pub add_row_of_centres-requires-clause-corner : goal.add_row_of_centres-requires-clause-corner
add_row_of_centres-requires-clause-corner c =
    let w = c.requires.walked in
    let rows = rows_of_pyramids c.args.grid.now c.args.rows.now w in
    let same : c.as_slice.result.now ≡ c.args.grid.now.samples = c.as_slice.ensures.value ∙ ap (λ (g : Grid). g.samples) c.grid.view_is in
    let few : (c.loop-number.number + 1) / 2 < sample_rows c.args.rows.now = omega (arith, c.loop-number-test.true, rows.0, rows.1) in
    let below : (c.args.step + 1) / 2 < slice_index c.args.grid.now.sizes (length c.args.grid.now.sizes - 1) = omega (arith, c.requires.inside) in
    let some : 2 ≤ c.args.rows.now.length = omega (arith, first_cubes c.args.grid.now.sizes (omega (arith, w.regular.two_axes)) w.cubes, w.first) in
    omega (
      arith,
      row_inside Pyramid c.args.grid.now c.args.rows.now ((c.loop-number.number + 1) / 2) ((c.args.step + 1) / 2) w few below,
      c.row_place-corner.ensures,
      ap length same,
      some,
    )

pub loop-number-preserved : goal.loop-number-preserved
loop-number-preserved c =
    let grid : Grid = c.args.grid.now in
    let long : ℕ = c.args.rows.now.length in
    let corner : ℕ = c.row_place-corner.result in
    let cubes : Cubes = record { first = c.row_place.result; row = long; slice = c.sample_rows.result * long; count = long - 1 } in
    let same : c.as_slice.result.now ≡ grid.samples = c.as_slice.ensures.value ∙ ap (λ (g : Grid). g.samples) c.grid.view_is in
    let inside : c.loop-number.number < 2 * c.args.rows.now.second.cubes = omega (arith, c.loop-number-test.true) in
    let before = centres_there grid c.args.step c.loop-number.number in
    let f = λ (iso : ℤ). apart_from c.as_slice.result.now cubes corner (long - 1) iso + apart_from c.as_slice.result.now cubes (corner + 1) (long - 1) iso in
    grows_same c.args.self.now c.add_row_of_centres.new.self (λ (iso : ℤ). before iso + f iso) (centres_there grid c.args.step (c.loop-number.number + 1))
    (λ (iso : ℤ).
    (λ k. before iso + (apart_from (same k) cubes corner (long - 1) iso + apart_from (same k) cubes (corner + 1) (long - 1) iso))
    ∙ centre_more grid c.args.rows.now c.args.step c.loop-number.number c.requires.walked.fits c.requires.walked c.requires.inside inside cubes corner
    (λ k. record { first = c.row_place.ensures k; row = long; slice = c.sample_rows.ensures k * long; count = long - 1 }) c.row_place-corner.ensures iso)
    (grows_both c.args.self.now c.loop-number.self c.add_row_of_centres.new.self before f c.loop-number.invariant c.add_row_of_centres.ensures)

pub returns : goal.returns
returns c =
    let all : c.loop-number.number ≡ 2 * c.args.rows.now.second.cubes = omega (arith, c.loop-number-test.false, c.loop-number.auto.number-end) in
    grows_same c.args.self.now c.loop-number.self (centres_there c.args.grid.now c.args.step c.loop-number.number) _
    (λ (iso : ℤ).
    ap (λ n. centres_there c.args.grid.now c.args.step n iso) all ∙ centres_done c.args.grid.now c.args.rows.now c.args.step c.requires.walked iso)
    c.loop-number.invariant

use Rattle.std.proofs.Common.{rules, ap, arith, sym, subst, ◌∙◌, ◌≡◌, ◌++◌, ◌+◌, ◌*◌, ◌<◌, ◌≤◌, ◌^◌, ℕ, length, [], ◌∷◌}
use Rattle.std.specs.Prelude.{flat_map, map}
use Rattle.lists.specs.Orders.{numbers}
use Rattle.iso_model.specs.Crossing.{vertex_of}
use Rattle.edge_middles.specs.Middles.{edge_at}
use Rattle.edge_middles.specs.RowLists.{centre_row}
use Rattle.grid_rows.specs.RowNumbers.{cube_rows, sample_rows}
use Rattle.layer_scan.specs.PlanesOfCentres.{HasThreeAxes}
use Rattle.layer_mesh.specs.declared.rows.RowEnds.TheVariants.{Centres}
use Rattle.layer_mesh.specs.RowVertices.{AreSoundCentres, IsCrossedRow, row_vertices}
use Rattle.layer_mesh.proofs.PlacesOfWords.{one_number_more}
use Rattle.layer_mesh.proofs.PlanesToCentres.{all_rows, crossed_row, few_cubes, has_three, long_lower, long_upper, row_there, sound_row, three_axes}
use Rattle.layer_mesh.proofs.PlanesToCentres.{vertices_row}
use Rattle.layer_mesh.proofs.SlicesInGrids.{few_words}
use Rattle.layer_mesh.proofs.vertices.add_centre_vertices.Goals as goal

pub overflow_mul-number-end : goal.overflow_mul-number-end
overflow_mul-number-end g c =
    let few : cube_rows c.args.rows.now ≤ 2 ^ 27 = few_cubes c.requires.told.0 c.args.rows.now c.args.plane.now c.args.heights.now c.requires.told.1 in
    search (rules, few)

pub centre_ends-requires : goal.centre_ends-requires
centre_ends-requires g c =
    let v = c.requires.told.0 in
    let t = c.requires.told.1 in
    let few : c.loop-number.number < 2 * cube_rows c.args.rows.now = omega (arith, c.loop-number-test.true, c.cube_rows-number-end.ensures) in
    let axes : g.row.D ≡ 3 = three_axes v c.args.rows.now c.args.plane.now c.args.heights.now t in
    let three : HasThreeAxes c.args.rows.now = has_three v c.args.rows.now c.args.plane.now c.args.heights.now t in
    let lower : length c.args.heights.now.lower.now ≡ sample_rows c.args.rows.now * c.args.rows.now.length =
    long_lower v c.args.rows.now c.args.plane.now c.args.heights.now t in
    let upper : length c.args.heights.now.upper.now ≡ sample_rows c.args.rows.now * c.args.rows.now.length =
    long_upper v c.args.rows.now c.args.plane.now c.args.heights.now t in
    search (rules, few, axes, three, lower, upper)

pub row-requires : goal.row-requires
row-requires g c =
    let few : c.loop-number.number < 2 * cube_rows c.args.rows.now = omega (arith, c.loop-number-test.true, c.cube_rows-number-end.ensures) in
    row_there c.requires.told.0 c.args.rows.now c.args.plane.now c.args.heights.now c.requires.told.1 c.loop-number.number few

pub add_row-requires : goal.add_row-requires
add_row-requires g c =
    let v = c.requires.told.0 in
    let t = c.requires.told.1 in
    let few : c.loop-number.number < 2 * cube_rows c.args.rows.now = omega (arith, c.loop-number-test.true, c.cube_rows-number-end.ensures) in
    let is = c.centre_ends.ensures in
    let short : length c.row.result.now ≤ 2 ^ 40 =
    omega (arith, c.row.ensures.long, t.whole.0, few_words v c.args.rows.now c.args.heights.now.iso t.grid) in
    let sound : AreSoundCentres c.centre_ends.result =
    sound_row v c.args.rows.now c.args.plane.now c.args.heights.now t c.loop-number.number few c.centre_ends.result is.corners is.above is.slices is.near
    is.far is.row is.iso in
    let crossed : IsCrossedRow (Centres c.centre_ends.result) c.row.result.now =
    subst (λ r. IsCrossedRow (Centres c.centre_ends.result) r) (sym c.row.ensures.row)
    (crossed_row v c.args.rows.now c.args.plane.now c.args.heights.now t c.loop-number.number few c.centre_ends.result is.corners is.above is.slices
    is.near is.far is.row is.iso) in
    search (rules, short, sound, crossed)

pub loop-number-preserved : goal.loop-number-preserved
loop-number-preserved g c v t =
    let few : c.loop-number.number < 2 * cube_rows c.args.rows.now = omega (arith, c.loop-number-test.true, c.cube_rows-number-end.ensures) in
    let is = c.centre_ends.ensures in
    let h = λ (n : ℕ). map (λ m. vertex_of v (edge_at m)) (centre_row v ((2 * n + 1) ∷ c.args.heights.now.height ∷ [])) in
    let added : c.add_row.new.vertices.items ≡ c.loop-number.vertices.items ++ row_vertices (Centres c.centre_ends.result) c.row.result.now =
    search (rules, c.in_ok-add_row.ensures) in
    let row : row_vertices (Centres c.centre_ends.result) c.row.result.now ≡ h c.loop-number.number =
    ap (row_vertices (Centres c.centre_ends.result)) c.row.ensures.row
    ∙ vertices_row v c.args.rows.now c.args.plane.now c.args.heights.now t c.loop-number.number few c.centre_ends.result is.corners is.above is.slices
    is.near is.far is.row is.iso in
    added ∙ (λ i. c.loop-number.invariant v t i ++ row i) ∙ one_number_more h c.args.vertices.now.items c.loop-number.number

pub returns : goal.returns
returns g c =
    let end : c.loop-number.number ≡ 2 * cube_rows c.args.rows.now =
    omega (arith, c.loop-number-test.false, c.loop-number.auto.number-end, c.cube_rows-number-end.ensures) in record {
      vertices = λ v t.
          c.loop-number.invariant v t
          ∙ ap (λ k. c.args.vertices.now.items
          ++ flat_map (λ n. map (λ m. vertex_of v (edge_at m)) (centre_row v ((2 * n + 1) ∷ c.args.heights.now.height ∷ []))) (numbers k)) end
          ∙ ap (λ vs. c.args.vertices.now.items ++ vs) (all_rows v c.args.rows.now c.args.plane.now c.args.heights.now t);
    }

use Rattle.std.proofs.Common.{rules, ap, arith, sym, subst, ◌∙◌, ◌≡◌, ◌++◌, ◌+◌, ◌*◌, ◌/◌, ◌<◌, ◌≤◌, ◌^◌, ℕ, length}
use Rattle.std.specs.Prelude.{drop, flat_map, map}
use Rattle.lists.specs.Orders.{numbers}
use Rattle.iso_model.specs.Crossing.{vertex_of}
use Rattle.edge_middles.specs.Middles.{edge_at}
use Rattle.edge_middles.specs.RowLists.{row_at, sample_row}
use Rattle.grid_rows.specs.RowNumbers.{edge_rows, sample_rows}
use Rattle.layer_mesh.specs.RowVertices.{AreSoundSamples, IsCrossedRow, row_vertices}
use Rattle.layer_mesh.specs.declared.rows.RowEnds.TheVariants.{Samples}
use Rattle.layer_mesh.proofs.PlacesOfWords.{one_number_more}
use Rattle.layer_mesh.proofs.PlanesOfVertices.{all_rows, crossed_row, lower_below, row_there, sound_row, vertices_row}
use Rattle.layer_mesh.proofs.SlicesInGrids.{few_axes, few_words, long_slice}
use Rattle.layer_mesh.proofs.vertices.add_vertices.Goals as goal

pub sample_ends-requires : goal.sample_ends-requires
sample_ends-requires g c =
    let v = c.requires.told.0 in
    let t = c.requires.told.1 in
    let heights = c.args.heights.now in
    let few : c.loop-number.number < edge_rows c.args.rows.now = omega (arith, c.loop-number-test.true, c.edge_rows-number-end.ensures) in
    let axes : g.row.D ≤ 4 = (few_axes v c.args.rows.now heights.iso t.grid).1 in
    let lower : length heights.lower.now ≡ sample_rows c.args.rows.now * c.args.rows.now.length =
    long_slice v c.args.rows.now heights.iso t.grid heights.lower.now (heights.height / 4) t.lower
    (lower_below v c.args.rows.now c.args.plane.now heights t c.loop-number.number few) in
    let upper : length heights.upper.now ≡ sample_rows c.args.rows.now * c.args.rows.now.length =
    long_slice v c.args.rows.now heights.iso t.grid heights.upper.now ((heights.height + 2) / 4) t.upper t.inside in
    search (rules, few, axes, lower, upper)

pub row-requires : goal.row-requires
row-requires g c =
    let few : c.loop-number.number < edge_rows c.args.rows.now = omega (arith, c.loop-number-test.true, c.edge_rows-number-end.ensures) in
    row_there c.requires.told.0 c.args.rows.now c.args.plane.now c.args.heights.now c.requires.told.1 c.loop-number.number few

pub add_row-requires : goal.add_row-requires
add_row-requires g c =
    let v = c.requires.told.0 in
    let t = c.requires.told.1 in
    let few : c.loop-number.number < edge_rows c.args.rows.now = omega (arith, c.loop-number-test.true, c.edge_rows-number-end.ensures) in
    let is = c.sample_ends.ensures in
    let axes : g.row.D ≤ 4 = (few_axes v c.args.rows.now c.args.heights.now.iso t.grid).1 in
    let short : length c.row.result.now ≤ 2 ^ 40 =
    omega (arith, c.row.ensures.long, t.whole.0, few_words v c.args.rows.now c.args.heights.now.iso t.grid) in
    let sound : AreSoundSamples c.sample_ends.result =
    sound_row v c.args.rows.now c.args.plane.now c.args.heights.now t c.loop-number.number few c.sample_ends.result is.near is.far is.row is.iso in
    let crossed : IsCrossedRow (Samples c.sample_ends.result) c.row.result.now =
    subst (λ r. IsCrossedRow (Samples c.sample_ends.result) r) (sym c.row.ensures.row)
    (crossed_row v c.args.rows.now c.args.plane.now c.args.heights.now t c.loop-number.number few c.sample_ends.result is.near is.far is.row is.iso) in
    search (rules, axes, short, sound, crossed)

pub loop-number-preserved : goal.loop-number-preserved
loop-number-preserved g c v t =
    let few : c.loop-number.number < edge_rows c.args.rows.now = omega (arith, c.loop-number-test.true, c.edge_rows-number-end.ensures) in
    let is = c.sample_ends.ensures in
    let h = λ (n : ℕ). map (λ m. vertex_of v (edge_at m)) (sample_row v (row_at (drop 1 v.sizes) c.args.heights.now.height n)) in
    let added : c.add_row.new.vertices.items ≡ c.loop-number.vertices.items ++ row_vertices (Samples c.sample_ends.result) c.row.result.now =
    search (rules, c.in_ok-add_row.ensures) in
    let row : row_vertices (Samples c.sample_ends.result) c.row.result.now ≡ h c.loop-number.number =
    ap (row_vertices (Samples c.sample_ends.result)) c.row.ensures.row
    ∙ vertices_row v c.args.rows.now c.args.plane.now c.args.heights.now t c.loop-number.number few c.sample_ends.result is.near is.far is.row is.iso in
    added ∙ (λ i. c.loop-number.invariant v t i ++ row i) ∙ one_number_more h c.args.vertices.now.items c.loop-number.number

pub returns : goal.returns
returns g c =
    let end : c.loop-number.number ≡ edge_rows c.args.rows.now =
    omega (arith, c.loop-number-test.false, c.loop-number.auto.number-end, c.edge_rows-number-end.ensures) in record {
      vertices = λ v t.
          c.loop-number.invariant v t
          ∙ ap (λ k. c.args.vertices.now.items
          ++ flat_map (λ n. map (λ m. vertex_of v (edge_at m)) (sample_row v (row_at (drop 1 v.sizes) c.args.heights.now.height n))) (numbers k)) end
          ∙ ap (λ vs. c.args.vertices.now.items ++ vs) (all_rows v c.args.rows.now c.args.plane.now c.args.heights.now t);
    }

use Rattle.std.proofs.Common.{ap, arith, subst, sym, ◌∙◌}
use Rattle.std.specs.Prelude.{List, length, ℕ, ◌*◌, ◌^◌, ◌≡◌}
use Rattle.grid_rows.specs.declared.grids.GridRows.{GridRows}
use Rattle.grid_rows.specs.Planes.{edge_row}
use Rattle.grid_rows.specs.RowNumbers.{bordered_rows, edge_rows, sample_rows}
use Rattle.layer_scan.specs.declared.numbers.EdgeSigns.{EdgeSigns}
use Rattle.layer_scan.specs.PlanesOfEdges.{firsts, seconds}
use Rattle.layer_scan.specs.RowsOfEdges.{AreNumbered, first_edge, number_at, row_number, rows_of, second_edge}
use Rattle.layer_scan.proofs.EdgePlaneSteps.{edges_there, few_after, one_more_numbered, same_edges}
use Rattle.layer_scan.proofs.PlaneRowSteps.{row_there}
use Rattle.layer_scan.proofs.numbers.number_plane.Goals as goal

pub loop-number-init : goal.loop-number-init
loop-number-init c = record { shape = c.requires.plane; done = λ n lt. absurd (omega (arith, lt)); counted = omega arith }

pub new-cubes-requires : goal.new-cubes-requires
new-cubes-requires c = λ k d h.
    row_there (bordered_rows c.args.rows.now) c.args.rows.now.words c.args.signs.now.kept.now _ c.requires.kept (c.edge_row-row.ensures.cubes k d h)

pub row-near-requires : goal.row-near-requires
row-near-requires c =
    row_there (sample_rows c.args.rows.now) c.args.rows.now.words c.args.signs.now.near.now c.edge_row-row.result.near c.requires.near
    c.edge_row-row.ensures.near

pub row-far-requires : goal.row-far-requires
row-far-requires c =
    row_there (sample_rows c.args.rows.now) c.args.rows.now.words c.args.signs.now.far.now c.edge_row-row.result.far c.requires.far
    c.edge_row-row.ensures.far

pub row_mut-requires : goal.row_mut-requires
row_mut-requires c =
    edges_there (edge_rows c.args.rows.now) c.args.rows.now.words c.loop-number.plane c.loop-number.number c.loop-number.invariant.shape (omega arith)

pub number_row-count-requires-clause-few : goal.number_row-count-requires-clause-few
number_row-count-requires-clause-few c =
    let rows : GridRows = c.args.rows.now in
    let signs : EdgeSigns = c.args.signs.now in
    let n : ℕ = c.loop-number.number in
    let near : List ℕ = c.row-near.result.now in
    let far : List ℕ = c.row-far.result.now in
    let cubes : List (List ℕ) = rows_of c.new-cubes.result in
    let long : length c.row_mut.result.now ≡ rows.words = c.row_mut.ensures.long ∙ c.loop-number.invariant.shape.0 in
    let same = same_edges rows signs n c.edge_row-row.result c.new-directions.result.first c.new-directions.result.second near far cubes
    c.edge_row-row.ensures.row c.new-directions.ensures.first c.new-directions.ensures.second c.row-near.ensures.row c.row-far.ensures.row
    c.new-cubes.ensures.rows in
    few_after (firsts rows signs) (seconds rows signs) rows.words c.args.count n c.loop-number.count (length c.row_mut.result.now) (edge_rows rows) (2 ^ 32)
    (first_edge c.new-directions.result.first near far cubes) (second_edge c.new-directions.result.second near far cubes) same.0 same.1
    c.loop-number.invariant.counted long (omega arith) c.requires.few

pub loop-number-preserved : goal.loop-number-preserved
loop-number-preserved c =
    let rows : GridRows = c.args.rows.now in
    let signs : EdgeSigns = c.args.signs.now in
    let n : ℕ = c.loop-number.number in
    let near : List ℕ = c.row-near.result.now in
    let far : List ℕ = c.row-far.result.now in
    let cubes : List (List ℕ) = rows_of c.new-cubes.result in
    let first = first_edge c.new-directions.result.first near far cubes in
    let second = second_edge c.new-directions.result.second near far cubes in
    let long : length c.row_mut.result.now ≡ rows.words = c.row_mut.ensures.long ∙ c.loop-number.invariant.shape.0 in
    let same = same_edges rows signs n c.edge_row-row.result c.new-directions.result.first c.new-directions.result.second near far cubes
    c.edge_row-row.ensures.row c.new-directions.ensures.first c.new-directions.ensures.second c.row-near.ensures.row c.row-far.ensures.row
    c.new-cubes.ensures.rows in
    one_more_numbered (firsts rows signs) (seconds rows signs) (edge_rows rows) rows.words c.args.count n c.loop-number.count
    c.number_row-count.result c.loop-number.plane c.number_row-count.new.row first second c.loop-number.invariant (omega arith)
    (c.number_row-count.ensures.long ∙ c.row_mut.ensures.long) same.0 same.1 c.number_row-count.ensures.edges
    (c.number_row-count.ensures.next ∙ ap (λ m. number_at first second c.loop-number.count (64 * m)) long)

pub returns : goal.returns
returns c =
    let rows : GridRows = c.args.rows.now in
    let signs : EdgeSigns = c.args.signs.now in
    let all : c.loop-number.number ≡ edge_rows rows = omega arith in
    let shape = c.loop-number.invariant.shape in
    record {
      rows = shape;
      edges = λ n lt.
          let here = c.loop-number.invariant.done n (omega (arith, lt)) in
          subst (λ (w : ℕ). AreNumbered (firsts rows signs n) (seconds rows signs n)
          (row_number (firsts rows signs) (seconds rows signs) w c.args.count n) (edge_row c.loop-number.plane n)) (sym shape.0) here;
      next = c.loop-number.invariant.counted ∙ ap (row_number (firsts rows signs) (seconds rows signs) rows.words c.args.count) all;
    }

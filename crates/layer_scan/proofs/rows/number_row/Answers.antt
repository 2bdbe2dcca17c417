use Rattle.std.proofs.Common.{ap, arith, rules, ◌∙◌}
use Rattle.std.specs.Prelude.{List, count_ones, length, ℕ, ◌*◌, ◌+◌, ◌<◌, ◌^◌, ◌≡◌}
use Rattle.layer_scan.specs.RowsOfEdges.{first_edge, number_at, rows_of, second_edge}
use Rattle.layer_scan.proofs.EdgeWordSteps.{fits_after, one_more_edges}
use Rattle.layer_scan.proofs.rows.number_row.Goals as goal

pub overflow_add-count-in-loop-w : goal.overflow_add-count-in-loop-w
overflow_add-count-in-loop-w c =
    let near : List ℕ = c.args.near.now in
    let far : List ℕ = c.args.far.now in
    let first : ℕ = c.first_word-first.result in
    let second : ℕ = c.second_word-second.result in
    let h : first < 2 ^ 64 = search rules in
    let k : second < 2 ^ 64 = search rules in
    let small : c.loop-w.count + (count_ones first + count_ones second) < 2 ^ 32 =
    fits_after (first_edge c.args.directions.first near far (rows_of c.args.cubes.now))
    (second_edge c.args.directions.second near far (rows_of c.args.cubes.now))
    c.args.count c.loop-w.w (length c.args.row.now) c.loop-w.count first second (2 ^ 32) c.loop-w.invariant.counted (omega arith) h k
    c.first_word-first.ensures c.second_word-second.ensures c.requires.few in
    search rules

pub loop-w-preserved : goal.loop-w-preserved
loop-w-preserved c =
    let near : List ℕ = c.args.near.now in
    let far : List ℕ = c.args.far.now in
    let first : ℕ = c.first_word-first.result in
    let second : ℕ = c.second_word-second.result in
    let h : first < 2 ^ 64 = search rules in
    let k : second < 2 ^ 64 = search rules in
    one_more_edges (first_edge c.args.directions.first near far (rows_of c.args.cubes.now))
    (second_edge c.args.directions.second near far (rows_of c.args.cubes.now))
    c.args.count c.loop-w.w first second c.loop-w.count c.loop-w.row c.loop-w.invariant (omega arith) h k c.first_word-first.ensures
    c.second_word-second.ensures

pub returns-clause-edges : goal.returns-clause-edges
returns-clause-edges c = λ w lt. c.loop-w.invariant.done w (omega (arith, lt))

pub returns-clause-next : goal.returns-clause-next
returns-clause-next c =
    let all : c.loop-w.w ≡ length c.args.row.now = omega arith in
    let near : List ℕ = c.args.near.now in
    let far : List ℕ = c.args.far.now in
    c.loop-w.invariant.counted
    ∙ ap (λ n. number_at (first_edge c.args.directions.first near far (rows_of c.args.cubes.now))
    (second_edge c.args.directions.second near far (rows_of c.args.cubes.now))
    c.args.count (64 * n)) all

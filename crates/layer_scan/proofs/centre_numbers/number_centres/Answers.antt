use Rattle.std.proofs.Common.{ap, arith, rules, subst, sym, ◌∙◌}
use Rattle.std.specs.Prelude.{List, length, ℕ, ◌*◌, ◌+◌, ◌/◌, ◌<◌, ◌≤◌, ◌^◌, ◌≡◌}
use Rattle.grid_rows.specs.declared.grids.GridRows.{GridRows}
use Rattle.grid_rows.specs.declared.grids.MiddleAxis.{MiddleAxis}
use Rattle.grid_rows.specs.Planes.{bit_row, edge_row}
use Rattle.grid_rows.specs.RowNumbers.{bordered_rows, cube_rows, sample_rows, upper_half}
use Rattle.layer_scan.specs.declared.centre_numbers.CentreSigns.{CentreSigns}
use Rattle.layer_scan.specs.CubePlanes.{with_border}
use Rattle.layer_scan.specs.PlanesOfCentres.{HasThreeAxes, firsts_to, seconds_to}
use Rattle.layer_scan.specs.RowsOfEdges.{AreNumbered, first_to_corner, number_at, row_number, second_to_corner}
use Rattle.layer_scan.proofs.EdgePlaneSteps.{edges_there, few_after, one_more_numbered}
use Rattle.layer_scan.proofs.PlaneRowSteps.{row_there}
use Rattle.layer_scan.proofs.centre_numbers.number_centres.Goals as goal

-- in three dimensions there is one row of cubes fewer than there are rows of samples
one_row_fewer : (rows : GridRows) → HasThreeAxes rows → (cube_rows rows ≡ rows.second.cubes) × (sample_rows rows ≡ rows.second.samples)
one_row_fewer rows three =
    let cubes : rows.second.cubes * 1 ≡ rows.second.cubes = omega arith in
    let samples : rows.second.samples * 1 ≡ rows.second.samples = omega arith in (
      ap (λ (a : MiddleAxis). rows.second.cubes * a.cubes) three.1 ∙ cubes,
      ap (λ (a : MiddleAxis). rows.second.samples * a.samples) three.1 ∙ samples,
    )

few_cubes : (rows : GridRows) → HasThreeAxes rows → cube_rows rows ≤ 2 ^ 27
few_cubes rows three =
    let fewer = one_row_fewer rows three in
    let axis = rows.few.0 in
    let most : rows.second.cubes ≤ 2 ^ 27 = omega (arith, axis.1, axis.2) in
    subst (λ (n : ℕ). n ≤ 2 ^ 27) (sym fewer.0) most

corner_there : (rows : GridRows) (n : ℕ) → HasThreeAxes rows → n < 2 * cube_rows rows → (n + 1) / 2 < sample_rows rows
corner_there rows n three h =
    let fewer = one_row_fewer rows three in
    let axis = rows.few.0 in
    let below : n < 2 * rows.second.cubes = subst (λ (m : ℕ). n < 2 * m) fewer.0 h in
    let last : rows.second.cubes + 1 ≡ rows.second.samples = ap (λ s. rows.second.cubes + s) (sym three.0) ∙ axis.2 in
    subst (λ (m : ℕ). (n + 1) / 2 < m) (sym fewer.1) (omega (arith, below, last))

same_to : (rows : GridRows) (signs : CentreSigns) (n cubes : ℕ) (centres corners kept : List ℕ) → cubes ≡ with_border rows (n / 2)
    → centres ≡ bit_row signs.centres.now cubes → corners ≡ bit_row signs.corners.now (upper_half n) → kept ≡ bit_row signs.kept.now cubes
    → (first_to_corner centres corners kept ≡ firsts_to rows signs n) × (second_to_corner centres corners kept ≡ seconds_to rows signs n)
same_to rows signs n cubes centres corners kept at one two three =
    let c : ℕ = with_border rows (n / 2) in
    let row : List ℕ = bit_row signs.corners.now (upper_half n) in
    let first : centres ≡ bit_row signs.centres.now c = one ∙ ap (bit_row signs.centres.now) at in
    let last : kept ≡ bit_row signs.kept.now c = three ∙ ap (bit_row signs.kept.now) at in (
      ap (λ r. first_to_corner r corners kept) first ∙ ap (λ r. first_to_corner (bit_row signs.centres.now c) r kept) two
          ∙ ap (λ r. first_to_corner (bit_row signs.centres.now c) row r) last,
      ap (λ r. second_to_corner r corners kept) first ∙ ap (λ r. second_to_corner (bit_row signs.centres.now c) r kept) two
          ∙ ap (λ r. second_to_corner (bit_row signs.centres.now c) row r) last,
    )

pub overflow_mul-number-end : goal.overflow_mul-number-end
overflow_mul-number-end c = let few = few_cubes c.args.rows.now c.requires.three in search rules

pub loop-number-init : goal.loop-number-init
loop-number-init c = record { shape = c.requires.plane; done = λ n lt. absurd (omega (arith, lt)); counted = omega arith }

pub cube_row-cubes-requires : goal.cube_row-cubes-requires
cube_row-cubes-requires c = omega arith

pub row-centres-requires : goal.row-centres-requires
row-centres-requires c =
    row_there (bordered_rows c.args.rows.now) c.args.rows.now.words c.args.signs.now.centres.now c.cube_row-cubes.result.number c.requires.centres
    c.cube_row-cubes.ensures.number

pub row-kept-requires : goal.row-kept-requires
row-kept-requires c =
    row_there (bordered_rows c.args.rows.now) c.args.rows.now.words c.args.signs.now.kept.now c.cube_row-cubes.result.number c.requires.kept
    c.cube_row-cubes.ensures.number

pub row-corners-requires : goal.row-corners-requires
row-corners-requires c =
    let n : ℕ = c.loop-number.number in
    let within : n < 2 * cube_rows c.args.rows.now = omega arith in
    row_there (sample_rows c.args.rows.now) c.args.rows.now.words c.args.signs.now.corners.now ((n + 1) / 2) c.requires.corners
    (corner_there c.args.rows.now n c.requires.three within)

pub row_mut-requires : goal.row_mut-requires
row_mut-requires c =
    edges_there (2 * cube_rows c.args.rows.now) c.args.rows.now.words c.loop-number.plane c.loop-number.number c.loop-number.invariant.shape (omega arith)

pub number_centre_row-count-requires-clause-few : goal.number_centre_row-count-requires-clause-few
number_centre_row-count-requires-clause-few c =
    let rows : GridRows = c.args.rows.now in
    let signs : CentreSigns = c.args.signs.now in
    let n : ℕ = c.loop-number.number in
    let centres : List ℕ = c.row-centres.result.now in
    let corners : List ℕ = c.row-corners.result.now in
    let kept : List ℕ = c.row-kept.result.now in
    let long : length c.row_mut.result.now ≡ rows.words = c.row_mut.ensures.long ∙ c.loop-number.invariant.shape.0 in
    let same = same_to rows signs n c.cube_row-cubes.result.number centres corners kept c.cube_row-cubes.ensures.row.0 c.row-centres.ensures.row
    c.row-corners.ensures.row c.row-kept.ensures.row in
    few_after (firsts_to rows signs) (seconds_to rows signs) rows.words c.args.count n c.loop-number.count (length c.row_mut.result.now)
    (2 * cube_rows rows) (2 ^ 32) (first_to_corner centres corners kept) (second_to_corner centres corners kept) same.0 same.1
    c.loop-number.invariant.counted long (omega arith) c.requires.few

pub loop-number-preserved : goal.loop-number-preserved
loop-number-preserved c =
    let rows : GridRows = c.args.rows.now in
    let signs : CentreSigns = c.args.signs.now in
    let n : ℕ = c.loop-number.number in
    let centres : List ℕ = c.row-centres.result.now in
    let corners : List ℕ = c.row-corners.result.now in
    let kept : List ℕ = c.row-kept.result.now in
    let first = first_to_corner centres corners kept in
    let second = second_to_corner centres corners kept in
    let long : length c.row_mut.result.now ≡ rows.words = c.row_mut.ensures.long ∙ c.loop-number.invariant.shape.0 in
    let same = same_to rows signs n c.cube_row-cubes.result.number centres corners kept c.cube_row-cubes.ensures.row.0 c.row-centres.ensures.row
    c.row-corners.ensures.row c.row-kept.ensures.row in
    one_more_numbered (firsts_to rows signs) (seconds_to rows signs) (2 * cube_rows rows) rows.words c.args.count n c.loop-number.count
    c.number_centre_row-count.result c.loop-number.plane c.number_centre_row-count.new.row first second c.loop-number.invariant (omega arith)
    (c.number_centre_row-count.ensures.long ∙ c.row_mut.ensures.long) same.0 same.1 c.number_centre_row-count.ensures.edges
    (c.number_centre_row-count.ensures.next ∙ ap (λ m. number_at first second c.loop-number.count (64 * m)) long)

pub returns : goal.returns
returns c =
    let rows : GridRows = c.args.rows.now in
    let signs : CentreSigns = c.args.signs.now in
    let all : c.loop-number.number ≡ 2 * cube_rows rows = omega arith in
    let shape = c.loop-number.invariant.shape in
    record {
      rows = shape;
      edges = λ n lt.
          let here = c.loop-number.invariant.done n (omega (arith, lt)) in
          subst (λ (w : ℕ). AreNumbered (firsts_to rows signs n) (seconds_to rows signs n)
          (row_number (firsts_to rows signs) (seconds_to rows signs) w c.args.count n) (edge_row c.loop-number.plane n)) (sym shape.0) here;
      next = c.loop-number.invariant.counted ∙ ap (row_number (firsts_to rows signs) (seconds_to rows signs) rows.words c.args.count) all;
    }

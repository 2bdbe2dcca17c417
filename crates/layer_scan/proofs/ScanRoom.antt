-- How many words the planes of a scan have.
use Rattle.std.proofs.Common.{arith}
use Rattle.std.proofs.Math.Nat.{mul-le-mul, mul-le-mul_left, mul-le-mul_right}
use Rattle.std.specs.Prelude.{ℕ, ◌*◌, ◌+◌, ◌<◌, ◌≤◌, ◌^◌}
use Rattle.grid_rows.specs.declared.grids.GridRows.{GridRows}
use Rattle.grid_rows.specs.MiddleAxes.{edge_span}
use Rattle.grid_rows.specs.RowNumbers.{bordered_rows, cube_rows, edge_rows, sample_rows}
use Rattle.layer_scan.specs.ScanPlanes.{HasFewSamples}

-- so many rows for each row of samples have few words
pub few_words : (rows : GridRows) (n k : ℕ) → HasFewSamples rows → n ≤ k * sample_rows rows → n * rows.words ≤ k * 2 ^ 27
few_words rows n k few h =
    let fewer : rows.words ≤ rows.length = omega (arith, few.words, few.some) in
    let one : n * rows.words ≤ n * rows.length = mul-le-mul_left n fewer in
    let two : n * rows.length ≤ k * sample_rows rows * rows.length = mul-le-mul_right rows.length h in
    let three : k * (rows.length * sample_rows rows) ≤ k * 2 ^ 27 = mul-le-mul_left k few.few in
    omega (arith, one, two, three)

pub few_in_border : (rows : GridRows) → bordered_rows rows ≤ 9 * sample_rows rows
few_in_border rows =
    let second : rows.second.cubes + 2 ≤ 3 * rows.second.samples = omega (arith, rows.few.0.0, rows.few.0.2) in
    let third : rows.third.cubes + 2 ≤ 3 * rows.third.samples = omega (arith, rows.few.1.0, rows.few.1.2) in
    let both = mul-le-mul second third in
    omega (arith, both)

pub sample_words : (rows : GridRows) → HasFewSamples rows → sample_rows rows * rows.words < 2 ^ 40
sample_words rows few = let words = few_words rows (sample_rows rows) 1 few (omega arith) in omega (arith, words)

pub border_words : (rows : GridRows) → HasFewSamples rows → bordered_rows rows * rows.words < 2 ^ 40
border_words rows few = let words = few_words rows (bordered_rows rows) 9 few (few_in_border rows) in omega (arith, words)

pub few_row_words : (rows : GridRows) → HasFewSamples rows → rows.words ≤ 2 ^ 40
few_row_words rows few =
    let some : 1 ≤ sample_rows rows = mul-le-mul rows.few.0.0 rows.few.1.0 in
    let fewer : rows.length * 1 ≤ rows.length * sample_rows rows = mul-le-mul_left rows.length some in
    omega (arith, few.words, few.few, fewer)

pub few_edge_rows : (rows : GridRows) → edge_rows rows ≤ 4 * sample_rows rows
few_edge_rows rows =
    let second : edge_span rows.second ≤ 2 * rows.second.samples = omega arith in
    let third : edge_span rows.third ≤ 2 * rows.third.samples = omega arith in
    omega (arith, mul-le-mul second third)

pub edge_words : (rows : GridRows) → HasFewSamples rows → edge_rows rows * rows.words < 2 ^ 40
edge_words rows few = let words = few_words rows (edge_rows rows) 4 few (few_edge_rows rows) in omega (arith, words)

pub cube_words : (rows : GridRows) → HasFewSamples rows → 2 * cube_rows rows * rows.words < 2 ^ 40
cube_words rows few =
    let second : rows.second.cubes ≤ rows.second.samples = omega (arith, rows.few.0.2) in
    let third : rows.third.cubes ≤ rows.third.samples = omega (arith, rows.few.1.2) in
    let fewer : cube_rows rows ≤ sample_rows rows = mul-le-mul second third in
    let words = few_words rows (2 * cube_rows rows) 2 few (omega (arith, fewer)) in
    omega (arith, words)

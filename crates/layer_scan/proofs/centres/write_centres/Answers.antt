use Rattle.std.proofs.Common.{ap, arith, refl, sym, ◌∙◌, ℤ, w64, to_z, of_z}
use Rattle.std.proofs.lemmas.Int.{to_z-of_z}
use Rattle.std.proofs.lemmas.Nat.{row_fits}
use Rattle.std.specs.Prelude.{List, length, slice_index, ℕ, ◌&&◌, ◌*◌, ◌+◌, ◌<◌, ◌≤◌, ◌≡◌}
use Rattle.bit_rows.specs.Rows.{IsRowOf, row_bit}
use Rattle.grid_rows.specs.declared.grids.GridRows.{GridRows}
use Rattle.grid_rows.specs.declared.planes.BitPlane.{BitPlane}
use Rattle.grid_rows.specs.Planes.{bit_row}
use Rattle.grid_rows.specs.RowNumbers.{bordered_rows, sample_rows}
use Rattle.layer_scan.specs.Centres.{centre_at, is_centre_above}
use Rattle.layer_scan.specs.CubePlanes.{with_border}
use Rattle.layer_scan.proofs.PlaneRowSteps.{one_more_row, row_there}
use Rattle.layer_scan.proofs.centres.write_centres.Goals as goal

pub loop-number-init : goal.loop-number-init
loop-number-init c = record { shape = c.requires.centres; cubes = λ n lt. absurd (omega (arith, lt)); border = λ m b none. refl }

pub row_mut-requires : goal.row_mut-requires
row_mut-requires c =
    row_there (bordered_rows c.args.rows.now) c.args.rows.now.words c.loop-number.centres c.cube_row-place.result.number c.loop-number.invariant.shape
    c.cube_row-place.ensures.number

pub row-requires : goal.row-requires
row-requires c =
    row_there (bordered_rows c.args.rows.now) c.args.rows.now.words c.args.kept.now c.cube_row-place.result.number c.requires.kept
    c.cube_row-place.ensures.number

place_inside : (corner x n rows total : ℕ) → corner < rows → x + 1 < n → total ≡ rows * n → corner * n + x + 1 < total
place_inside corner x n rows total h within all =
    let fits : corner * n + n ≤ rows * n = row_fits corner n rows n h (omega arith) in
    omega (arith, within, all, fits)

pub write_centre_row-requires-clause-inside : goal.write_centre_row-requires-clause-inside
write_centre_row-requires-clause-inside c = λ x t.
    let rows : GridRows = c.args.rows.now in
    let corners : List ℕ = c.cube_row-place.result.corners in
    let at = c.cube_row-place.ensures.row in
    let long : length corners ≡ 4 = ap (length {A = ℕ}) at.1 in
    let own = sym (ap (λ (r : List ℕ). row_bit r x) c.row.ensures.row ∙ ap (λ (m : ℕ). row_bit (bit_row c.args.kept.now m) x) at.0) ∙ t in
    let within : x + 1 < rows.length = c.requires.inside c.loop-number.number x (omega arith) own in
    let near = c.cube_row-place.ensures.corners 0 0 (omega (arith, long)) in
    let far = c.cube_row-place.ensures.corners 1 0 (omega (arith, long)) in (
      place_inside (slice_index corners 0) x rows.length (sample_rows rows) (length c.args.lower.now) near within c.requires.lower,
      place_inside (slice_index corners 1) x rows.length (sample_rows rows) (length c.args.lower.now) far within c.requires.lower,
    )

pub loop-number-preserved : goal.loop-number-preserved
loop-number-preserved c =
    let rows : GridRows = c.args.rows.now in
    let kept : BitPlane = c.args.kept.now in
    let iso : ℤ = to_z w64 (of_z w64 c.args.iso) in
    let lower : List ℤ = c.args.lower.now in
    let upper : List ℤ = c.args.upper.now in
    let words : List ℕ = c.write_centre_row.new.centres in
    let passes = centre_at rows kept iso lower upper in
    let long : length words ≡ c.loop-number.centres.words = c.write_centre_row.ensures.long ∙ c.row_mut.ensures.long in
    let corners : List ℕ = c.cube_row-place.result.corners in
    let at = c.cube_row-place.ensures.row in
    let place : ℕ = with_border rows c.loop-number.number in
    let is : IsRowOf (passes c.loop-number.number) words = λ x.
    let above = λ (ns : List ℕ). is_centre_above iso lower upper (slice_index ns 0 * rows.length + x) (slice_index ns 1 * rows.length + x) in
    c.write_centre_row.ensures.bits x ∙ ap (λ (r : List ℕ). row_bit r x && above corners) c.row.ensures.row
    ∙ ap (λ (m : ℕ). row_bit (bit_row kept m) x && above corners) at.0 ∙ ap (λ (ns : List ℕ). row_bit (bit_row kept place) x && above ns) at.1 in
    one_more_row rows passes c.loop-number.number c.cube_row-place.result.number c.args.centres.now c.loop-number.centres words
    c.loop-number.invariant (omega arith) at.0 long is

pub returns : goal.returns
returns c =
    let same : to_z w64 (of_z w64 c.args.iso) ≡ c.args.iso = to_z-of_z w64 c.args.iso c.ranges.iso in
    record {
      rows = c.loop-number.invariant.shape;
      cubes = λ k lt x. c.loop-number.invariant.cubes k (omega (arith, lt)) x
          ∙ ap (λ (z : ℤ). centre_at c.args.rows.now c.args.kept.now z c.args.lower.now c.args.upper.now k x) same;
      border = c.loop-number.invariant.border;
    }

use Rattle.std.proofs.Common.{ap, arith, refl, ◌∙◌}
use Rattle.std.specs.Prelude.{List, length, ℕ, ◌≡◌}
use Rattle.bit_rows.specs.Rows.{IsRowOf}
use Rattle.grid_rows.specs.RowNumbers.{bordered_rows, sample_rows}
use Rattle.layer_scan.specs.Corners.{every_corner}
use Rattle.layer_scan.specs.CubePlanes.{every_at}
use Rattle.layer_scan.proofs.PlaneRowSteps.{have_corners, one_more_row, row_there}
use Rattle.layer_scan.proofs.kept.write_kept.Goals as goal

pub loop-number-init : goal.loop-number-init
loop-number-init c = record { shape = c.requires.kept; cubes = λ n lt. absurd (omega (arith, lt)); border = λ m b none. refl }

pub row_mut-requires : goal.row_mut-requires
row_mut-requires c =
    row_there (bordered_rows c.args.rows.now) c.args.rows.now.words c.loop-number.kept c.cube_row-row.result.number c.loop-number.invariant.shape
    c.cube_row-row.ensures.number

pub write_kept_row-requires-clause-corners : goal.write_kept_row-requires-clause-corners
write_kept_row-requires-clause-corners c =
    have_corners (sample_rows c.args.rows.now) c.args.rows.now.words c.args.lower.now c.args.upper.now c.cube_row-row.result.corners
    c.requires.lower c.requires.upper c.cube_row-row.ensures.corners (ap (length {A = ℕ}) (c.cube_row-row.ensures.row.1))

pub loop-number-preserved : goal.loop-number-preserved
loop-number-preserved c =
    let words : List ℕ = c.write_kept_row.new.kept in
    let passes = every_at c.args.lower.now c.args.upper.now c.args.rows.now in
    let long : length words ≡ c.loop-number.kept.words = c.write_kept_row.ensures.long ∙ c.row_mut.ensures.long in
    let at = c.cube_row-row.ensures.row in
    let is : IsRowOf (passes c.loop-number.number) words =
    λ x. c.write_kept_row.ensures.bits x ∙ ap (λ (ns : List ℕ). every_corner c.args.lower.now c.args.upper.now ns x) at.1 in
    one_more_row c.args.rows.now passes c.loop-number.number c.cube_row-row.result.number c.args.kept.now c.loop-number.kept words
    c.loop-number.invariant (omega arith) at.0 long is

pub returns : goal.returns
returns c = record {
  rows = c.loop-number.invariant.shape;
  cubes = λ k lt. c.loop-number.invariant.cubes k (omega (arith, lt));
  border = c.loop-number.invariant.border;
}

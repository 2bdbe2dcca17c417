use Rattle.std.proofs.Common.{arith, refl, rules, ◌∙◌}
use Rattle.std.specs.Prelude.{List, length, ℕ, ◌*◌, ◌-◌, ◌≡◌}
use Rattle.grid_rows.specs.declared.grids.GridRows.{GridRows}
use Rattle.grid_rows.specs.RowNumbers.{bordered_rows, cube_rows}
use Rattle.layer_scan.specs.FlaggedCubes.{flag_at, flags_of}
use Rattle.layer_scan.proofs.PlaneRowSteps.{one_more_row, row_there}
use Rattle.layer_scan.proofs.SliceRows.{long_range, row_inside}
use Rattle.layer_scan.proofs.flags.write_flags.Goals as goal

pub loop-number-init : goal.loop-number-init
loop-number-init c = record { shape = c.requires.kept; cubes = λ n lt. absurd (omega (arith, lt)); border = λ m b none. refl }

pub row_mut-requires : goal.row_mut-requires
row_mut-requires c =
    row_there (bordered_rows c.args.rows.now) c.args.rows.now.words c.loop-number.kept c.cube_row-row.result.number c.loop-number.invariant.shape
    c.cube_row-row.ensures.number

pub slice_bounds-part-end : goal.slice_bounds-part-end
slice_bounds-part-end c =
    let rows : GridRows = c.args.rows.now in
    let inside = row_inside c.loop-number.number (rows.length - 1) (cube_rows rows) (length c.args.flags.now) (omega arith) c.requires.flags in
    search rules

pub write_flag_row-requires-clause-few : goal.write_flag_row-requires-clause-few
write_flag_row-requires-clause-few c = omega (arith, c.row_mut.ensures.long, c.loop-number.invariant.shape.0, c.requires.few)

pub write_flag_row-requires-clause-flags : goal.write_flag_row-requires-clause-flags
write_flag_row-requires-clause-flags c =
    let rows : GridRows = c.args.rows.now in
    let n : ℕ = c.loop-number.number in
    let inside = row_inside n (rows.length - 1) (cube_rows rows) (length c.args.flags.now) (omega arith) c.requires.flags in
    let long : length (flags_of rows c.args.flags.now n) ≡ rows.length - 1 = long_range c.args.flags.now (n * (rows.length - 1)) (rows.length - 1) inside in
    omega (arith, long, c.row_mut.ensures.long, c.loop-number.invariant.shape.0, c.requires.words)

pub loop-number-preserved : goal.loop-number-preserved
loop-number-preserved c =
    let row : List ℕ = c.write_flag_row.new.row in
    let long : length row ≡ c.loop-number.kept.words = c.write_flag_row.ensures.long ∙ c.row_mut.ensures.long in
    one_more_row c.args.rows.now (flag_at c.args.rows.now c.args.flags.now) c.loop-number.number c.cube_row-row.result.number c.args.kept.now
    c.loop-number.kept row c.loop-number.invariant (omega arith) c.cube_row-row.ensures.row.0 long c.write_flag_row.ensures.bits

pub returns : goal.returns
returns c = record {
  rows = c.loop-number.invariant.shape;
  cubes = λ k lt. c.loop-number.invariant.cubes k (omega (arith, lt));
  border = c.loop-number.invariant.border;
}

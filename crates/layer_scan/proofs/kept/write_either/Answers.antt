use Rattle.std.proofs.Common.{ap, arith, sym, ◌∙◌}
use Rattle.std.specs.Prelude.{List, length, ℕ, ◌||◌, ◌≡◌}
use Rattle.bit_rows.specs.Rows.{IsRowOf, row_bit}
use Rattle.grid_rows.specs.declared.planes.BitPlane.{BitPlane}
use Rattle.grid_rows.specs.Planes.{bit_row}
use Rattle.grid_rows.specs.RowNumbers.{bordered_rows}
use Rattle.layer_scan.proofs.PlaneRowSteps.{one_more_filled, row_there}
use Rattle.layer_scan.proofs.kept.write_either.Goals as goal

pub loop-number-init : goal.loop-number-init
loop-number-init c = record { shape = c.requires.around; done = λ n lt. absurd (omega (arith, lt)) }

pub row_mut-requires : goal.row_mut-requires
row_mut-requires c =
    row_there (bordered_rows c.args.rows.now) c.args.rows.now.words c.loop-number.around c.loop-number.number c.loop-number.invariant.shape (omega arith)

pub row-requires : goal.row-requires
row-requires c =
    row_there (bordered_rows c.args.rows.now) c.args.rows.now.words c.args.below.now c.loop-number.number c.requires.below (omega arith)

pub row-requires-in-loop-number : goal.row-requires-in-loop-number
row-requires-in-loop-number c =
    row_there (bordered_rows c.args.rows.now) c.args.rows.now.words c.args.above.now c.loop-number.number c.requires.above (omega arith)

pub loop-number-preserved : goal.loop-number-preserved
loop-number-preserved c =
    let row : List ℕ = c.write_either_row.new.around in
    let n : ℕ = c.loop-number.number in
    let below : BitPlane = c.args.below.now in
    let above : BitPlane = c.args.above.now in
    let long : length row ≡ c.loop-number.around.words = c.write_either_row.ensures.long ∙ c.row_mut.ensures.long in
    let is : IsRowOf (λ x. row_bit (bit_row below n) x || row_bit (bit_row above n) x) row =
    λ x. c.write_either_row.ensures.bits x ∙ ap (λ r. row_bit r x || row_bit c.row-in-loop-number.result.now x) c.row.ensures.row
    ∙ ap (λ r. row_bit (bit_row below n) x || row_bit r x) c.row-in-loop-number.ensures.row in
    one_more_filled (bordered_rows c.args.rows.now) c.args.rows.now.words (λ m x. row_bit (bit_row below m) x || row_bit (bit_row above m) x) n
    c.loop-number.around row c.loop-number.invariant (omega arith) long is

pub write_either_row-requires-clause-below : goal.write_either_row-requires-clause-below
write_either_row-requires-clause-below c =
    c.row.ensures.long ∙ c.requires.below.0 ∙ sym (c.row_mut.ensures.long ∙ c.loop-number.invariant.shape.0)

pub write_either_row-requires-clause-above : goal.write_either_row-requires-clause-above
write_either_row-requires-clause-above c =
    c.row-in-loop-number.ensures.long ∙ c.requires.above.0 ∙ sym (c.row_mut.ensures.long ∙ c.loop-number.invariant.shape.0)

pub returns : goal.returns
returns c = record { rows = c.loop-number.invariant.shape; cubes = λ n lt. c.loop-number.invariant.done n (omega (arith, lt)) }

use Rattle.std.proofs.Common.{ap, arith, sym, ◌∙◌}
use Rattle.std.specs.Prelude.{List, length, ℕ, ◌*◌, ◌≡◌}
use Rattle.bit_rows.specs.Rows.{word_count}
use Rattle.bit_rows.specs.SampleRows.{is_clear_at}
use Rattle.grid_rows.specs.declared.grids.GridRows.{GridRows}
use Rattle.grid_rows.specs.RowNumbers.{sample_rows}
use Rattle.layer_scan.specs.SlicePlanes.{samples_of}
use Rattle.layer_scan.proofs.PlaneRowSteps.{one_more_filled, row_there}
use Rattle.layer_scan.proofs.SliceRows.{long_range, row_inside}
use Rattle.layer_scan.proofs.slices.write_clear.Goals as goal

pub loop-number-init : goal.loop-number-init
loop-number-init c = record { shape = c.requires.clear; done = λ n lt. absurd (omega (arith, lt)) }

pub row_mut-requires : goal.row_mut-requires
row_mut-requires c =
    row_there (sample_rows c.args.rows.now) c.args.rows.now.words c.loop-number.clear c.loop-number.number c.loop-number.invariant.shape (omega arith)

pub set_clear-requires : goal.set_clear-requires
set_clear-requires c =
    let rows : GridRows = c.args.rows.now in
    let n : ℕ = c.loop-number.number in
    let inside = row_inside n rows.length (sample_rows rows) (length c.args.slice.now) (omega arith) c.requires.slice in
    c.row_mut.ensures.long ∙ c.loop-number.invariant.shape.0 ∙ c.requires.words
    ∙ ap word_count (sym (long_range c.args.slice.now (n * rows.length) rows.length inside))

pub loop-number-preserved : goal.loop-number-preserved
loop-number-preserved c =
    let rows : GridRows = c.args.rows.now in
    let n : ℕ = c.loop-number.number in
    let row : List ℕ = c.set_clear.new.row in
    let long : length row ≡ c.loop-number.clear.words = c.set_clear.auto.row ∙ c.row_mut.ensures.long in
    one_more_filled (sample_rows rows) rows.words (λ m. is_clear_at c.args.blank (samples_of rows c.args.slice.now m)) n c.loop-number.clear row
    c.loop-number.invariant (omega arith) long c.set_clear.ensures

pub returns : goal.returns
returns c = record { rows = c.loop-number.invariant.shape; bits = λ n lt. c.loop-number.invariant.done n (omega (arith, lt)) }

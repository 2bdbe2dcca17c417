use Rattle.std.proofs.Common.{ap, arith, rules, sym, ◌∙◌, ℤ, w64, to_z, of_z}
use Rattle.std.proofs.lemmas.Int.{to_z-of_z}
use Rattle.std.specs.Prelude.{List, length, ℕ, ◌*◌, ◌≡◌}
use Rattle.bit_rows.specs.Rows.{word_count}
use Rattle.bit_rows.specs.SampleRows.{is_above}
use Rattle.grid_rows.specs.declared.grids.GridRows.{GridRows}
use Rattle.grid_rows.specs.RowNumbers.{sample_rows}
use Rattle.layer_scan.specs.SlicePlanes.{samples_of}
use Rattle.layer_scan.proofs.PlaneRowSteps.{one_more_filled, row_there}
use Rattle.layer_scan.proofs.SliceRows.{long_range, row_inside}
use Rattle.layer_scan.proofs.slices.write_signs.Goals as goal

pub loop-number-init : goal.loop-number-init
loop-number-init c = record { shape = c.requires.signs; done = λ n lt. absurd (omega (arith, lt)) }

pub row_mut-requires : goal.row_mut-requires
row_mut-requires c =
    row_there (sample_rows c.args.rows.now) c.args.rows.now.words c.loop-number.signs c.loop-number.number c.loop-number.invariant.shape (omega arith)

pub slice_bounds-samples-end : goal.slice_bounds-samples-end
slice_bounds-samples-end c =
    let rows : GridRows = c.args.rows.now in
    let inside = row_inside c.loop-number.number rows.length (sample_rows rows) (length c.args.slice.now) (omega arith) c.requires.slice in
    search rules

pub set_signs-requires : goal.set_signs-requires
set_signs-requires c =
    let rows : GridRows = c.args.rows.now in
    let n : ℕ = c.loop-number.number in
    let inside = row_inside n rows.length (sample_rows rows) (length c.args.slice.now) (omega arith) c.requires.slice in
    c.row_mut.ensures.long ∙ c.loop-number.invariant.shape.0 ∙ c.requires.words
    ∙ ap word_count (sym (long_range c.args.slice.now (n * rows.length) rows.length inside))

pub loop-number-preserved : goal.loop-number-preserved
loop-number-preserved c =
    let rows : GridRows = c.args.rows.now in
    let n : ℕ = c.loop-number.number in
    let iso : ℤ = to_z w64 (of_z w64 c.args.iso) in
    let row : List ℕ = c.set_signs.new.row in
    let long : length row ≡ c.loop-number.signs.words = c.set_signs.auto.row ∙ c.row_mut.ensures.long in
    one_more_filled (sample_rows rows) rows.words (λ m. is_above iso (samples_of rows c.args.slice.now m)) n c.loop-number.signs row
    c.loop-number.invariant (omega arith) long c.set_signs.ensures

pub returns : goal.returns
returns c =
    let same : to_z w64 (of_z w64 c.args.iso) ≡ c.args.iso = to_z-of_z w64 c.args.iso c.ranges.iso in
    record {
      rows = c.loop-number.invariant.shape;
      bits = λ n lt x. c.loop-number.invariant.done n (omega (arith, lt)) x
          ∙ ap (λ (z : ℤ). is_above z (samples_of c.args.rows.now c.args.slice.now n) x) same;
    }

use Rattle.std.proofs.Common.{ap, arith, ◌∙◌}
use Rattle.std.specs.Prelude.{List, bit_or, false, length, slice_index, ℕ, ◌||◌, ◌*◌, ◌≤◌, ◌≡◌}
use Rattle.bit_rows.specs.Rows.{row_bit}
use Rattle.layer_scan.proofs.WordTests.{one_more_word, or_words, own_word, row_from_words, row_past}
use Rattle.layer_scan.proofs.kept.write_either_row.Goals as goal

pub loop-w-init : goal.loop-w-init
loop-w-init c = λ j lt. absurd (omega (arith, lt))

pub loop-w-preserved : goal.loop-w-preserved
loop-w-preserved c =
    let below : List ℕ = c.args.below.now in
    let above : List ℕ = c.args.above.now in
    let w : ℕ = c.loop-w.w in
    let word : ℕ = bit_or (slice_index below w) (slice_index above w) in
    one_more_word (λ x. row_bit below x || row_bit above x) c.loop-w.around w word (omega arith) c.loop-w.invariant
    (or_words (row_bit below) (row_bit above) w (slice_index below w) (slice_index above w) (own_word below w) (own_word above w))

pub returns : goal.returns
returns c =
    let below : List ℕ = c.args.below.now in
    let above : List ℕ = c.args.above.now in
    let past = λ (x : ℕ) (h : 64 * length c.loop-w.around ≤ x).
    let first : row_bit below x ≡ false = row_past below x (omega arith) in
    let second : row_bit above x ≡ false = row_past above x (omega arith) in
    ap (λ t. t || row_bit above x) first ∙ second in
    record {
      long = c.loop-w.auto.around;
      bits = row_from_words (λ x. row_bit below x || row_bit above x) c.loop-w.around (λ j lt. c.loop-w.invariant j (omega arith)) past;
    }

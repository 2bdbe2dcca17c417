use Rattle.std.proofs.Common.{◌+◌}
use Rattle.std.specs.Prelude.{List, bit_or, slice_index, ℕ, ◌||◌}
use Rattle.bit_rows.specs.Rows.{row_bit}
use Rattle.layer_scan.proofs.WordTests.{or_words, own_word}
use Rattle.layer_scan.proofs.corners.some_of_four.Goals as goal

pub returns : goal.returns
returns c =
    let w : ℕ = c.args.w in
    let low : List ℕ = c.args.lower.now in
    let high : List ℕ = c.args.upper.now in
    let first = or_words (row_bit low) (λ x. row_bit low (x + 1)) w (slice_index low w) c.down.result (own_word low w) c.down.ensures in
    let second = or_words (row_bit high) (λ x. row_bit high (x + 1)) w (slice_index high w) c.down-2.result (own_word high w) c.down-2.ensures in
    or_words (λ x. row_bit low x || row_bit low (x + 1)) (λ x. row_bit high x || row_bit high (x + 1)) w
    (bit_or (slice_index low w) c.down.result) (bit_or (slice_index high w) c.down-2.result) first second

use Rattle.std.proofs.Common.{ap, sym, ◌∙◌, ◌+◌, ◌*◌, ◌≡◌}
use Rattle.std.specs.Prelude.{List, bit_or, false, slice_index, ℕ, ◌||◌}
use Rattle.lists.proofs.Tests.{or_false}
use Rattle.bit_rows.specs.Rows.{row_bit}
use Rattle.layer_scan.proofs.WordTests.{or_words, own_word}
use Rattle.layer_scan.proofs.rows.CubesAround.word.Goals as goal

pub returns : goal.returns
returns c =
    let w : ℕ = c.args.w in
    let low : List ℕ = c.args.self.now.low.now in
    let high : List ℕ = c.args.self.now.high.now in
    let other : List ℕ = c.args.self.now.other_low.now in
    let last : List ℕ = c.args.self.now.other_high.now in
    let two : ℕ = bit_or (slice_index other w) (slice_index last w) in
    let pair = or_words (row_bit other) (row_bit last) w (slice_index other w) (slice_index last w) (own_word other w) (own_word last w) in
    let three = or_words (row_bit high) (λ x. row_bit other x || row_bit last x) w (slice_index high w) two (own_word high w) pair in
    let four = or_words (row_bit low) (λ x. row_bit high x || (row_bit other x || row_bit last x)) w (slice_index low w)
    (bit_or (slice_index high w) two) (own_word low w) three in
    λ k h.
    let x : ℕ = 64 * w + k in
    let none : row_bit last x ≡ (row_bit last x || false) = sym (or_false (row_bit last x)) in
    four k h ∙ ap (λ t. row_bit low x || (row_bit high x || (row_bit other x || t))) none

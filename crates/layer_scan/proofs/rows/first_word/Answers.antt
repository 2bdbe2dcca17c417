use Rattle.std.proofs.Common.{ap, sym, ◌∙◌, ◌+◌, ◌*◌}
use Rattle.std.specs.Prelude.{Bool, List, bit_or, bit_xor, slice_index, ℕ, ◌&&◌, ◌||◌}
use Rattle.iso_model.specs.Bipolar.{differ}
use Rattle.bit_rows.specs.Rows.{row_bit}
use Rattle.layer_scan.specs.RowsOfEdges.{around, around_before, rows_of}
use Rattle.layer_scan.proofs.EdgeWordSteps.{xor_words}
use Rattle.layer_scan.proofs.WordTests.{and_words, or_words, own_word}
use Rattle.layer_scan.proofs.rows.first_word.Goals as goal

pub returns-then-there : goal.returns-then-there
returns-then-there c =
    let w : ℕ = c.args.w in
    let near : List ℕ = c.args.near.now in
    let far : List ℕ = c.args.far.now in
    let cubes : List (List ℕ) = rows_of c.args.cubes.now in
    let signs = xor_words (row_bit near) (row_bit far) w (slice_index near w) (slice_index far w) (own_word near w) (own_word far w) in
    let kept = or_words (around cubes) (around_before cubes) w c.word.result c.word_before.result c.word.ensures c.word_before.ensures in
    λ k low.
    let both : Bool = differ (row_bit near (64 * w + k)) (row_bit far (64 * w + k)) && (around cubes (64 * w + k) || around_before cubes (64 * w + k)) in
    and_words (λ x. differ (row_bit near x) (row_bit far x)) (λ x. around cubes x || around_before cubes x) w
    (bit_xor (slice_index near w) (slice_index far w)) (bit_or c.word.result c.word_before.result) signs kept k low
    ∙ sym (ap (λ t. t && both) c.if-there.true)

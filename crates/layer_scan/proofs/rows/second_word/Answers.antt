use Rattle.std.proofs.Common.{ap, sym, ◌∙◌, ◌+◌, ◌*◌}
use Rattle.std.specs.Prelude.{Bool, List, bit_xor, slice_index, ℕ, ◌&&◌}
use Rattle.iso_model.specs.Bipolar.{differ}
use Rattle.bit_rows.specs.Rows.{row_bit}
use Rattle.layer_scan.specs.RowsOfEdges.{around, rows_of}
use Rattle.layer_scan.proofs.EdgeWordSteps.{xor_words}
use Rattle.layer_scan.proofs.WordTests.{and_words, own_word}
use Rattle.layer_scan.proofs.rows.second_word.Goals as goal

pub returns-then-there : goal.returns-then-there
returns-then-there c =
    let w : ℕ = c.args.w in
    let near : List ℕ = c.args.near.now in
    let far : List ℕ = c.args.far.now in
    let cubes : List (List ℕ) = rows_of c.args.cubes.now in
    let signs = xor_words (row_bit near) (λ x. row_bit far (x + 1)) w (slice_index near w) c.down.result (own_word near w) c.down.ensures in
    λ k low.
    let both : Bool = differ (row_bit near (64 * w + k)) (row_bit far (64 * w + k + 1)) && around cubes (64 * w + k) in
    and_words (λ x. differ (row_bit near x) (row_bit far (x + 1))) (around cubes) w (bit_xor (slice_index near w) c.down.result) c.word.result
    signs c.word.ensures k low
    ∙ sym (ap (λ t. t && both) c.if-there.true)

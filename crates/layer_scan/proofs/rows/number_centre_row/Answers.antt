use Rattle.std.proofs.Common.{ap, arith, rules, ◌∙◌}
use Rattle.std.proofs.lemmas.Nat.{and_le_r}
use Rattle.std.specs.Prelude.{Bool, List, bit_and, bit_xor, count_ones, length, slice_index, ℕ, ◌&&◌, ◌*◌, ◌+◌, ◌<◌, ◌^◌, ◌≡◌}
use Rattle.iso_model.specs.Bipolar.{differ}
use Rattle.bit_rows.specs.Rows.{IsWordOf, row_bit}
use Rattle.layer_scan.specs.RowsOfEdges.{first_to_corner, number_at, second_to_corner}
use Rattle.layer_scan.proofs.EdgeWordSteps.{fits_after, one_more_edges, xor_words}
use Rattle.layer_scan.proofs.WordTests.{and_words, own_word}
use Rattle.layer_scan.proofs.rows.number_centre_row.Goals as goal

-- a word of the edges from the centres to the corners whose signs are told by a test
word_to : (centres kept : List ℕ) (corner : ℕ → Bool) (w word : ℕ) → IsWordOf corner w word
    → IsWordOf (λ x. differ (row_bit centres x) (corner x) && row_bit kept x) w (bit_and (bit_xor (slice_index centres w) word) (slice_index kept w))
word_to centres kept corner w word is =
    and_words (λ x. differ (row_bit centres x) (corner x)) (row_bit kept) w (bit_xor (slice_index centres w) word) (slice_index kept w)
    (xor_words (row_bit centres) corner w (slice_index centres w) word (own_word centres w) is) (own_word kept w)

part_fits : (a b : ℕ) → b < 2 ^ 64 → bit_and a b < 2 ^ 64
part_fits a b h = let less = and_le_r a b in omega (arith, less, h)

pub overflow_add-count-in-loop-w : goal.overflow_add-count-in-loop-w
overflow_add-count-in-loop-w c =
    let w : ℕ = c.loop-w.w in
    let centres : List ℕ = c.args.centres.now in
    let corners : List ℕ = c.args.corners.now in
    let kept : List ℕ = c.args.kept.now in
    let own = c.type_inv.kept w in
    let fits : slice_index kept w < 2 ^ 64 = search rules in
    let first : ℕ = bit_and (bit_xor (slice_index centres w) (slice_index corners w)) (slice_index kept w) in
    let second : ℕ = bit_and (bit_xor (slice_index centres w) c.down.result) (slice_index kept w) in
    let small : c.loop-w.count + (count_ones first + count_ones second) < 2 ^ 32 =
    fits_after (first_to_corner centres corners kept) (second_to_corner centres corners kept) c.args.count w (length c.args.row.now) c.loop-w.count
    first second (2 ^ 32) c.loop-w.invariant.counted (omega arith) (part_fits _ (slice_index kept w) fits)
    (part_fits _ (slice_index kept w) fits) (word_to centres kept (row_bit corners) w (slice_index corners w) (own_word corners w))
    (word_to centres kept (λ x. row_bit corners (x + 1)) w c.down.result c.down.ensures) c.requires.few in
    search rules

pub loop-w-preserved : goal.loop-w-preserved
loop-w-preserved c =
    let w : ℕ = c.loop-w.w in
    let centres : List ℕ = c.args.centres.now in
    let corners : List ℕ = c.args.corners.now in
    let kept : List ℕ = c.args.kept.now in
    let own = c.type_inv.kept w in
    let fits : slice_index kept w < 2 ^ 64 = search rules in
    let first : ℕ = bit_and (bit_xor (slice_index centres w) (slice_index corners w)) (slice_index kept w) in
    let second : ℕ = bit_and (bit_xor (slice_index centres w) c.down.result) (slice_index kept w) in
    one_more_edges (first_to_corner centres corners kept) (second_to_corner centres corners kept) c.args.count w first second c.loop-w.count
    c.loop-w.row c.loop-w.invariant (omega arith) (part_fits _ (slice_index kept w) fits)
    (part_fits _ (slice_index kept w) fits) (word_to centres kept (row_bit corners) w (slice_index corners w) (own_word corners w))
    (word_to centres kept (λ x. row_bit corners (x + 1)) w c.down.result c.down.ensures)

pub returns-clause-next : goal.returns-clause-next
returns-clause-next c =
    let all : c.loop-w.w ≡ length c.args.row.now = omega arith in
    c.loop-w.invariant.counted
    ∙ ap (λ n. number_at (first_to_corner c.args.centres.now c.args.corners.now c.args.kept.now)
    (second_to_corner c.args.centres.now c.args.corners.now c.args.kept.now) c.args.count (64 * n)) all

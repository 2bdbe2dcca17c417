-- Rows by their words, and rows that are moved by one place.
use Rattle.std.proofs.Common.{ap, arith, inl, inr, sym, ◌∙◌}
use Rattle.std.proofs.lemmas.Bool.{cases_lt}
use Rattle.std.proofs.lemmas.Nat.Bits.{bit_at-zero}
use Rattle.std.specs.Prelude.{List, false, true, nat_lt, slice_index, suc, zero, ℕ, ◌%◌, ◌&&◌, ◌*◌, ◌+◌, ◌-◌, ◌/◌, ◌<◌, ◌==◌, ◌≡◌}
use Rattle.lists.specs.Bits.{is_set}
use Rattle.lists.proofs.Tests.{of_lt}
use Rattle.bit_rows.specs.Rows.{row_bit, moved_down, moved_up, IsWordOf}

-- bit k of word w of a row
pub row_bit_at : (row : List ℕ) (w k : ℕ) → k < 64 → row_bit row (64 * w + k) ≡ is_set (slice_index row w) k
row_bit_at row w k h =
    let word : (64 * w + k) / 64 ≡ w = omega arith in
    let place : (64 * w + k) % 64 ≡ k = omega arith in
    ap (λ j. is_set (slice_index row j) ((64 * w + k) % 64)) word ∙ ap (λ j. is_set (slice_index row w) j) place

-- no bit is set in 0
pub no_bits : (k : ℕ) → is_set 0 k ≡ false
no_bits k = ap (λ n. n == 1) (bit_at-zero k)

-- a word is word w of the row moved down where its bits are those of word w one place higher, and the last that of the next word at 0
pub down_row : (row : List ℕ) (w next word : ℕ) → next ≡ slice_index row (w + 1)
    → ((k : ℕ) → k < 63 → is_set word k ≡ is_set (slice_index row w) (k + 1)) → is_set word 63 ≡ is_set next 0
    → IsWordOf (moved_down row) w word
down_row row w next word is bits last k h = elim (cases_lt k 63) [
  | inl low ↦
      let place : 64 * w + (k + 1) ≡ 64 * w + k + 1 = omega arith in
      bits k low ∙ sym (row_bit_at row w (k + 1) (omega arith)) ∙ ap (row_bit row) place
  | inr high ↦
      let at : k ≡ 63 = omega arith in
      let place : 64 * (w + 1) + 0 ≡ 64 * w + k + 1 = omega arith in
      ap (is_set word) at ∙ last ∙ ap (λ n. is_set n 0) is ∙ sym (row_bit_at row (w + 1) 0 (omega arith)) ∙ ap (row_bit row) place
]

-- the same for the row moved up, with the word before
pub up_row : (row : List ℕ) (w previous word : ℕ) → (w ≡ 0 → previous ≡ 0) → (0 < w → previous ≡ slice_index row (w - 1))
    → ((k : ℕ) → k < 63 → is_set word (k + 1) ≡ is_set (slice_index row w) k) → is_set word 0 ≡ is_set previous 63
    → IsWordOf (moved_up row) w word
up_row row w previous word none is bits first zero h = elim (cases_lt 0 w) [
  | inl some ↦
      let place : 64 * (w - 1) + 63 ≡ 64 * w + 0 - 1 = omega arith in
      let there : nat_lt 0 (64 * w + 0) ≡ true = of_lt 0 (64 * w + 0) (omega arith) in
      first ∙ ap (λ n. is_set n 63) (is some) ∙ sym (row_bit_at row (w - 1) 63 (omega arith)) ∙ ap (row_bit row) place
      ∙ sym (ap (λ t. t && row_bit row (64 * w + 0 - 1)) there)
  | inr all ↦
      let at : w ≡ 0 = omega arith in
      first ∙ ap (λ n. is_set n 63) (none at) ∙ no_bits 63 ∙ sym (ap (λ n. moved_up row (64 * n + 0)) at)
]
up_row row w previous word none is bits first (suc k) h =
    let after : suc k ≡ k + 1 = omega arith in
    let place : 64 * w + k ≡ 64 * w + suc k - 1 = omega arith in
    let there : nat_lt 0 (64 * w + suc k) ≡ true = of_lt 0 (64 * w + suc k) (omega arith) in
    ap (is_set word) after ∙ bits k (omega arith) ∙ sym (row_bit_at row w k (omega arith)) ∙ ap (row_bit row) place
    ∙ sym (ap (λ t. t && row_bit row (64 * w + suc k - 1)) there)

-- Words and rows whose bits are told by tests: joined by and, or and not, and a row by its words.
use Rattle.std.proofs.Common.{ap, arith, inl, inr, sym, ◌∙◌, refl}
use Rattle.std.proofs.lemmas.Bool.{cases_lt}
use Rattle.std.proofs.lemmas.List.{get_or-set_other, get_or-set_same, get_or_past}
use Rattle.std.proofs.lemmas.Nat.Bits.{bit_at-lt, bit_at_not, bit_at_ones}
use Rattle.std.specs.Int.{bit_at, w64}
use Rattle.std.specs.Prelude.{Bool, bit_and, bit_or, false, length, not, slice_index, slice_set, suc, true, zero, List}
use Rattle.std.specs.Prelude.{ℕ, ◌%◌, ◌&&◌, ◌||◌, ◌*◌, ◌+◌, ◌-◌, ◌/◌, ◌<◌, ◌≤◌, ◌==◌, ◌^◌, ◌≡◌, ◌≢◌}
use Rattle.lists.specs.Bits.{is_set}
use Rattle.lists.proofs.Bits.{set_and}
use Rattle.bit_rows.specs.Rows.{IsRowOf, IsWordOf, row_bit}
use Rattle.bit_rows.proofs.RowBits.{no_bits, row_bit_at}
use Rattle.bit_rows.proofs.WordBits.{set_or}

-- a word of a row
pub own_word : (row : List ℕ) (w : ℕ) → IsWordOf (row_bit row) w (slice_index row w)
own_word row w k h = sym (row_bit_at row w k h)

pub and_words : (f g : ℕ → Bool) (w a b : ℕ) → IsWordOf f w a → IsWordOf g w b → IsWordOf (λ x. f x && g x) w (bit_and a b)
and_words f g w a b first second k h = set_and a b k ∙ ap (λ t. t && is_set b k) (first k h) ∙ ap (λ t. f (64 * w + k) && t) (second k h)

pub or_words : (f g : ℕ → Bool) (w a b : ℕ) → IsWordOf f w a → IsWordOf g w b → IsWordOf (λ x. f x || g x) w (bit_or a b)
or_words f g w a b first second k h = set_or a b k ∙ ap (λ t. t || is_set b k) (first k h) ∙ ap (λ t. f (64 * w + k) || t) (second k h)

one_less : (a : ℕ) → a < 2 → (1 - a == 1) ≡ not (a == 1)
one_less zero h = refl
one_less (suc zero) h = refl
one_less (suc (suc a)) h = absurd (omega arith)

pub not_word : (f : ℕ → Bool) (w a : ℕ) → a < 2 ^ 64 → IsWordOf f w a → IsWordOf (λ x. not (f x)) w (18446744073709551615 - a)
not_word f w a fits is k h = ap (λ n. n == 1) (bit_at_not w64 a k fits h) ∙ one_less (bit_at a k) (bit_at-lt a k) ∙ ap not (is k h)

-- all bits, and none
pub all_bits : (w : ℕ) → IsWordOf (λ x. true) w 18446744073709551615
all_bits w k h = ap (λ n. n == 1) (bit_at_ones 64 k h)

pub none_set : (w : ℕ) → IsWordOf (λ x. false) w 0
none_set w k h = no_bits k

-- past the words of a row no bit is set
pub row_past : (row : List ℕ) (x : ℕ) → 64 * length row ≤ x → row_bit row x ≡ false
row_past row x h = ap (λ n. is_set n (x % 64)) (get_or_past row (x / 64) 0 (omega arith)) ∙ no_bits (x % 64)

-- a row is told by a test where each of its words is, and no place past its words passes
pub row_from_words : (f : ℕ → Bool) (row : List ℕ) → ((w : ℕ) → w < length row → IsWordOf f w (slice_index row w))
    → ((x : ℕ) → 64 * length row ≤ x → f x ≡ false) → IsRowOf f row
row_from_words f row words past x = elim (cases_lt (x / 64) (length row)) [
  | inl within ↦
      let place : 64 * (x / 64) + x % 64 ≡ x = omega arith in
      words (x / 64) within (x % 64) (omega arith) ∙ ap f place
  | inr out ↦ row_past row x (omega arith) ∙ sym (past x (omega arith))
]

-- one word more of a row is written
pub one_more_word : (f : ℕ → Bool) (row : List ℕ) (w word : ℕ) → w < length row → ((j : ℕ) → j < w → IsWordOf f j (slice_index row j))
    → IsWordOf f w word → (j : ℕ) → j < w + 1 → IsWordOf f j (slice_index (slice_set row w word) j)
one_more_word f row w word within before is j lt k low = elim (cases_lt j w) [
  | inl less ↦
      let other : j ≢ w = λ e. omega (arith, e, less) in
      ap (λ n. is_set n k) (get_or-set_other row w j word 0 other) ∙ before j less k low
  | inr more ↦
      let same : j ≡ w = omega (arith, more, lt) in
      ap (λ i. is_set (slice_index (slice_set row w word) i) k) same ∙ ap (λ n. is_set n k) (get_or-set_same row w word 0 within)
      ∙ is k low ∙ ap (λ i. f (64 * i + k)) (sym same)
]

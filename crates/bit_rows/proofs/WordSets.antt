-- Words and rows of bits that tell something of samples.
use Rattle.std.proofs.Common.{ap, arith, inl, inr, sym, ◌∙◌}
use Rattle.std.proofs.lemmas.Bool.{cases_lt}
use Rattle.std.proofs.lemmas.Nat.Bits.{bit_at_ones, bit_at_ones_above}
use Rattle.std.specs.Prelude.{Bool, List, None, length, min, nat_lt, slice_index_or, ℤ, pos, ℕ}
use Rattle.std.specs.Prelude.{◌&&◌, ◌||◌, ◌*◌, ◌+◌, ◌-◌, ◌<◌, ◌≤◌, ◌==◌, ◌^◌, ◌≡◌, ◌⊎◌}
use Rattle.lists.specs.Bits.{is_set}
use Rattle.lists.proofs.Tests.{and_true, of_lt, lt_of, same_tests, not_below}
use Rattle.bit_rows.proofs.SetBelow.{AreSetBelow, none_set_below, one_more_set}
use Rattle.bit_rows.specs.Rows.{IsWordOf}
use Rattle.bit_rows.specs.SampleRows.{is_clear_at}

-- a word of the bits below a place: those that pass among the samples from `first` on
abbrev pub IsWordBelow : (ℤ → Bool) → List ℤ → ℕ → ℕ → ℕ → Type 0
IsWordBelow passes samples first place word = AreSetBelow (λ k. passes (slice_index_or samples (first + k) (pos 0))) place word

pub none_below : (passes : ℤ → Bool) (samples : List ℤ) (first : ℕ) → IsWordBelow passes samples first 0 0
none_below passes samples first = none_set_below (λ k. passes (slice_index_or samples (first + k) (pos 0)))

-- one place more
pub one_more_place : (passes : ℤ → Bool) (samples : List ℤ) (first place word after : ℕ) (test : Bool)
    → passes (slice_index_or samples (first + place) (pos 0)) ≡ test
    → IsWordBelow passes samples first place word
    → ((k : ℕ) → k < 64 → is_set after k ≡ (is_set word k || ((k == place) && test)))
    → IsWordBelow passes samples first (place + 1) after
one_more_place passes samples first place word after test told before added =
    one_more_set (λ k. passes (slice_index_or samples (first + k) (pos 0))) place word after before
    (λ k low. added k low ∙ ap (λ t. is_set word k || ((k == place) && t)) (sym told))

-- a word of as many ones as there are samples from the first of word w on, up to 64
pub all_there : (samples : List ℤ) (w count word : ℕ) → 64 * w ≤ length samples → count ≡ min 64 (length samples - 64 * w) → word + 1 ≡ 2 ^ count
    → IsWordOf (is_clear_at None samples) w word
all_there samples w count word within counted ones k h =
    let mask : word ≡ 2 ^ count - 1 = omega (arith, ones) in
    let same : nat_lt k count ≡ nat_lt (64 * w + k) (length samples) = same_tests (nat_lt k count) (nat_lt (64 * w + k) (length samples))
    (λ t. let lt = lt_of k count t in of_lt (64 * w + k) (length samples) (omega (arith, counted)))
    (λ t. let lt = lt_of (64 * w + k) (length samples) t in of_lt k count (omega (arith, counted))) in
    ap (λ n. is_set n k) mask ∙ ones_below k count (cases_lt k count) ∙ same ∙ sym (and_true (nat_lt (64 * w + k) (length samples)))
  where
    ones_below : (i n : ℕ) → (i < n) ⊎ (n ≤ i) → is_set (2 ^ n - 1) i ≡ nat_lt i n
    ones_below i n (inl low) = ap (λ m. m == 1) (bit_at_ones n i low) ∙ sym (of_lt i n low)
    ones_below i n (inr high) = ap (λ m. m == 1) (bit_at_ones_above n i high) ∙ sym (not_below i n high)

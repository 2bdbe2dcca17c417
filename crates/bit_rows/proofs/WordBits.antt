-- Bits of words: of two joined by or, of one that is shifted, and how many are set.
use Rattle.std.proofs.Common.{ap, arith, inl, inr, refl, sym, ◌∙◌}
use Rattle.std.proofs.lemmas.Bool.{and_right, cases_eq, ne_eqb, eq-eqb}
use Rattle.std.proofs.lemmas.Nat.{pow_pos, and_mask}
use Rattle.std.proofs.lemmas.List.Sums.{sum_by-cons}
use mir.Val.{bool_byte}
use lib.Count.{ones_step, ones-le}
use lib.Pow.{field, mod-mod-pow, shr-shr}
use Rattle.std.proofs.lemmas.Nat.Bits.{bit_at-lt, bit_at_lowest, bit_at-suc, bit_at-zero, bit_at_or}
use Rattle.std.proofs.lemmas.Nat.Bits.{bit_at_cat_low, bit_at_cat_high, bit_at_above, bit_at-pow_same, bit_at-pow_other}
use Rattle.std.specs.Int.{bit_at}
use Rattle.std.specs.List.{range_with_len}
use Rattle.std.specs.Prelude.{Bool, cond, ◌⊎◌, bit_and, bit_or, count_by, count_ones, false, true, if◌then◌else◌, suc, zero}
use Rattle.std.specs.Prelude.{ℕ, ◌%◌, ◌&&◌, ◌||◌, ◌*◌, ◌+◌, ◌-◌, ◌/◌, ◌<◌, ◌≤◌, ◌==◌, ◌^◌, ◌≡◌, ◌≢◌}
use Rattle.lists.specs.Bits.{is_set}
use Rattle.lists.specs.Orders.{numbers}
use Rattle.lists.proofs.Bits.{max_bits}
use Rattle.lists.proofs.Tests.{and_true, or_false}

-- a test as a number
pub as_number : (test : Bool) → bool_byte test ≡ (if test then 1 else 0)
as_number true = refl
as_number false = refl

-- ---- or

-- the members of one set or the other
pub set_or : (a b i : ℕ) → is_set (bit_or a b) i ≡ (is_set a i || is_set b i)
set_or a b i = ap (λ n. n == 1) (bit_at_or a b i) ∙ max_bits (bit_at a i) (bit_at b i) (bit_at-lt a i) (bit_at-lt b i)

-- a bit of two words of which the second has none there, and the other way round
pub only_first : (a b i : ℕ) → bit_at b i ≡ 0 → is_set (bit_or a b) i ≡ is_set a i
only_first a b i e = set_or a b i ∙ ap (λ n. is_set a i || (n == 1)) e ∙ or_false (is_set a i)

pub only_second : (a b i : ℕ) → bit_at a i ≡ 0 → is_set (bit_or a b) i ≡ is_set b i
only_second a b i e = set_or a b i ∙ ap (λ n. (n == 1) || is_set b i) e

-- ---- shifts in a word of 64 bits

-- a bit of a number is that of what is left of it in a word
pub bit_in_word : (n i : ℕ) → i < 64 → bit_at (n % 2 ^ 64) i ≡ bit_at n i
bit_in_word n i h =
    let whole : n / 2 ^ 64 * 2 ^ 64 + n % 2 ^ 64 ≡ n = omega arith in
    sym (bit_at_cat_low (n / 2 ^ 64) 64 (n % 2 ^ 64) i h) ∙ ap (λ m. bit_at m i) whole

-- what is shifted up by k in a word has its bits k places higher, and none below them
raised_high : (n k i : ℕ) → k ≤ i → i < 64 → bit_at (n * 2 ^ k % 2 ^ 64) i ≡ bit_at n (i - k)
raised_high n k i h low =
    let same : n * 2 ^ k ≡ n * 2 ^ k + 0 = omega arith in
    bit_in_word (n * 2 ^ k) i low ∙ ap (λ m. bit_at m i) same ∙ bit_at_cat_high n k 0 i (positive k) h
  where
    positive : (j : ℕ) → 0 < 2 ^ j
    positive j = pow_pos j

raised_low : (n k i : ℕ) → i < k → i < 64 → bit_at (n * 2 ^ k % 2 ^ 64) i ≡ 0
raised_low n k i h low =
    let same : n * 2 ^ k ≡ n * 2 ^ k + 0 = omega arith in
    bit_in_word (n * 2 ^ k) i low ∙ ap (λ m. bit_at m i) same ∙ bit_at_cat_low n k 0 i h ∙ bit_at-zero i

-- a word that is shifted down by one, with a bit of the next at its end
pub down_low : (word next k : ℕ) → k < 63 → is_set (bit_or (word / 2) (next * 2 ^ 63 % 2 ^ 64)) k ≡ is_set word (k + 1)
down_low word next k h =
    let none : bit_at (next * 2 ^ 63 % 2 ^ 64) k ≡ 0 = raised_low next 63 k h (omega arith) in
    let after : suc k ≡ k + 1 = omega arith in
    only_first (word / 2) (next * 2 ^ 63 % 2 ^ 64) k none
    ∙ ap (λ n. n == 1) (sym (bit_at-suc word k) ∙ ap (bit_at word) after)

pub down_high : (word next : ℕ) → word < 2 ^ 64 → is_set (bit_or (word / 2) (next * 2 ^ 63 % 2 ^ 64)) 63 ≡ is_set next 0
down_high word next h =
    let none : bit_at (word / 2) 63 ≡ 0 = bit_at_above (word / 2) 63 63 (omega arith) (omega arith) in
    only_second (word / 2) (next * 2 ^ 63 % 2 ^ 64) 63 none
    ∙ ap (λ n. n == 1) (raised_high next 63 63 (omega arith) (omega arith))

-- a word that is shifted up by one, with a bit of the one before at its front
pub up_high : (word previous k : ℕ) → previous < 2 ^ 64 → k < 63 → is_set (bit_or (word * 2 % 2 ^ 64) (previous / 2 ^ 63)) (k + 1) ≡ is_set word k
up_high word previous k h low =
    let none : bit_at (previous / 2 ^ 63) (k + 1) ≡ 0 = bit_at_above (previous / 2 ^ 63) 1 (k + 1) (omega arith) (omega arith) in
    let back : k + 1 - 1 ≡ k = omega arith in
    only_first (word * 2 % 2 ^ 64) (previous / 2 ^ 63) (k + 1) none
    ∙ ap (λ n. n == 1) (raised_high word 1 (k + 1) (omega arith) (omega arith) ∙ ap (bit_at word) back)

pub up_low : (word previous : ℕ) → is_set (bit_or (word * 2 % 2 ^ 64) (previous / 2 ^ 63)) 0 ≡ is_set previous 63
up_low word previous =
    let none : bit_at (word * 2 % 2 ^ 64) 0 ≡ 0 = raised_low word 1 0 (omega arith) (omega arith) in
    let same : bit_at (previous / 2 ^ 63) 0 ≡ bit_at previous 63 = bit_at_lowest (previous / 2 ^ 63) in
    only_second (word * 2 % 2 ^ 64) (previous / 2 ^ 63) 0 none ∙ ap (λ n. n == 1) same

-- a test as a bit at place p of a word
pub test_bit : (b : Bool) (p k : ℕ) → p < 64 → k < 64 → is_set ((if b then 1 else 0) * 2 ^ p % 2 ^ 64) k ≡ ((k == p) && b)
test_bit b p k h low = ap (λ n. n == 1) (bit_in_word ((if b then 1 else 0) * 2 ^ p) k low) ∙ by_case b (cases_eq k p)
  where
    by_case : (t : Bool) → (k ≡ p) ⊎ (k ≢ p) → is_set ((if t then 1 else 0) * 2 ^ p) k ≡ ((k == p) && t)
    by_case true (inl e) =
        let one : 1 * 2 ^ p ≡ 2 ^ p = omega arith in
        ap (λ n. is_set n k) one ∙ ap (λ j. is_set (2 ^ p) j) e ∙ ap (λ n. n == 1) (bit_at-pow_same p) ∙ sym (and_true (k == p) ∙ eq-eqb k p e)
    by_case true (inr e) =
        let one : 1 * 2 ^ p ≡ 2 ^ p = omega arith in
        ap (λ n. is_set n k) one ∙ ap (λ n. n == 1) (bit_at-pow_other p k e) ∙ sym (and_true (k == p) ∙ ne_eqb k p e)
    by_case false other =
        let none : 0 * 2 ^ p ≡ 0 = omega arith in
        ap (λ n. is_set n k) none ∙ ap (λ n. n == 1) (bit_at-zero k) ∙ sym (and_right (k == p) false refl)

-- ---- how many bits are set

one_more : (b : ℕ) → b < 2 → b ≡ cond (b == 1) 1 0
one_more zero h = refl
one_more (suc zero) h = refl
one_more (suc (suc b)) h = absurd (omega arith)

-- of d bits of a number from place a on
pub ones_range : (d a n : ℕ) → count_ones (n / 2 ^ a % 2 ^ d) ≡ count_by (is_set n) (range_with_len a d)
ones_range zero a n =
    let none : n / 2 ^ a % 2 ^ 0 ≡ 0 = omega arith in
    ap count_ones none ∙ zero_ones
  where
    zero_ones : count_ones 0 ≡ 0
    zero_ones = omega (arith, ones-le 0 0 (omega arith))
ones_range (suc d) a n =
    let after : suc d ≡ d + 1 = omega arith in
    let low : n / 2 ^ a % 2 ^ (d + 1) % 2 ≡ bit_at n a = mod-mod-pow (n / 2 ^ a) d 1 in
    let high : n / 2 ^ a % 2 ^ (d + 1) / 2 ≡ n / 2 ^ (a + 1) % 2 ^ d = field (n / 2 ^ a) d 1 ∙ ap (λ m. m % 2 ^ d) (shr-shr n a 1) in
    let rest : count_ones (n / 2 ^ (a + 1) % 2 ^ d) ≡ count_by (is_set n) (range_with_len (a + 1) d) = ones_range d (a + 1) n in
    ap (λ m. count_ones (n / 2 ^ a % 2 ^ m)) after
    ∙ ones_step (n / 2 ^ a % 2 ^ (d + 1))
    ∙ ap (λ m. m + count_ones (n / 2 ^ a % 2 ^ (d + 1) / 2)) (low ∙ one_more (bit_at n a) (bit_at-lt n a))
    ∙ ap (λ m. cond (is_set n a) 1 0 + count_ones m) high
    ∙ ap (λ m. cond (is_set n a) 1 0 + m) rest
    ∙ sym (sum_by-cons (λ i. cond (is_set n i) 1 0) a (range_with_len (a + 1) d))

-- of the bits below a place
pub ones_below_place : (word place : ℕ) → count_ones (bit_and word (2 ^ place - 1)) ≡ count_by (is_set word) (numbers place)
ones_below_place word place =
    let whole : word ≡ word / 2 ^ 0 = omega arith in
    ap count_ones (and_mask word place) ∙ ap (λ n. count_ones (n % 2 ^ place)) whole ∙ ones_range place 0 word

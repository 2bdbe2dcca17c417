-- Rows of edges that are written and counted word by word.
use Rattle.std.proofs.Common.{ap, arith, inl, inr, refl, subst, sym, ◌∙◌}
use Rattle.std.proofs.lemmas.Bool.{cases_lt}
use Rattle.std.proofs.lemmas.List.{get_or-set_other, get_or-set_same}
use Rattle.std.proofs.lemmas.Nat.{and_mask}
use Rattle.std.proofs.lemmas.Nat.Bits.{bit_at-lt, bit_at_xor}
use Rattle.std.proofs.Math.Nat.{mod-eq_of_lt}
use Rattle.std.specs.Int.{bit_at}
use Rattle.std.specs.Prelude.{Bool, List, bit_xor, cond, count_by, count_ones, length, nat_lt, slice_index_or, slice_set, suc, sum_by, true, zero}
use Rattle.std.specs.Prelude.{ℕ, ◌%◌, ◌&&◌, ◌*◌, ◌+◌, ◌-◌, ◌<◌, ◌≤◌, ◌==◌, ◌^◌, ◌≡◌, ◌≢◌, ◌⊎◌}
use Rattle.lists.specs.Bits.{is_set}
use Rattle.lists.specs.Orders.{numbers}
use Rattle.lists.proofs.Powers.{sum_suc}
use Rattle.lists.proofs.Tests.{of_lt}
use Rattle.iso_model.specs.Bipolar.{differ}
use Rattle.bit_rows.specs.Rows.{IsWordOf}
use Rattle.bit_rows.proofs.RowBits.{no_bits}
use Rattle.bit_rows.proofs.WordBits.{ones_below_place}
use Rattle.grid_rows.specs.declared.planes.EdgeWord.{EdgeWord}
use Rattle.grid_rows.specs.Planes.{no_edge}
use Rattle.layer_scan.specs.RowsOfEdges.{IsEdgeWord, number_at}

-- ---- words of tests that differ, and of a test one place before

xor_bits : (a b : ℕ) → a < 2 → b < 2 → ((a + b) % 2 == 1) ≡ differ (a == 1) (b == 1)
xor_bits zero zero h k = refl
xor_bits zero (suc zero) h k = refl
xor_bits zero (suc (suc b)) h k = absurd (omega arith)
xor_bits (suc zero) zero h k = refl
xor_bits (suc zero) (suc zero) h k = refl
xor_bits (suc zero) (suc (suc b)) h k = absurd (omega arith)
xor_bits (suc (suc a)) b h k = absurd (omega arith)

pub xor_words : (f g : ℕ → Bool) (w a b : ℕ) → IsWordOf f w a → IsWordOf g w b → IsWordOf (λ x. differ (f x) (g x)) w (bit_xor a b)
xor_words f g w a b first second k h =
    ap (λ n. n == 1) (bit_at_xor a b k) ∙ xor_bits (bit_at a k) (bit_at b k) (bit_at-lt a k) (bit_at-lt b k)
    ∙ ap (λ t. differ t (is_set b k)) (first k h) ∙ ap (λ t. differ (f (64 * w + k)) t) (second k h)

pub up_words : (f : ℕ → Bool) (w previous here word : ℕ) → (w ≡ 0 → previous ≡ 0) → (0 < w → IsWordOf f (w - 1) previous) → IsWordOf f w here
    → ((k : ℕ) → k < 63 → is_set word (k + 1) ≡ is_set here k) → is_set word 0 ≡ is_set previous 63
    → IsWordOf (λ x. nat_lt 0 x && f (x - 1)) w word
up_words f w previous here word none some is bits first zero h = elim (cases_lt 0 w) [
  | inl more ↦
      let place : 64 * (w - 1) + 63 ≡ 64 * w + 0 - 1 = omega arith in
      let there : nat_lt 0 (64 * w + 0) ≡ true = of_lt 0 (64 * w + 0) (omega arith) in
      first ∙ some more 63 (omega arith) ∙ ap f place ∙ sym (ap (λ t. t && f (64 * w + 0 - 1)) there)
  | inr all ↦
      let at : w ≡ 0 = omega arith in
      first ∙ ap (λ n. is_set n 63) (none at) ∙ no_bits 63 ∙ sym (ap (λ n. nat_lt 0 (64 * n + 0) && f (64 * n + 0 - 1)) at)
]
up_words f w previous here word none some is bits first (suc k) h =
    let after : suc k ≡ k + 1 = omega arith in
    let place : 64 * w + k ≡ 64 * w + suc k - 1 = omega arith in
    let there : nat_lt 0 (64 * w + suc k) ≡ true = of_lt 0 (64 * w + suc k) (omega arith) in
    ap (is_set word) after ∙ bits k (omega arith) ∙ is k (omega arith) ∙ ap f place ∙ sym (ap (λ t. t && f (64 * w + suc k - 1)) there)

-- ---- how many pass

-- among the first places of a word
pub counted_places : (f : ℕ → Bool) (w word n : ℕ) → IsWordOf f w word → n ≤ 64
    → count_by f (numbers (64 * w + n)) ≡ count_by f (numbers (64 * w)) + count_by (is_set word) (numbers n)
counted_places f w word zero is h =
    let same : 64 * w + 0 ≡ 64 * w = omega arith in
    let none : count_by f (numbers (64 * w)) ≡ count_by f (numbers (64 * w)) + 0 = omega arith in
    ap (λ m. count_by f (numbers m)) same ∙ none
counted_places f w word (suc n) is h =
    let next : 64 * w + suc n ≡ suc (64 * w + n) = omega arith in
    let before : ℕ = count_by f (numbers (64 * w)) in
    let within : ℕ = count_by (is_set word) (numbers n) in
    let here : ℕ = cond (is_set word (0 + n)) 1 0 in
    let place : 0 + (64 * w + n) ≡ 64 * w + n = omega arith in
    let own : n ≡ 0 + n = omega arith in
    let bit : cond (f (0 + (64 * w + n))) 1 0 ≡ here =
    ap (λ b. cond b 1 0) (ap f place ∙ sym (is n (omega arith)) ∙ ap (is_set word) own) in
    let turned : before + within + here ≡ before + (within + here) = omega arith in
    ap (λ m. count_by f (numbers m)) next ∙ sum_suc (λ x. cond (f x) 1 0) 0 (64 * w + n)
    ∙ ap (λ m. m + cond (f (0 + (64 * w + n))) 1 0) (counted_places f w word n is (omega arith))
    ∙ ap (λ m. before + within + m) bit ∙ turned ∙ ap (λ m. before + m) (sym (sum_suc (λ k. cond (is_set word k) 1 0) 0 n))

ones_of_word : (word n : ℕ) → word < 2 ^ n → count_ones word ≡ count_by (is_set word) (numbers n)
ones_of_word word n h = ap count_ones (sym (and_mask word n ∙ mod-eq_of_lt h)) ∙ ones_below_place word n

counted_word : (f : ℕ → Bool) (w word n : ℕ) → n ≤ 64 → word < 2 ^ n → IsWordOf f w word
    → count_by f (numbers (64 * w + n)) ≡ count_by f (numbers (64 * w)) + count_ones word
counted_word f w word n few fits is =
    counted_places f w word n is few ∙ ap (λ m. count_by f (numbers (64 * w)) + m) (sym (ones_of_word word n fits))

-- the number after a word
pub after_word : (f g : ℕ → Bool) (count w first second : ℕ) → first < 2 ^ 64 → second < 2 ^ 64 → IsWordOf f w first → IsWordOf g w second
    → number_at f g count (64 * (w + 1)) ≡ number_at f g count (64 * w) + (count_ones first + count_ones second)
after_word f g count w first second h k is are =
    let next : 64 * (w + 1) ≡ 64 * w + 64 = omega arith in
    let a : ℕ = count_by f (numbers (64 * w)) in
    let b : ℕ = count_by g (numbers (64 * w)) in
    let turned : count + ((a + count_ones first) + (b + count_ones second)) ≡ count + (a + b) + (count_ones first + count_ones second) = omega arith in
    ap (number_at f g count) next
    ∙ ap (λ m. count + (m + count_by g (numbers (64 * w + 64)))) (counted_word f w first 64 (omega arith) h is)
    ∙ ap (λ m. count + ((a + count_ones first) + m)) (counted_word g w second 64 (omega arith) k are) ∙ turned

-- sums and counts grow
pub sum_grows : (f : ℕ → ℕ) (a b : ℕ) → sum_by f (numbers a) ≤ sum_by f (numbers (a + b))
sum_grows f a zero =
    let same : a + 0 ≡ a = omega arith in
    subst (λ (m : ℕ). sum_by f (numbers a) ≤ sum_by f (numbers m)) (sym same) (omega arith)
sum_grows f a (suc b) =
    let next : suc (a + b) ≡ a + suc b = omega arith in
    let before : sum_by f (numbers a) ≤ sum_by f (numbers (a + b)) = sum_grows f a b in
    let more = sum_suc f 0 (a + b) in
    let longer : sum_by f (numbers (a + b)) ≤ sum_by f (numbers (suc (a + b))) = omega (arith, more) in
    subst (λ (m : ℕ). sum_by f (numbers a) ≤ sum_by f (numbers m)) next (omega (arith, before, longer))

count_grows : (f : ℕ → Bool) (a b : ℕ) → count_by f (numbers a) ≤ count_by f (numbers (a + b))
count_grows f a b = sum_grows (λ x. cond (f x) 1 0) a b

pub number_grows : (f g : ℕ → Bool) (count a b : ℕ) → a ≤ b → number_at f g count a ≤ number_at f g count b
number_grows f g count a b h =
    let whole : a + (b - a) ≡ b = omega arith in
    let first : count_by f (numbers a) ≤ count_by f (numbers b) =
    subst (λ (m : ℕ). count_by f (numbers a) ≤ count_by f (numbers m)) whole (count_grows f a (b - a)) in
    let second : count_by g (numbers a) ≤ count_by g (numbers b) =
    subst (λ (m : ℕ). count_by g (numbers a) ≤ count_by g (numbers m)) whole (count_grows g a (b - a)) in
    omega (arith, first, second)

pub below_most : (a b c : ℕ) → a ≤ b → b < c → a < c
below_most a b c h k = omega arith

-- the number after a word of a row stays below what the number after the row does
pub fits_after : (f g : ℕ → Bool) (start w n count first second limit : ℕ) → count ≡ number_at f g start (64 * w) → w < n
    → first < 2 ^ 64 → second < 2 ^ 64 → IsWordOf f w first → IsWordOf g w second → number_at f g start (64 * n) < limit
    → count + (count_ones first + count_ones second) < limit
fits_after f g start w n count first second limit counted lt h k is are few =
    let at : count + (count_ones first + count_ones second) ≡ number_at f g start (64 * (w + 1)) =
    ap (λ m. m + (count_ones first + count_ones second)) counted ∙ sym (after_word f g start w first second h k is are) in
    let most : number_at f g start (64 * (w + 1)) ≤ number_at f g start (64 * n) = number_grows f g start (64 * (w + 1)) (64 * n) (omega (arith, lt)) in
    subst (λ (m : ℕ). m < limit) (sym at) (below_most (number_at f g start (64 * (w + 1))) (number_at f g start (64 * n)) limit most few)

-- ---- rows as far as they are written

pub record AreBefore (f g : ℕ → Bool) (start w : ℕ) (row : List EdgeWord) (count : ℕ) : Type 0 where
  pub done : (j : ℕ) → j < w → IsEdgeWord f g start j (slice_index_or row j no_edge)
  pub counted : count ≡ number_at f g start (64 * w)

pub one_more_edges : (f g : ℕ → Bool) (start w first second count : ℕ) (row : List EdgeWord) → AreBefore f g start w row count → w < length row
    → first < 2 ^ 64 → second < 2 ^ 64 → IsWordOf f w first → IsWordOf g w second
    → AreBefore f g start (w + 1) (slice_set row w (record { first = first; second = second; before = count }))
    (count + (count_ones first + count_ones second))
one_more_edges f g start w first second count row before within h k is are = record {
  done = λ j lt. by_order j (cases_lt j w) lt;
  counted = ap (λ n. n + (count_ones first + count_ones second)) before.counted ∙ sym (after_word f g start w first second h k is are);
}
  where
    word : EdgeWord
    word = record { first = first; second = second; before = count }

    by_order : (j : ℕ) → (j < w) ⊎ (w ≤ j) → j < w + 1 → IsEdgeWord f g start j (slice_index_or (slice_set row w word) j no_edge)
    by_order j (inl less) lt =
        let other : j ≢ w = λ e. omega (arith, e, less) in
        subst (λ (u : EdgeWord). IsEdgeWord f g start j u) (sym (get_or-set_other row w j word no_edge other)) (before.done j less)
    by_order j (inr more) lt =
        let same : w ≡ j = omega (arith, more, lt) in
        let own : IsEdgeWord f g start w (slice_index_or (slice_set row w word) w no_edge) =
        subst (λ (u : EdgeWord). IsEdgeWord f g start w u) (sym (get_or-set_same row w word no_edge within)) (is, are, before.counted) in
        subst (λ (i : ℕ). IsEdgeWord f g start i (slice_index_or (slice_set row w word) i no_edge)) same own

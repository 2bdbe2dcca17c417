-- Words whose bits are set one by one.
use Rattle.std.proofs.Common.{ap, arith, sym, ◌∙◌, inl, inr}
use Rattle.std.proofs.lemmas.Bool.{cases_eq, cases_lt, eq-eqb, ne_eqb}
use Rattle.std.specs.Prelude.{Bool, false, nat_lt, true, ℕ, ◌&&◌, ◌||◌, ◌+◌, ◌<◌, ◌≤◌, ◌==◌, ◌≡◌, ◌≢◌, ◌⊎◌}
use Rattle.lists.specs.Bits.{is_set}
use Rattle.lists.proofs.Tests.{lt_of, of_lt, or_false, same_tests, not_below}
use Rattle.bit_rows.proofs.RowBits.{no_bits}

-- the bits below a place say which places pass, and no other bit is set
abbrev pub AreSetBelow : (ℕ → Bool) → ℕ → ℕ → Type 0
AreSetBelow passes place word = (k : ℕ) → k < 64 → is_set word k ≡ (nat_lt k place && passes k)

pub none_set_below : (passes : ℕ → Bool) → AreSetBelow passes 0 0
none_set_below passes k h =
    no_bits k ∙ sym (ap (λ t. t && passes k) (not_below k 0 (omega arith)))

pub one_more_set : (passes : ℕ → Bool) (place word after : ℕ) → AreSetBelow passes place word
    → ((k : ℕ) → k < 64 → is_set after k ≡ (is_set word k || ((k == place) && passes place))) → AreSetBelow passes (place + 1) after
one_more_set passes place word after before added k low =
    added k low ∙ ap (λ t. t || ((k == place) && passes place)) (before k low) ∙ by_case (cases_eq k place)
  where
    by_case : (k ≡ place) ⊎ (k ≢ place) → ((nat_lt k place && passes k) || ((k == place) && passes place)) ≡ (nat_lt k (place + 1) && passes k)
    by_case (inl e) =
        let past : nat_lt k place ≡ false = not_below k place (omega (arith, e)) in
        let within : nat_lt k (place + 1) ≡ true = of_lt k (place + 1) (omega (arith, e)) in
        ap (λ t. (t && passes k) || ((k == place) && passes place)) past ∙ ap (λ t. t && passes place) (eq-eqb k place e)
        ∙ ap passes (sym e) ∙ sym (ap (λ t. t && passes k) within)
    by_case (inr e) =
        let same : nat_lt k place ≡ nat_lt k (place + 1) = same_tests (nat_lt k place) (nat_lt k (place + 1))
        (λ t. let lt = lt_of k place t in of_lt k (place + 1) (omega arith))
        (λ t. let lt = lt_of k (place + 1) t in of_lt k place (strictly lt (cases_lt k place))) in
        ap (λ t. (nat_lt k place && passes k) || (t && passes place)) (ne_eqb k place e) ∙ or_false (nat_lt k place && passes k)
        ∙ ap (λ t. t && passes k) same
      where
        strictly : k < place + 1 → (k < place) ⊎ (place ≤ k) → k < place
        strictly lt (inl less) = less
        strictly lt (inr more) = absurd (e (omega (arith, lt, more)))

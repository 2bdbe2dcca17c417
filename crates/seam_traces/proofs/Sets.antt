-- Sets of numbers as numbers, and by places in a list.
use Rattle.std.specs.Prelude.{◌≡◌, ℕ, ◌+◌, ◌*◌, ◌^◌, ◌<◌, ◌≤◌, bit_and, Bool, true, false}
use Rattle.std.specs.Prelude.{List, [], ◌∷◌, map, filter, if◌then◌else◌}
use Rattle.std.proofs.Common.{refl, sym, ap, ◌∙◌, arith, inl, inr}
use Rattle.std.proofs.lemmas.Bool.{cases_eq, cases_lt}
use Rattle.std.proofs.Math.Pow.{pow_mono}
use Rattle.seam_traces.specs.Traces.{number_of_bits, places}
use Rattle.lists.specs.Bits.{is_set, set_number}
use Rattle.lists.specs.Members.{In, Ascends}
use Rattle.lists.proofs.Bits.{set_number-cons, twice_power}
use Rattle.lists.proofs.Bits.{part_of_set}

-- ---- bits

-- ---- parts of a list

-- ---- sets by their places in an ascending list

same_part : (p q : ℕ → Bool) (es : List ℕ) → number_of_bits (map p es) ≡ number_of_bits (map q es) → set_number (filter p es) ≡ set_number (filter q es)
same_part p q [] h = refl
same_part p q (e ∷ es) h = by (p e) (q e) h (same_part p q es)
  where
    by : (a b : Bool) → number_of_bits (a ∷ map p es) ≡ number_of_bits (b ∷ map q es)
        → (number_of_bits (map p es) ≡ number_of_bits (map q es) → set_number (filter p es) ≡ set_number (filter q es))
        → set_number (if a then e ∷ filter p es else filter p es) ≡ set_number (if b then e ∷ filter q es else filter q es)
    by true true h r = set_number-cons e (filter p es) ∙ ap (λ n. 2 ^ e + n) (r (omega arith)) ∙ sym (set_number-cons e (filter q es))
    by true false h r = absurd (omega arith)
    by false true h r = absurd (omega arith)
    by false false h r = r (omega arith)

-- a part that is less by places is less as a number, and by as much as the least member may give
gap : (p q : ℕ → Bool) (m : ℕ) (es : List ℕ) → Ascends es → ((y : ℕ) → In y es → m ≤ y) → number_of_bits (map p es) < number_of_bits (map q es)
    → set_number (filter p es) + 2 ^ m ≤ set_number (filter q es)
gap p q m [] a least h = absurd (omega arith)
gap p q m (e ∷ es) a least h =
    by (p e) (q e) h (λ less. let g = gap p q (e + 1) es a.1 (λ y i. let above = a.0 y i in omega arith) less in omega (arith, g, twice_power e))
    (pow_mono (least e (inl refl)))
  where
    by : (s t : Bool) → number_of_bits (s ∷ map p es) < number_of_bits (t ∷ map q es)
        → (number_of_bits (map p es) < number_of_bits (map q es) → set_number (filter p es) + 2 * 2 ^ e ≤ set_number (filter q es)) → 2 ^ m ≤ 2 ^ e
        → set_number (if s then e ∷ filter p es else filter p es) + 2 ^ m ≤ set_number (if t then e ∷ filter q es else filter q es)
    by true true h more low = omega (arith, more (omega arith), set_number-cons e (filter p es), set_number-cons e (filter q es))
    by true false h more low = omega (arith, more (omega arith), set_number-cons e (filter p es))
    by false true h more low = elim (cases_eq (number_of_bits (map p es)) (number_of_bits (map q es))) [
      | inl same ↦ omega (arith, same_part p q es same, set_number-cons e (filter q es))
      | inr other ↦ omega (arith, more (omega arith), set_number-cons e (filter q es))
    ]
    by false false h more low = omega (arith, more (omega arith))

pub own_part : (es : List ℕ) → Ascends es → (a : ℕ) → bit_and a (set_number es) ≡ a → set_number (filter (is_set a) es) ≡ a
own_part es up a within = sym (part_of_set es up a) ∙ within

pub places_apart : (es : List ℕ) → Ascends es → (a b : ℕ) → bit_and a (set_number es) ≡ a → bit_and b (set_number es) ≡ b → places es a ≡ places es b → a ≡ b
places_apart es up a b in_a in_b same = sym (own_part es up a in_a) ∙ same_part (is_set a) (is_set b) es same ∙ own_part es up b in_b

pub places_ascend : (es : List ℕ) → Ascends es → (a b : ℕ) → bit_and a (set_number es) ≡ a → bit_and b (set_number es) ≡ b → a < b → places es a < places es b
places_ascend es up a b in_a in_b less = elim (cases_lt (places es a) (places es b)) [
  | inl h ↦ h
  | inr h ↦ elim (cases_eq (places es a) (places es b)) [
    | inl same ↦ absurd (let e = places_apart es up a b in_a in_b same in omega arith)
    | inr other ↦ absurd (
        let g = gap (is_set b) (is_set a) 0 es up (λ y i. omega arith) (omega arith) in
        omega (arith, g, own_part es up a in_a, own_part es up b in_b))
  ]
]

-- The places of the bits of a word that are set: none of 0, and else the lowest, and then those of the word without it.
use Rattle.std.proofs.Common.{ap, arith, inl, inr, sym, subst, ◌∙◌}
use Rattle.std.proofs.lemmas.Bool.{cases_lt, cases_eq}
use Rattle.std.proofs.lemmas.Nat.Bits.{bit_at-zero, bit_at-trailing_zeros, bit_at_clear_same, bit_at_clear_other}
use Rattle.std.specs.Int.{bit_at, bit_not, trailing_zeros, w64}
use Rattle.std.specs.Prelude.{[], ◌∷◌, bit_and, ℕ, ◌%◌, ◌*◌, ◌<◌, ◌≤◌, ◌==◌, ◌^◌, ◌≡◌, ◌≢◌}
use Rattle.lists.specs.Members.{In, Ascends}
use Rattle.lists.specs.Orders.{numbers}
use Rattle.lists.proofs.Ascending.{Ascends-range, Ascends-filter, same_members}
use Rattle.lists.proofs.MemberLaws.{In-filter, from_filter, In-numbers, from_In-numbers}
use Rattle.lists.proofs.Tests.{equal_of, of_equal}
use Rattle.bit_rows.specs.Rows.{places}

pub places-ascend : (n : ℕ) → Ascends (places n)
unfolding places
places-ascend n = Ascends-filter (λ i. bit_at n i == 1) (numbers 64) (Ascends-range 0 64)

-- a place below 64 is one where its bit is set
pub to_places : (n i : ℕ) → i < 64 → bit_at n i ≡ 1 → In i (places n)
unfolding places
to_places n i h e = In-filter (λ k. bit_at n k == 1) (numbers 64) i (In-numbers 64 i h) (of_equal (bit_at n i) 1 e)

pub of_places : (n i : ℕ) → In i (places n) → (i < 64) × (bit_at n i ≡ 1)
unfolding places
of_places n i m =
    let both = from_filter (λ k. bit_at n k == 1) (numbers 64) i m in
    (from_In-numbers 64 i both.0, equal_of (bit_at n i) 1 both.1)

pub no_places : places 0 ≡ []
no_places = same_members (places 0) [] (places-ascend 0) tt
    (λ z m. let set = of_places 0 z m in absurd (let none = bit_at-zero z in omega (arith, set.1, none)))
    (λ z m. absurd m)

-- a word without the bit at place t
abbrev pub cleared : ℕ → ℕ → ℕ
cleared n t = bit_and n (bit_not w64 (1 * 2 ^ t % 2 ^ 64))

stays : (n t i : ℕ) → t < 64 → i < 64 → i ≢ t → bit_at (cleared n t) i ≡ bit_at n i
stays n t i h low other = bit_at_clear_other w64 n t h i low other

goes : (n t : ℕ) → t < 64 → bit_at (cleared n t) t ≡ 0
goes n t h = bit_at_clear_same w64 n t h

-- the places of a word whose lowest bit is at t
pub places_from : (n t : ℕ) → t < 64 → bit_at n t ≡ 1 → ((i : ℕ) → i < t → bit_at n i ≡ 0) → places n ≡ t ∷ places (cleared n t)
places_from n t h set low = same_members (places n) (t ∷ places (cleared n t)) (places-ascend n) (above, places-ascend (cleared n t)) there back
  where
    not_it : (i : ℕ) → In i (places (cleared n t)) → i ≢ t
    not_it i m e = let one = (of_places (cleared n t) i m).1 in let none = ap (bit_at (cleared n t)) e ∙ goes n t h in omega (arith, one, none)

    still : (i : ℕ) → In i (places (cleared n t)) → bit_at n i ≡ 1
    still i m = let is = of_places (cleared n t) i m in sym (stays n t i h is.0 (not_it i m)) ∙ is.1

    further : (i k : ℕ) → k ≤ i → i ≢ k → k < i
    further i k le other = elim (cases_lt k i) [ inl lt ↦ lt | inr ge ↦ absurd (other (omega arith)) ]

    above : (i : ℕ) → In i (places (cleared n t)) → t < i
    above i m = elim (cases_lt i t) [
      | inl below ↦ absurd (let none = low i below in let one = still i m in omega (arith, none, one))
      | inr from ↦ elim (cases_eq i t) [ inl e ↦ absurd (not_it i m e) | inr other ↦ further i t from other ]
    ]

    there : (i : ℕ) → In i (places n) → In i (t ∷ places (cleared n t))
    there i m =
        let is = of_places n i m in
        elim (cases_eq i t) [
          | inl e ↦ inl e
          | inr other ↦ inr (to_places (cleared n t) i is.0 (stays n t i h is.0 other ∙ is.1))
        ]

    back : (i : ℕ) → In i (t ∷ places (cleared n t)) → In i (places n)
    back i (inl e) = subst (λ k. In k (places n)) (sym e) (to_places n t h set)
    back i (inr m) = to_places n i (of_places (cleared n t) i m).0 (still i m)

pub next_places : (n : ℕ) → 0 < n → n < 2 ^ 64 → places n ≡ trailing_zeros w64 n ∷ places (cleared n (trailing_zeros w64 n))
next_places n some fits =
    let is = bit_at-trailing_zeros w64 n some fits in
    places_from n (trailing_zeros w64 n) is.0 is.1 is.2

pub positive : (n : ℕ) → (n ≡ 0 → ⊥) → 0 < n
positive n some = elim (cases_lt 0 n) [ inl lt ↦ lt | inr none ↦ absurd (some (omega arith)) ]

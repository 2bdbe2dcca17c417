-- Numbers by their bits.
use Rattle.std.proofs.Common.{◌≡◌, ℕ, zero, suc, ◌+◌, ◌-◌, ◌^◌, ◌<◌, Bool, refl, ap, sym, ◌∙◌, subst, arith}
use Rattle.std.specs.Prelude.{if◌then◌else◌, ◌==◌}
use Rattle.std.specs.Int.{bit_at}
use Rattle.std.proofs.lemmas.Nat.Bits.{bit_at_cat_low, bit_at_cat_high}
use Rattle.cube_cells.specs.CubePoints.{set_of}
use Rattle.lists.specs.Bits.{is_set}
use Rattle.lists.proofs.Powers.{powers_more, powers_few, as_product, one_bit, powers_bits}
use Rattle.lists.proofs.Bits.{bit_is_test}

-- one bit more
pub next_bit : (F : ℕ → Bool) (n number next : ℕ) (b : Bool) → number ≡ set_of F n → b ≡ F n → next ≡ number + (if b then 2 ^ n else 0)
    → next ≡ set_of F (n + 1)
next_bit F n number next b is bit_is next_is =
    next_is ∙ ap (λ (s : ℕ). s + (if b then 2 ^ n else 0)) is ∙ ap (λ (c : Bool). set_of F n + (if c then 2 ^ n else 0)) bit_is ∙ sym (powers_more F n)

pub few_bits : (F : ℕ → Bool) (n number : ℕ) → number ≡ set_of F n → number < 2 ^ n
few_bits F n number is = subst (λ (s : ℕ). s < 2 ^ n) (sym is) (powers_few F n)

-- a bit is set where the test holds
pub bit_is_set : (F : ℕ → Bool) (n number k : ℕ) → number ≡ set_of F n → k < n → is_set number k ≡ F k
bit_is_set F n number k is h = bit_is_test (F k) (bit_at number k) (ap (λ (s : ℕ). bit_at s k) is ∙ powers_bits F n k h)

-- with a bit above them all, the bits below stay as they are
pub low_bit : (n number next k : ℕ) (b : Bool) → next ≡ number + (if b then 2 ^ n else 0) → k < n → is_set next k ≡ is_set number k
low_bit n number next k b next_is h =
    ap (λ (s : ℕ). bit_at s k == 1) (next_is ∙ as_product b n number) ∙ ap (λ (s : ℕ). s == 1) (bit_at_cat_low (if b then 1 else 0) n number k h)

pub top_bit : (n number next : ℕ) (b : Bool) → number < 2 ^ n → next ≡ number + (if b then 2 ^ n else 0) → is_set next n ≡ b
top_bit n number next b few next_is =
    let none : n - n ≡ 0 = omega arith in
    bit_is_test b (bit_at next n)
    (ap (λ (s : ℕ). bit_at s n) (next_is ∙ as_product b n number) ∙ bit_at_cat_high (if b then 1 else 0) n number n few (omega arith)
    ∙ ap (bit_at (if b then 1 else 0)) none ∙ one_bit b)

-- the same tests make the same number
pub same_bits : (F G : ℕ → Bool) (n : ℕ) → ((k : ℕ) → k < n → F k ≡ G k) → set_of F n ≡ set_of G n
same_bits F G zero same = refl
same_bits F G (suc n) same =
    let next : suc n ≡ n + 1 = omega arith in
    ap (set_of F) next ∙ powers_more F n
    ∙ ap (λ (s : ℕ). s + (if F n then 2 ^ n else 0)) (same_bits F G n (λ k h. same k (omega (arith, h))))
    ∙ ap (λ (b : Bool). set_of G n + (if b then 2 ^ n else 0)) (same n (omega arith))
    ∙ sym (powers_more G n) ∙ ap (set_of G) (sym next)

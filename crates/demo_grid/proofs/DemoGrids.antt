-- The grid of the demonstration has as many samples as the power of its size says, and is regular.
use Rattle.std.proofs.Common.{◌≡◌, ℕ, zero, suc, ◌+◌, ◌*◌, ◌/◌, ◌^◌, ◌<◌, ◌≤◌, List, [], ◌∷◌, ℤ, pos, length, map, refl, sym, ap, ◌∙◌, arith, rules}
use Rattle.std.proofs.Common.{append_assoc}
use Rattle.std.specs.Prelude.{fold, replicate, All, neg_ℤ, ◌≤ℤ◌, ◌-◌, ◌++◌, take}
use Rattle.std.proofs.Math.Nat.{pow-zero, pow-succ', mul_assoc, one-le-mul, le-mul_of_pos_right}
use Rattle.std.proofs.lemmas.List.{length-map, length-replicate, take-replicate}
use Rattle.std.proofs.lemmas.List.Elements.{All-nil, All-cons, All-map, All-replicate, All-weaker}
use Rattle.iso_model.specs.Values.{product, IsRegularGrid}
use Rattle.iso_formats.specs.Demo.{next_number, numbers_after, demo_grid}

-- ---- how many samples

times_power : (n size a : ℕ) → fold ◌*◌ a (replicate n size) ≡ a * size ^ n
times_power zero size a = rw (pow-zero size) (omega arith)
times_power (suc n) size a = times_power n size (a * size) ∙ mul_assoc a size (size ^ n) ∙ ap (λ k. a * k) (sym (pow-succ' size n))

-- the product of n equal sizes
pub product-equal : (n size : ℕ) → product (replicate n size) ≡ size ^ n
product-equal n size = times_power n size 1 ∙ omega arith

pub length-numbers_after : (n x : ℕ) → length (numbers_after n x) ≡ n
length-numbers_after zero x = refl
length-numbers_after (suc n) x = ap suc (length-numbers_after n (next_number x))

-- ---- the grid is regular

one_or_more : (n size : ℕ) → 1 ≤ size → 1 ≤ size ^ n
one_or_more zero size h = rw (pow-zero size) (omega arith)
one_or_more (suc n) size h = rw (pow-succ' size n) (one-le-mul h (one_or_more n size h))

-- a size is at most its powers
within_power : (n size : ℕ) → 1 ≤ n → 1 ≤ size → size ≤ size ^ n
within_power zero size above h = absurd (omega (arith, above))
within_power (suc n) size above h = rw (pow-succ' size n) (le-mul_of_pos_right size (omega (arith, one_or_more n size h)))

-- numbers of the sequence have 32 bits
all_short : (n x : ℕ) → All (λ y. y < 2 ^ 32) (numbers_after n x)
all_short zero x = All-nil (λ y. y < 2 ^ 32)
all_short (suc n) x = All-cons (λ y. y < 2 ^ 32) (next_number x) (numbers_after n (next_number x)) (omega arith) (all_short n (next_number x))

high_bits : (y : ℕ) → y < 2 ^ 32 → (neg_ℤ (pos (2 ^ 31)) ≤ℤ pos (y / 2 ^ 24)) × (pos (y / 2 ^ 24) ≤ℤ pos (2 ^ 32 - 1))
high_bits y h = let small : y / 2 ^ 24 ≤ 255 = omega (arith, h) in (omega arith, search (rules, small))

pub demo_regular : (d size seed : ℕ) → 2 ≤ d → d ≤ 4 → 1 ≤ size → size ^ d ≤ 2 ^ 27 → IsRegularGrid (demo_grid d size seed)
demo_regular d size seed two four one few =
    let count = product-equal d size in
    let below = within_power d size (omega (arith, two)) one in
    let n = product (replicate d size) in
    let numbers = numbers_after n seed in
    record {
      two_axes = rw (length-replicate d size) two;
      four_axes = rw (length-replicate d size) four;
      sized = All-replicate (λ n. (1 ≤ n) × (n ≤ 4294967295)) d size (one, omega (arith, below, few));
      few = rw count few;
      all_there = length-map numbers (λ y. pos (y / 2 ^ 24)) ∙ length-numbers_after n seed;
      in_range = All-map (λ s. (neg_ℤ (pos (2 ^ 31)) ≤ℤ s) × (s ≤ℤ pos (2 ^ 32 - 1))) (λ y. pos (y / 2 ^ 24)) numbers
          (All-weaker (λ y. y < 2 ^ 32) _ high_bits numbers (all_short n seed));
    }

-- ---- sample after sample

-- the samples so far and those of the numbers after x are all, also after one sample more
pub one_more : (samples all : List ℤ) (n i x : ℕ) → i < n → samples ++ map (λ y. pos (y / 2 ^ 24)) (numbers_after (n - i) x) ≡ all
    → (samples ++ pos (next_number x / 2 ^ 24) ∷ []) ++ map (λ y. pos (y / 2 ^ 24)) (numbers_after (n - (i + 1)) (next_number x)) ≡ all
one_more samples all n i x h e =
    let left : n - i ≡ suc (n - (i + 1)) = omega (arith, h) in
    append_assoc samples _ _ ∙ rw left at e

-- sizes and samples that are those of the demonstration
pub are_demo : (d size seed : ℕ) (samples : List ℤ) → d ≤ 4 → samples ≡ map (λ y. pos (y / 2 ^ 24)) (numbers_after (size ^ d) seed)
    → demo_grid d size seed ≡ record { sizes = take d (replicate 4 size); samples = samples }
are_demo d size seed samples h e = rw (take-replicate d 4 size h, product-equal d size, e) refl

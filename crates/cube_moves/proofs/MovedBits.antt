-- The bits of a moved corner, and moves that follow each other.
use Rattle.std.specs.Prelude.{◌≡◌, ℕ, zero, suc, ◌+◌, ◌-◌, ◌*◌, ◌%◌, ◌^◌, ◌<◌, ◌≤◌, Bool, true, false, nat_lt, sum_by, List, [], ◌∷◌, ◌++◌, slice_index}
use Rattle.std.specs.List.{range_with_len}
use Rattle.std.specs.Int.{bit_at}
use Rattle.std.proofs.Common.{refl, sym, ap, ◌∙◌, arith}
use Rattle.std.proofs.lemmas.Bool.Decides.{nat_tests}
use Rattle.std.proofs.lemmas.List.FromFn.{get_or-range_with_len}
use Rattle.std.proofs.lemmas.List.Sums.{sum_by_push}
use Rattle.std.proofs.lemmas.Nat.Bits.{bit_at_cat_low, bit_at_cat_high, bit_at-lt, bit_at-zero, same_from_bits_below}
use Rattle.iso_model.specs.Moves.{Move, move_corner}
use Rattle.lists.specs.Orders.{numbers}

-- ---- a number by its digits

range_more : (a n : ℕ) → range_with_len a (suc n) ≡ range_with_len a n ++ ((a + n) ∷ [])
range_more a zero = let e : a ≡ a + 0 = omega arith in ap (λ (k : ℕ). k ∷ []) e
range_more a (suc n) =
    let e : a + 1 + n ≡ a + suc n = omega arith in
    ap (λ (xs : List ℕ). a ∷ xs) (range_more (a + 1) n ∙ ap (λ (k : ℕ). range_with_len (a + 1) n ++ (k ∷ [])) e)

pub numbers_more : (n : ℕ) → numbers (suc n) ≡ numbers n ++ (n ∷ [])
numbers_more n = let z : 0 + n ≡ n = omega arith in range_more 0 n ∙ ap (λ (k : ℕ). numbers n ++ (k ∷ [])) z

-- the number with these digits
abbrev pub digits : (ℕ → ℕ) → ℕ → ℕ
digits g n = sum_by (λ i. 2 ^ i * g i) (numbers n)

pub digits-more : (g : ℕ → ℕ) (n : ℕ) → digits g (suc n) ≡ g n * 2 ^ n + digits g n
digits-more g n =
    ap (sum_by (λ i. 2 ^ i * g i)) (numbers_more n) ∙ sum_by_push (λ i. 2 ^ i * g i) (numbers n) n ∙ grind arith

pub digits-below : (g : ℕ → ℕ) → ((i : ℕ) → g i < 2) → (n : ℕ) → digits g n < 2 ^ n
digits-below g small zero = omega arith
digits-below g small (suc n) =
    let e = digits-more g n in
    let h = digits-below g small n in
    let p : 2 ^ suc n ≡ 2 ^ n + 2 ^ n = omega arith in
    let q = at_most (g n) (2 ^ n) (small n) in
    omega arith
  where
    at_most : (b w : ℕ) → b < 2 → b * w ≤ w
    at_most zero w k = omega arith
    at_most (suc zero) w k = omega arith
    at_most (suc (suc b)) w k = absurd (omega arith)

pub digits-bit : (g : ℕ → ℕ) → ((i : ℕ) → g i < 2) → (n i : ℕ) → i < n → bit_at (digits g n) i ≡ g i
digits-bit g small zero i h = absurd (omega arith)
digits-bit g small (suc n) i h = ap (λ (m : ℕ). bit_at m i) (digits-more g n) ∙ by_place (digits-bit g small n i) (nat_lt i n) refl
  where
    one_digit : (b : ℕ) → b < 2 → bit_at b 0 ≡ b
    one_digit zero k = refl
    one_digit (suc zero) k = refl
    one_digit (suc (suc b)) k = absurd (omega arith)

    by_place : (i < n → bit_at (digits g n) i ≡ g i) → (t : Bool) → nat_lt i n ≡ t → bit_at (g n * 2 ^ n + digits g n) i ≡ g i
    by_place behind true e = let k : i < n = grind (arith, nat_tests) in bit_at_cat_low (g n) n (digits g n) i k ∙ behind k
    by_place behind false e =
        let s : i ≡ n = grind (arith, nat_tests) in
        let z : i - n ≡ 0 = omega arith in
        bit_at_cat_high (g n) n (digits g n) i (digits-below g small n) (omega arith) ∙ ap (bit_at (g n)) z ∙ one_digit (g n) (small n) ∙ ap g (sym s)

-- ---- the bits of a moved corner

-- bit i of the moved corner
abbrev pub moved_digit : Move → ℕ → ℕ → ℕ
moved_digit by k i = (bit_at k (slice_index by.axes i) + bit_at by.flips i) % 2

pub digit-lt : (by : Move) (k i : ℕ) → moved_digit by k i < 2
digit-lt by k i = omega arith

pub corner-below : (d : ℕ) (by : Move) (k : ℕ) → move_corner d by k < 2 ^ d
corner-below d by k = digits-below (moved_digit by k) (digit-lt by k) d

pub corner-bit : (d : ℕ) (by : Move) (k i : ℕ) → i < d → bit_at (move_corner d by k) i ≡ moved_digit by k i
corner-bit d by k i h = digits-bit (moved_digit by k) (digit-lt by k) d i h

-- ---- the order of the axes first, then the flips

-- flips of the axes in their order
abbrev pub flips_alone : ℕ → ℕ → Move
flips_alone d f = record { axes = numbers d; flips = f }

-- an order of the axes without flips
abbrev pub order_alone : List ℕ → Move
order_alone axes = record { axes = axes; flips = 0 }

abbrev pub with_flips : List ℕ → ℕ → Move
with_flips axes f = record { axes = axes; flips = f }

pub flip-bit : (d f c i : ℕ) → i < d → bit_at (move_corner d (flips_alone d f) c) i ≡ (bit_at c i + bit_at f i) % 2
flip-bit d f c i h =
    let e : slice_index (numbers d) i ≡ i = get_or-range_with_len 0 d i 0 h ∙ omega arith in
    corner-bit d (flips_alone d f) c i h ∙ ap (λ (a : ℕ). (bit_at c a + bit_at f i) % 2) e

pub order_then_flips : (d : ℕ) (axes : List ℕ) (f k : ℕ) → move_corner d (flips_alone d f) (move_corner d (order_alone axes) k)
    ≡ move_corner d (with_flips axes f) k
order_then_flips d axes f k =
    same_from_bits_below d _ _ (corner-below d (flips_alone d f) (move_corner d (order_alone axes) k)) (corner-below d (with_flips axes f) k)
    (λ i h. flip-bit d f (move_corner d (order_alone axes) k) i h ∙ ap (λ (b : ℕ). (b + bit_at f i) % 2) (corner-bit d (order_alone axes) k i h) ∙ same i h)
  where
    two_mod : (a z b : ℕ) → z ≡ 0 → ((a + z) % 2 + b) % 2 ≡ (a + b) % 2
    two_mod a z b e = omega arith

    same : (i : ℕ) → i < d → (moved_digit (order_alone axes) k i + bit_at f i) % 2 ≡ bit_at (move_corner d (with_flips axes f) k) i
    same i h =
        let z = bit_at-zero i in
        let e = corner-bit d (with_flips axes f) k i h in
        two_mod (bit_at k (slice_index axes i)) (bit_at 0 i) (bit_at f i) z ∙ sym e

-- flips are undone by themselves
pub flips_undone : (d f c : ℕ) → c < 2 ^ d → move_corner d (flips_alone d f) (move_corner d (flips_alone d f) c) ≡ c
flips_undone d f c h =
    same_from_bits_below d _ _ (corner-below d (flips_alone d f) (move_corner d (flips_alone d f) c)) h
    (λ i k. flip-bit d f (move_corner d (flips_alone d f) c) i k ∙ ap (λ (b : ℕ). (b + bit_at f i) % 2) (flip-bit d f c i k)
    ∙ twice (bit_at c i) (bit_at f i) (bit_at-lt c i))
  where
    twice : (a b : ℕ) → a < 2 → ((a + b) % 2 + b) % 2 ≡ a
    twice a b s = omega arith

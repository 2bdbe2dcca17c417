-- Steps of the signs of points: powers of two in few axes, and the rows of the two slices.
use Rattle.std.proofs.Common.{arith, refl}
use Rattle.std.specs.Prelude.{ℕ, zero, suc, ◌+◌, ◌-◌, ◌*◌, ◌/◌, ◌%◌, ◌≤◌, ◌<◌, ◌^◌, ◌≡◌, All, Bool, true, false, List, length, slice_index_or, if◌then◌else◌}
use Rattle.grid_rows.specs.declared.planes.BitPlane.{BitPlane}
use Rattle.grid_rows.specs.Planes.{HasRowOfBits}

-- ---- powers of two in two to four axes

by_axes : (P : ℕ → Type 0) → P 2 → P 3 → P 4 → (d : ℕ) → 2 ≤ d → d ≤ 4 → P d
by_axes P two three four zero few most = absurd (omega (arith, few))
by_axes P two three four (suc zero) few most = absurd (omega (arith, few))
by_axes P two three four (suc (suc zero)) few most = two
by_axes P two three four (suc (suc (suc zero))) few most = three
by_axes P two three four (suc (suc (suc (suc zero)))) few most = four
by_axes P two three four (suc (suc (suc (suc (suc d))))) few most = absurd (omega (arith, most))

pub side_is : (d : ℕ) → 2 ≤ d → d ≤ 4 → 1 * 2 ^ (d - 1) % 18446744073709551616 ≡ 2 ^ (d - 1)
side_is = by_axes (λ d. 1 * 2 ^ (d - 1) % 18446744073709551616 ≡ 2 ^ (d - 1)) refl refl refl

pub half_is : (d : ℕ) → 2 ≤ d → d ≤ 4 → 1 * 2 ^ (d - 1) % 18446744073709551616 / 2 ≡ 2 ^ (d - 2)
half_is = by_axes (λ d. 1 * 2 ^ (d - 1) % 18446744073709551616 / 2 ≡ 2 ^ (d - 2)) refl refl refl

pub whole_is : (d : ℕ) → 2 ≤ d → d ≤ 4 → 1 * 2 ^ d % 18446744073709551616 ≡ 2 ^ d
whole_is = by_axes (λ d. 1 * 2 ^ d % 18446744073709551616 ≡ 2 ^ d) refl refl refl

pub few_corners : (d : ℕ) → 2 ≤ d → d ≤ 4 → 2 ^ d ≤ 16
few_corners = by_axes (λ d. 2 ^ d ≤ 16) (omega arith) (omega arith) (omega arith)

pub some_rows : (d : ℕ) → 2 ≤ d → d ≤ 4 → 0 < 1 * 2 ^ (d - 1) % 18446744073709551616 / 2
some_rows = by_axes (λ d. 0 < 1 * 2 ^ (d - 1) % 18446744073709551616 / 2) (omega arith) (omega arith) (omega arith)

pub row_below : (d : ℕ) → 2 ≤ d → d ≤ 4 → (k : ℕ) → k / 2 % (1 * 2 ^ (d - 1) % 18446744073709551616 / 2) < 4
row_below = by_axes (λ d. (k : ℕ) → k / 2 % (1 * 2 ^ (d - 1) % 18446744073709551616 / 2) < 4) (λ k. omega arith) (λ k. omega arith) (λ k. omega arith)

-- ---- rows

-- the plane of a corner has its row
pub row_of_slice : (upper lower : BitPlane) (corners : List ℕ) (k : ℕ) (b : Bool) → All (HasRowOfBits lower) corners → All (HasRowOfBits upper) corners
    → k < length corners → HasRowOfBits (if b then lower else upper) (slice_index_or corners k 0)
row_of_slice upper lower corners k true near far inside = near k 0 inside
row_of_slice upper lower corners k false near far inside = far k 0 inside

-- How large the share of an edge is on which its crossing lies.
use Rattle.std.proofs.Common.{◌≡◌, ℕ, ◌+◌, ◌*◌, ◌/◌, ◌<◌, ◌≤◌, true, ℤ, pos, negsuc, ◌-ℤ◌, ◌*ℤ◌, unsigned_abs, arith}
use Rattle.std.proofs.lemmas.Int.{unsigned_abs-mul, ints}
use Rattle.std.proofs.Math.Nat.{mul_comm, mul-le-mul_right}
use Rattle.std.specs.Int.{int_div_euclid}
use Rattle.split_laws.proofs.Coordinates.{quotient_below}
use Rattle.iso_model.specs.Values.{is_positive}
use Rattle.iso_model.specs.Bipolar.{differ}

-- the run along an axis is at most 2
pub scaled_small : (r : ℤ) (s : ℕ) → unsigned_abs r ≤ 2 → unsigned_abs (pos 500000 *ℤ r *ℤ pos s) ≤ 1000000 * s
scaled_small r s h =
    let outer : unsigned_abs (pos 500000 *ℤ r *ℤ pos s) ≡ unsigned_abs (pos 500000 *ℤ r) * s = unsigned_abs-mul (pos 500000 *ℤ r) (pos s) in
    let inner : unsigned_abs (pos 500000 *ℤ r) ≡ 500000 * unsigned_abs r = unsigned_abs-mul (pos 500000) r in
    let few : unsigned_abs (pos 500000 *ℤ r) ≤ 1000000 = omega (arith, inner, h) in
    rw outer (mul-le-mul_right s few)

-- a quotient by a positive number, rounded towards minus infinity
pub quotient_small : (z : ℤ) (t m : ℕ) → 0 < t → unsigned_abs z ≤ m * t → unsigned_abs (int_div_euclid z (pos t)) ≤ m
quotient_small (pos a) t m some h =
    let below : a / t < m + 1 = quotient_below t (m + 1) a (omega (arith, h, some, mul_comm t m)) in
    omega (arith, below)
quotient_small (negsuc a) t m some h =
    let below : a / t < m = quotient_below t m a (omega (arith, h, some, mul_comm t m)) in
    omega (arith, below)

pub share_small : (r : ℤ) (s t : ℕ) → unsigned_abs r ≤ 2 → 0 < t → s ≤ t → unsigned_abs (int_div_euclid (pos 500000 *ℤ r *ℤ pos s) (pos t)) ≤ 1000000
share_small r s t near some between =
    quotient_small (pos 500000 *ℤ r *ℤ pos s) t 1000000 some (omega (arith, scaled_small r s near, between))

-- of two values of which exactly one is positive, 8 times the isovalue lies between them, and they are apart
pub record Between (low high iso : ℤ) : Type 0 where
  pub some : 0 < unsigned_abs (high -ℤ low)
  pub part : unsigned_abs (pos 8 *ℤ iso -ℤ low) ≤ unsigned_abs (high -ℤ low)

pub lies_between : (low high iso : ℤ) → differ (is_positive iso low) (is_positive iso high) ≡ true → Between low high iso
lies_between low high iso h = record { some = grind (arith, ints); part = grind (arith, ints) }

-- Greatest common divisors of whole numbers, and half-spaces in lowest terms.
use Rattle.std.specs.Prelude.{◌≡◌, ℕ, ℤ, pos, ◌*ℤ◌, nat_abs, List, ◌∷◌, map, All}
use Rattle.std.specs.Int.{◌∣◌}

-- the number divides each of them, and every other one that does divides it
pub record IsGreatestDivisor (xs : List ℤ) (g : ℕ) : Type 0 where
  pub divides : All (λ x. g ∣ nat_abs x) xs
  pub greatest : (d : ℕ) → All (λ x. d ∣ nat_abs x) xs → d ∣ g

-- all numbers of the one half-space divided by their greatest common divisor are those of the other; where all are 0 they stay
pub record IsReduced (normal : List ℤ) (bound : ℤ) (to_normal : List ℤ) (to_bound : ℤ) : Type 0 where
  pub divisor : ℕ
  pub greatest : IsGreatestDivisor (bound ∷ normal) divisor
  pub coefficients : normal ≡ map (λ x. pos divisor *ℤ x) to_normal
  pub constant : bound ≡ pos divisor *ℤ to_bound
  pub stays : divisor ≡ 0 → (to_normal ≡ normal) × (to_bound ≡ bound)

-- How the solver is used.
use Rattle.std.specs.Prelude.{◌≡◌, ℤ, pos, ◌+ℤ◌, ◌*ℤ◌, ◌-ℤ◌, [], ◌∷◌}
use Rattle.std.proofs.Common.{refl}
use Rattle.polynomials.proofs.Ring.{ring, ring_above, var, ◌⊕◌, ◌⊖◌, ◌⊗◌, neg}

pub square : (a b : ℤ) → (a +ℤ b) *ℤ (a -ℤ b) ≡ a *ℤ a -ℤ b *ℤ b
square a b = ring (a ∷ b ∷ []) ((var 0 ⊕ var 1) ⊗ (var 0 ⊖ var 1)) (var 0 ⊗ var 0 ⊖ var 1 ⊗ var 1) refl

-- two rows and a normal that is upright to both: the normal is along their cross product
pub along : (n₀ n₁ n₂ v₀ v₁ v₂ w₀ w₁ w₂ : ℤ) → n₀ *ℤ v₀ +ℤ n₁ *ℤ v₁ +ℤ n₂ *ℤ v₂ ≡ pos 0 → n₀ *ℤ w₀ +ℤ n₁ *ℤ w₁ +ℤ n₂ *ℤ w₂ ≡ pos 0
    → n₀ *ℤ (v₂ *ℤ w₀ -ℤ v₀ *ℤ w₂) ≡ n₁ *ℤ (v₁ *ℤ w₂ -ℤ v₂ *ℤ w₁)
along n₀ n₁ n₂ v₀ v₁ v₂ w₀ w₁ w₂ p q =
    ring_above (n₀ ∷ n₁ ∷ n₂ ∷ v₀ ∷ v₁ ∷ v₂ ∷ w₀ ∷ w₁ ∷ w₂ ∷ [])
    (var 0 ⊗ (var 5 ⊗ var 6 ⊖ var 3 ⊗ var 8))
    (var 1 ⊗ (var 4 ⊗ var 8 ⊖ var 5 ⊗ var 7))
    ((neg (var 8), var 0 ⊗ var 3 ⊕ var 1 ⊗ var 4 ⊕ var 2 ⊗ var 5) ∷ (var 5, var 0 ⊗ var 6 ⊕ var 1 ⊗ var 7 ⊕ var 2 ⊗ var 8) ∷ [])
    refl (p, (q, tt))

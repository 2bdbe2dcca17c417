-- Signs of whole numbers.
use Rattle.std.specs.Prelude.{◌≡◌, ◌≢◌, ◌⊎◌, zero, suc, ℤ, pos, negsuc, ◌≤ℤ◌, ◌<ℤ◌}
use Rattle.std.proofs.Common.{refl, arith, inl, inr}
use Rattle.std.proofs.lemmas.Int.{ints}

pub above_or_not : (c : ℤ) → (pos 0 <ℤ c) ⊎ (c ≤ℤ pos 0)
above_or_not (pos zero) = inr (omega (arith, ints))
above_or_not (pos (suc n)) = inl (omega (arith, ints))
above_or_not (negsuc n) = inr (omega (arith, ints))

pub zero_holds : (x : ℤ) → x ≡ pos 0 → pos 0 ≤ℤ x
zero_holds x e = omega (arith, ints)

pub above_holds : (x : ℤ) → pos 0 <ℤ x → pos 0 ≤ℤ x
above_holds x h = omega (arith, ints)

pub above_not_zero : (x : ℤ) → pos 0 <ℤ x → x ≢ pos 0
above_not_zero x h e = omega (arith, ints)

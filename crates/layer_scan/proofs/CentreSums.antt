-- Sums of two numbers of 64 bits that are small.
use Rattle.std.proofs.Common.{ap, arith, ◌∙◌, ◌≡◌, ℤ, ◌+ℤ◌, ◌≤◌, ◌^◌, w64, to_z, of_z, FitsSigned}
use Rattle.std.specs.Prelude.{unsigned_abs}
use Rattle.std.proofs.lemmas.Int.{fits_signed_from_abs, ints, to_z-of_z}

two_small : (p q : ℤ) → unsigned_abs p ≤ 2 ^ 34 → unsigned_abs q ≤ 2 ^ 34 → unsigned_abs (p +ℤ q) ≤ 2 ^ 35
two_small p q h k = omega (arith, ints)

pub sum_of_two : (p q : ℤ) → unsigned_abs p ≤ 2 ^ 34 → unsigned_abs q ≤ 2 ^ 34
    → to_z w64 (of_z w64 (to_z w64 (of_z w64 p) +ℤ to_z w64 (of_z w64 q))) ≡ p +ℤ q
sum_of_two p q h k =
    let both = two_small p q h k in
    let first : FitsSigned w64 p = fits_signed_from_abs w64 p (omega (arith, h)) in
    let second : FitsSigned w64 q = fits_signed_from_abs w64 q (omega (arith, k)) in
    let whole : FitsSigned w64 (p +ℤ q) = fits_signed_from_abs w64 (p +ℤ q) (omega (arith, both)) in
    ap (λ (z : ℤ). to_z w64 (of_z w64 (z +ℤ to_z w64 (of_z w64 q)))) (to_z-of_z w64 p first)
    ∙ ap (λ (z : ℤ). to_z w64 (of_z w64 (p +ℤ z))) (to_z-of_z w64 q second) ∙ to_z-of_z w64 (p +ℤ q) whole

-- Small numbers and their differences in an i32.
use Rattle.std.specs.Prelude.{◌≡◌, ◌+◌, ◌^◌, ◌<◌, ◌*◌, ℕ, ℤ, ◌-ℤ◌}
use Rattle.std.proofs.Common.{ap, ◌∙◌, arith, w32, to_z, of_z}
use Rattle.std.proofs.lemmas.Int.{to_z-of_z}
use Rattle.polynomials.specs.Small.{IsSmall}
use Rattle.polynomials.proofs.SmallLaws.{small-fits_narrow, small-sub}
use Rattle.iso_model.specs.Dimensions.{IsDimension, in_each_dimension}

narrow_back : (n : ℕ) (x : ℤ) → n < 2 ^ 31 → IsSmall n x → to_z w32 (of_z w32 x) ≡ x
narrow_back n x q h = to_z-of_z w32 x (small-fits_narrow n x h q)

pub narrow_difference : (m n : ℕ) (x y : ℤ) → m + n < 2 ^ 31 → IsSmall m x → IsSmall n y
    → to_z w32 (of_z w32 (to_z w32 (of_z w32 x) -ℤ to_z w32 (of_z w32 y))) ≡ x -ℤ y
narrow_difference m n x y f p q =
    ap (λ (z : ℤ). to_z w32 (of_z w32 (z -ℤ to_z w32 (of_z w32 y)))) (narrow_back m x (omega arith) p)
    ∙ ap (λ (z : ℤ). to_z w32 (of_z w32 (x -ℤ z))) (narrow_back n y (omega arith) q)
    ∙ narrow_back (m + n) (x -ℤ y) f (small-sub m n x y p q)

-- an array of D numbers of four bytes fits the memory
pub row_fits : (d : ℕ) → IsDimension d → d * 4 < 9223372036854775808
row_fits d is = in_each_dimension (λ n. n * 4 < 9223372036854775808) (omega arith) (omega arith) (omega arith) d is

-- and so does one of D bytes
pub bytes_fit : (d : ℕ) → IsDimension d → d * 1 < 9223372036854775808
bytes_fit d is = in_each_dimension (λ n. n * 1 < 9223372036854775808) (omega arith) (omega arith) (omega arith) d is

-- The product of the sizes, from four places.
use Rattle.std.proofs.Common.{◌≡◌, ℕ, zero, suc, ◌*◌, ◌^◌, ◌<◌, ◌≤◌, List, [], ◌∷◌, length, take, get_or, arith}
use Rattle.std.proofs.Math.Nat.{mul-le-mul}
use Rattle.iso_model.specs.Values.{product}
use Rattle.nrrd_raw.specs.Shapes.{HasShape, AreSizes}

-- four places whose product is that of the sizes, and fits 128 bits
pub record CountsPlaces (sizes places : List ℕ) : Type 0 where
  pub same : (get_or places 0 0 * get_or places 1 0) * (get_or places 2 0 * get_or places 3 0) ≡ product sizes
  pub fits : (get_or places 0 0 * get_or places 1 0) * (get_or places 2 0 * get_or places 3 0) < 2 ^ 128

small : (a b c d : ℕ) → a ≤ 4294967295 → b ≤ 4294967295 → c ≤ 4294967295 → d ≤ 4294967295 → (a * b) * (c * d) < 2 ^ 128
small a b c d p q r s =
    let x : a * b ≤ 4294967295 * 4294967295 = mul-le-mul p q in
    let y : c * d ≤ 4294967295 * 4294967295 = mul-le-mul r s in
    let z : (a * b) * (c * d) ≤ (4294967295 * 4294967295) * (4294967295 * 4294967295) = mul-le-mul x y in
    omega (arith, z)

size_at : (sizes : List ℕ) (k : ℕ) → AreSizes sizes → k < length sizes → get_or sizes k 0 ≤ 4294967295
size_at sizes k s h = let p : (1 ≤ get_or sizes k 0) × (get_or sizes k 0 ≤ 4294967295) = s k 0 h in p.1

pub counts : (dims : ℕ) (places : List ℕ) → HasShape dims places → 2 ≤ length (take dims places) → AreSizes (take dims places)
    → CountsPlaces (take dims places) places
counts dims [] shape two sized = absurd (omega (arith, shape.four))
counts dims (a ∷ []) shape two sized = absurd (omega (arith, shape.four))
counts dims (a ∷ b ∷ []) shape two sized = absurd (omega (arith, shape.four))
counts dims (a ∷ b ∷ c ∷ []) shape two sized = absurd (omega (arith, shape.four))
counts dims (a ∷ b ∷ c ∷ d ∷ e ∷ rest) shape two sized = absurd (omega (arith, shape.four))
counts zero (a ∷ b ∷ c ∷ d ∷ []) shape two sized = absurd (omega arith)
counts (suc zero) (a ∷ b ∷ c ∷ d ∷ []) shape two sized = absurd (omega arith)
counts (suc (suc zero)) (a ∷ b ∷ c ∷ d ∷ []) shape two sized =
    let p : c ≡ 1 = (let e = shape.beyond in cc) in
    let q : d ≡ 1 = (let e = shape.beyond in cc) in
    record {
      same = rw (p, q) (omega arith);
      fits = small a b c d (size_at (a ∷ b ∷ []) 0 sized (omega arith)) (size_at (a ∷ b ∷ []) 1 sized (omega arith)) (omega arith) (omega arith);
    }
counts (suc (suc (suc zero))) (a ∷ b ∷ c ∷ d ∷ []) shape two sized =
    let q : d ≡ 1 = (let e = shape.beyond in cc) in
    record {
      same = rw q (omega arith);
      fits =
          small a b c d (size_at (a ∷ b ∷ c ∷ []) 0 sized (omega arith)) (size_at (a ∷ b ∷ c ∷ []) 1 sized (omega arith))
          (size_at (a ∷ b ∷ c ∷ []) 2 sized (omega arith)) (omega arith);
    }
counts (suc (suc (suc (suc (suc n))))) (a ∷ b ∷ c ∷ d ∷ []) shape two sized = absurd (omega (arith, shape.few))
counts (suc (suc (suc (suc zero)))) (a ∷ b ∷ c ∷ d ∷ []) shape two sized =
    record {
      same = omega arith;
      fits =
          small a b c d (size_at (a ∷ b ∷ c ∷ d ∷ []) 0 sized (omega arith)) (size_at (a ∷ b ∷ c ∷ d ∷ []) 1 sized (omega arith))
          (size_at (a ∷ b ∷ c ∷ d ∷ []) 2 sized (omega arith)) (size_at (a ∷ b ∷ c ∷ d ∷ []) 3 sized (omega arith));
    }

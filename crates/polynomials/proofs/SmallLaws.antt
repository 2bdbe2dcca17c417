-- Sums and products of bounded whole numbers are bounded, and what is bounded fits its machine type and is read back from it.
use Rattle.std.proofs.Common.{refl, ◌≢◌, w32, set, below_more, get_or-set_same, get_or-set_other, zero, suc, [], ◌∷◌, ◌≡◌, ◌∙◌, ap, length, List}
use Rattle.std.proofs.Common.{get_or, to_z, of_z, ℕ, ℤ, pos, ◌+◌, ◌*◌, ◌^◌, ◌<◌, ◌≤◌, ◌+ℤ◌, ◌-ℤ◌, ◌*ℤ◌, neg_ℤ, arith, FitsSigned, w64, subst, sym}
use Rattle.std.proofs.lemmas.Int.{ints, to_z-of_z, fits_signed_from_abs, unsigned_abs-mul}
use Rattle.std.proofs.Math.Nat.{mul-le-mul}
use Rattle.polynomials.specs.Small.{IsSmall, AreSmall}

-- ---- one number

pub small-add : (m n : ℕ) (x y : ℤ) → IsSmall m x → IsSmall n y → IsSmall (m + n) (x +ℤ y)
small-add m n x y p q = omega (arith, ints)

pub small-sub : (m n : ℕ) (x y : ℤ) → IsSmall m x → IsSmall n y → IsSmall (m + n) (x -ℤ y)
small-sub m n x y p q = omega (arith, ints)

pub small-mul : (m n : ℕ) (x y : ℤ) → IsSmall m x → IsSmall n y → IsSmall (m * n) (x *ℤ y)
small-mul m n x y p q = subst (λ (k : ℕ). k ≤ m * n) (sym (unsigned_abs-mul x y)) (mul-le-mul p q)

pub small-weaken : (m n : ℕ) (x : ℤ) → IsSmall m x → m ≤ n → IsSmall n x
small-weaken m n x h p = omega arith

-- it fits an i64
pub small-fits : (n : ℕ) (x : ℤ) → IsSmall n x → n < 2 ^ 63 → FitsSigned w64 x
small-fits n x p q = fits_signed_from_abs w64 x (omega arith)

-- it fits an i32
pub small-fits_narrow : (n : ℕ) (x : ℤ) → IsSmall n x → n < 2 ^ 31 → FitsSigned w32 x
small-fits_narrow n x p q = fits_signed_from_abs w32 x (omega arith)

-- it is read back from an i64 unchanged
pub small-back : (n : ℕ) (x : ℤ) → n < 2 ^ 63 → IsSmall n x → to_z w64 (of_z w64 x) ≡ x
small-back n x q h = to_z-of_z w64 x (small-fits n x h q)

-- and so is its negative
pub negated_back : (n : ℕ) (x : ℤ) → n < 2 ^ 63 → IsSmall n x → to_z w64 (of_z w64 (pos 0 -ℤ to_z w64 (of_z w64 x))) ≡ neg_ℤ x
negated_back n x q h =
    ap (λ (z : ℤ). to_z w64 (of_z w64 (pos 0 -ℤ z))) (small-back n x q h)
    ∙ small-back n (pos 0 -ℤ x) q (omega (arith, ints)) ∙ omega (arith, ints)

-- and the difference of two
pub difference_back : (m n : ℕ) (x y : ℤ) → m + n < 2 ^ 63 → IsSmall m x → IsSmall n y
    → to_z w64 (of_z w64 (to_z w64 (of_z w64 x) -ℤ to_z w64 (of_z w64 y))) ≡ x -ℤ y
difference_back m n x y f p q =
    ap (λ (z : ℤ). to_z w64 (of_z w64 (z -ℤ to_z w64 (of_z w64 y)))) (small-back m x (omega arith) p)
    ∙ ap (λ (z : ℤ). to_z w64 (of_z w64 (x -ℤ z))) (small-back n y (omega arith) q)
    ∙ small-back (m + n) (x -ℤ y) f (small-sub m n x y p q)

-- ---- each number of a list

pub AreSmall-cons : (m : ℕ) (x : ℤ) (xs : List ℤ) → IsSmall m x → AreSmall m xs → AreSmall m (x ∷ xs)
AreSmall-cons m x xs p h zero d q = p
AreSmall-cons m x xs p h (suc k) d q = h k d (omega arith)

-- the one at a place, or the 0 past the end
pub AreSmall-get_or : (n : ℕ) (xs : List ℤ) (k : ℕ) → AreSmall n xs → IsSmall n (get_or xs k (pos 0))
AreSmall-get_or n [] k h = omega arith
AreSmall-get_or n (x ∷ xs) zero h = h 0 x (omega arith)
AreSmall-get_or n (x ∷ xs) (suc k) h = AreSmall-get_or n xs k (λ j d p. h (suc j) d (omega arith))

-- each fits an i64
pub AreSmall-fits : (n : ℕ) (xs : List ℤ) → n < 2 ^ 63 → AreSmall n xs → (k : ℕ) → FitsSigned w64 (get_or xs k (pos 0))
AreSmall-fits n xs q h k = small-fits n (get_or xs k (pos 0)) (AreSmall-get_or n xs k h) q

-- and is read back from it unchanged
pub AreSmall-back : (n : ℕ) (xs : List ℤ) → n < 2 ^ 63 → AreSmall n xs → (k : ℕ) → to_z w64 (of_z w64 (get_or xs k (pos 0))) ≡ get_or xs k (pos 0)
AreSmall-back n xs q h k = to_z-of_z w64 (get_or xs k (pos 0)) (AreSmall-fits n xs q h k)

pub three_small : (m : ℕ) (x y z : ℤ) → IsSmall m x → IsSmall m y → IsSmall m z → AreSmall m (x ∷ y ∷ z ∷ [])
three_small m x y z p q r zero d h = p
three_small m x y z p q r (suc zero) d h = q
three_small m x y z p q r (suc (suc zero)) d h = r
three_small m x y z p q r (suc (suc (suc k))) d h = absurd (omega arith)

-- ---- a list that is written number by number

-- lists of one length that agree place by place
pub same_ints : (xs ys : List ℤ) → length xs ≡ length ys → ((k : ℕ) → k < length xs → get_or xs k (pos 0) ≡ get_or ys k (pos 0)) → xs ≡ ys
same_ints [] [] e h = refl
same_ints [] (y ∷ ys) e h = absurd (omega arith)
same_ints (x ∷ xs) [] e h = absurd (omega arith)
same_ints (x ∷ xs) (y ∷ ys) e h =
    let a : x ≡ y = h 0 (omega arith) in let b = same_ints xs ys (omega arith) (λ k p. h (suc k) (omega arith)) in cc

-- one more number is written, which is f of its place
pub written_more : (out : List ℤ) (i : ℕ) (v : ℤ) (f : ℕ → ℤ) → i < length out → v ≡ f i
    → ((k : ℕ) → k < i → get_or out k (pos 0) ≡ f k) → (k : ℕ) → k < i + 1 → get_or (set out i v) k (pos 0) ≡ f k
written_more out i v f p e h =
    below_more _ _ (λ k q. let ne : k ≢ i = omega arith in rw get_or-set_other (h k q)) (get_or-set_same out i v (pos 0) p ∙ e)

-- one more number of a row is copied
pub copied_more : (out row : List ℤ) (i : ℕ) (v w : ℤ) → i < length out → v ≡ w → w ≡ get_or row i (pos 0)
    → ((k : ℕ) → k < i → get_or out k (pos 0) ≡ get_or row k (pos 0)) → (k : ℕ) → k < i + 1 → get_or (set out i v) k (pos 0) ≡ get_or row k (pos 0)
copied_more out row i v w p e f h = written_more out i v (λ k. get_or row k (pos 0)) p (e ∙ f) h

pub small-neg : (m : ℕ) (x : ℤ) → IsSmall m x → IsSmall m (neg_ℤ x)
small-neg m x p = omega (arith, ints)

pub AreSmall-weaken : (m n : ℕ) (xs : List ℤ) → m ≤ n → AreSmall m xs → AreSmall n xs
AreSmall-weaken m n xs p h k d q = let s : IsSmall m (get_or xs k d) = h k d q in omega arith

-- Bounds of products of rows, and the step of the loop that sums up such a product.
use Rattle.std.proofs.Common.{zero, suc, [], ◌∷◌, ◌≡◌, ◌∙◌, ap, length, List, get_or, drop, lit<, ℕ, ℤ, pos, ◌+◌, ◌*◌, ◌^◌, ◌<◌, ◌≤◌, ◌+ℤ◌, ◌-ℤ◌}
use Rattle.std.proofs.Common.{◌*ℤ◌, arith, FitsSigned, w64, sym, subst}
use Rattle.std.proofs.Math.IntN.{+ℤ_assoc}
use Rattle.polynomials.specs.Small.{IsSmall, AreSmall}
use Rattle.polynomials.proofs.SmallLaws.{small-add, small-sub, small-mul, small-fits, small-weaken, AreSmall-cons}
use Rattle.lists.specs.Orders.{without}
use Rattle.iso_model.specs.Turns.{dot, minus}
use Rattle.small_turn.proofs.PointSums.{dot-drop}

-- ---- a step of the sum of products

pub term_small : (xs ys : List ℤ) (i : ℕ) → AreSmall (2 ^ 40) xs → AreSmall 64 ys → i < length xs → i < length ys
    → IsSmall (2 ^ 46) (get_or xs i (pos 0) *ℤ get_or ys i (pos 0))
term_small xs ys i h k p q = small-mul (2 ^ 40) 64 (get_or xs i (pos 0)) (get_or ys i (pos 0)) (h i (pos 0) p) (k i (pos 0) q)

pub sum_small : (i : ℕ) (s t : ℤ) → IsSmall (i * 2 ^ 46) s → IsSmall (2 ^ 46) t → IsSmall ((i + 1) * 2 ^ 46) (s +ℤ t)
sum_small i s t p q = omega (arith, small-add (i * 2 ^ 46) (2 ^ 46) s t p q)

pub sum_fits : (i : ℕ) (s : ℤ) → i ≤ 4 → IsSmall (i * 2 ^ 46) s → FitsSigned w64 s
sum_fits i s p q = small-fits (4 * 2 ^ 46) s (omega arith) (lit< tt)

pub sum_step : (xs ys : List ℤ) (i : ℕ) (s : ℤ) → i < length xs → i < length ys → s +ℤ dot (drop i xs) (drop i ys) ≡ dot xs ys
    → (s +ℤ get_or xs i (pos 0) *ℤ get_or ys i (pos 0)) +ℤ dot (drop (i + 1) xs) (drop (i + 1) ys) ≡ dot xs ys
sum_step xs ys i s p q e =
    +ℤ_assoc s (get_or xs i (pos 0) *ℤ get_or ys i (pos 0)) (dot (drop (i + 1) xs) (drop (i + 1) ys))
    ∙ ap (λ v. s +ℤ v) (sym (dot-drop xs ys i p q)) ∙ e

-- what one turn of the loop adds, from the bounds of the sum so far and of the two factors
pub record TermFacts (i : ℕ) (s x y : ℤ) : Type 0 where
  pub x_fits : FitsSigned w64 x
  pub y_fits : FitsSigned w64 y
  pub term_fits : FitsSigned w64 (x *ℤ y)
  pub sum_fits : FitsSigned w64 (s +ℤ x *ℤ y)
  pub sum_small : IsSmall ((i + 1) * 2 ^ 46) (s +ℤ x *ℤ y)

pub term_facts : (xs ys : List ℤ) (i : ℕ) (s : ℤ) → AreSmall (2 ^ 40) xs → AreSmall 64 ys → i < length xs → i < length ys → i + 1 ≤ 4 → IsSmall (i * 2 ^ 46) s
    → TermFacts i s (get_or xs i (pos 0)) (get_or ys i (pos 0))
term_facts xs ys i s h k p q few e =
    let t = term_small xs ys i h k p q in
    let n = sum_small i s (get_or xs i (pos 0) *ℤ get_or ys i (pos 0)) e t in
    record {
      x_fits = small-fits (2 ^ 40) (get_or xs i (pos 0)) (h i (pos 0) p) (lit< tt);
      y_fits = small-fits 64 (get_or ys i (pos 0)) (k i (pos 0) q) (lit< tt);
      term_fits = small-fits (2 ^ 46) (get_or xs i (pos 0) *ℤ get_or ys i (pos 0)) t (lit< tt);
      sum_fits = sum_fits (i + 1) (s +ℤ get_or xs i (pos 0) *ℤ get_or ys i (pos 0)) few n;
      sum_small = n;
    }

-- ---- bounds

-- a sum of n products is bounded by n times the product of the bounds
pub small-dot : (m n : ℕ) (xs ys : List ℤ) → AreSmall m xs → AreSmall n ys → IsSmall (length ys * (m * n)) (dot xs ys)
unfolding dot
small-dot m n [] ys p q = omega arith
small-dot m n (x ∷ xs) [] p q = omega arith
small-dot m n (x ∷ xs) (y ∷ ys) p q =
    let t = small-mul m n x y (p 0 x (omega arith)) (q 0 y (omega arith)) in
    let r = small-dot m n xs ys (λ k d h. p (suc k) d (omega arith)) (λ k d h. q (suc k) d (omega arith)) in
    omega (arith, small-add (m * n) (length ys * (m * n)) (x *ℤ y) (dot xs ys) t r)

pub AreSmall-without : (m k : ℕ) (xs : List ℤ) → AreSmall m xs → AreSmall m (without k xs)
AreSmall-without m k [] h = h
AreSmall-without m zero (x ∷ xs) h = λ j d p. h (suc j) d (omega arith)
AreSmall-without m (suc k) (x ∷ xs) h = AreSmall-cons m x (without k xs) (h 0 x (omega arith)) (AreSmall-without m k xs (λ j d p. h (suc j) d (omega arith)))

pub AreSmall-minus : (m n : ℕ) (a b : List ℤ) → AreSmall m a → AreSmall n b → AreSmall (m + n) (minus a b)
AreSmall-minus m n [] b p q = λ k d h. absurd (omega arith)
AreSmall-minus m n (x ∷ xs) [] p q = λ k d h. absurd (omega arith)
AreSmall-minus m n (x ∷ xs) (y ∷ ys) p q =
    AreSmall-cons (m + n) (x -ℤ y) (minus xs ys) (small-sub m n x y (p 0 x (omega arith)) (q 0 y (omega arith)))
    (AreSmall-minus m n xs ys (λ k d h. p (suc k) d (omega arith)) (λ k d h. q (suc k) d (omega arith)))

-- the product of a normal and a point of the size that `hyper` takes
pub bound_small : (n p : List ℤ) (r : ℤ) → length p ≤ 4 → r ≡ dot n p → AreSmall (2 ^ 21) n → AreSmall 32 p → IsSmall (2 ^ 28) r
bound_small n p r few e h k =
    subst (λ (z : ℤ). IsSmall (2 ^ 28) z) (sym e)
    (small-weaken (length p * (2 ^ 21 * 32)) (2 ^ 28) (dot n p) (small-dot (2 ^ 21) 32 n p h k) (omega arith))

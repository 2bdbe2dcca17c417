-- Points and sums by their coordinates.
use Rattle.std.proofs.Common.{◌≡◌, List, [], ◌∷◌, ◌++◌, ℤ, ◌+ℤ◌, arith, true, ap, pos, negsuc, refl, subst, suc, ◌+◌}
use Rattle.std.proofs.lemmas.Int.{ints}
use Rattle.iso_model.specs.Turns.{total, same_int, difference}
use Rattle.std.proofs.lemmas.Bool.{false≢true, eq-eqb}
use Rattle.lists.proofs.Tests.{equal_of}
use Rattle.std.specs.Prelude.{ℕ, length}
use Rattle.iso_model.specs.Points.{plus}

pub total-append : (xs ys : List ℤ) → total (xs ++ ys) ≡ total xs +ℤ total ys
total-append [] ys = omega (arith, ints)
total-append (x ∷ xs) ys = sum_step x (total xs) (total ys) (total (xs ++ ys)) (total-append xs ys)
  where
    sum_step : (a b c d : ℤ) → d ≡ b +ℤ c → a +ℤ d ≡ (a +ℤ b) +ℤ c
    sum_step a b c d e = omega (arith, ints)

-- the test of equal whole numbers
pub same_int-is : (a b : ℤ) → same_int a b ≡ true → a ≡ b
same_int-is (pos a) (pos b) h = ap pos (equal_of a b h)
same_int-is (pos a) (negsuc b) h = absurd (false≢true h)
same_int-is (negsuc a) (pos b) h = absurd (false≢true h)
same_int-is (negsuc a) (negsuc b) h = ap negsuc (equal_of a b h)

pub is-same_int : (a b : ℤ) → a ≡ b → same_int a b ≡ true
is-same_int (pos a) b e = subst (λ (z : ℤ). same_int (pos a) z ≡ true) e (eq-eqb a a refl)
is-same_int (negsuc a) b e = subst (λ (z : ℤ). same_int (negsuc a) z ≡ true) e (eq-eqb a a refl)

pub length-plus : (p q : List ℕ) → length p ≡ length q → length (plus p q) ≡ length p
length-plus [] q l = omega arith
length-plus (x ∷ p) [] l = absurd (omega (arith, l))
length-plus (x ∷ p) (y ∷ q) l = omega (arith, length-plus p q (omega (arith, l)))

pub length-plus_as : (p q : List ℕ) → length q ≡ length p → length (plus p q) ≡ length p
length-plus_as [] q e = refl
length-plus_as (x ∷ p) [] e = absurd (omega (arith, e))
length-plus_as (x ∷ p) (y ∷ q) e = ap suc (length-plus_as p q (omega (arith, e)))

pub length-difference : (p q : List ℕ) → length q ≡ length p → length (difference p q) ≡ length p
length-difference [] q e = refl
length-difference (x ∷ p) [] e = absurd (omega (arith, e))
length-difference (x ∷ p) (y ∷ q) e = ap suc (length-difference p q (omega (arith, e)))

pub plus_comm : (p q : List ℕ) → plus p q ≡ plus q p
plus_comm [] [] = refl
plus_comm [] (y ∷ q) = refl
plus_comm (x ∷ p) [] = refl
plus_comm (x ∷ p) (y ∷ q) = let first : x + y ≡ y + x = omega arith in rw (first, plus_comm p q) refl

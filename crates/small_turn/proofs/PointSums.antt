-- Laws of sums and products of points.
use Rattle.std.proofs.Common.{◌-ℤ◌, zero, suc, [], ◌∷◌, ◌≡◌, ℕ, ◌+◌, ◌<◌, ◌≤◌, ℤ, pos, ◌+ℤ◌, ◌*ℤ◌, List, length, drop, get_or, drop-cons, add-one, refl, arith}
use Rattle.iso_model.specs.Turns.{dot, minus}

-- the first product and the rest, from place i on
pub dot-drop : (xs ys : List ℤ) (i : ℕ) → i < length xs → i < length ys
    → dot (drop i xs) (drop i ys) ≡ get_or xs i (pos 0) *ℤ get_or ys i (pos 0) +ℤ dot (drop (i + 1) xs) (drop (i + 1) ys)
unfolding dot
dot-drop xs ys i p q = rw (add-one, drop-cons xs i (pos 0), drop-cons ys i (pos 0))

dot-none : (xs : List ℤ) → dot xs [] ≡ pos 0
unfolding dot
dot-none [] = refl
dot-none (x ∷ xs) = refl

-- nothing is left from the end on
pub dot-drop_past : (xs ys : List ℤ) (i : ℕ) → length xs ≤ i → dot (drop i xs) (drop i ys) ≡ pos 0
unfolding dot
dot-drop_past [] ys zero h = refl
dot-drop_past [] [] (suc i) h = refl
dot-drop_past [] (y ∷ ys) (suc i) h = refl
dot-drop_past (x ∷ xs) ys zero h = absurd (omega arith)
dot-drop_past (x ∷ xs) [] (suc i) h = dot-none (drop i xs)
dot-drop_past (x ∷ xs) (y ∷ ys) (suc i) h = dot-drop_past xs ys i (omega arith)

pub get_or-minus : (a b : List ℤ) (k : ℕ) → length a ≡ length b → k < length a → get_or (minus a b) k (pos 0) ≡ get_or a k (pos 0) -ℤ get_or b k (pos 0)
get_or-minus [] b k e h = absurd (omega arith)
get_or-minus (x ∷ xs) [] k e h = absurd (omega arith)
get_or-minus (x ∷ xs) (y ∷ ys) zero e h = refl
get_or-minus (x ∷ xs) (y ∷ ys) (suc k) e h = get_or-minus xs ys k (omega arith) (omega arith)

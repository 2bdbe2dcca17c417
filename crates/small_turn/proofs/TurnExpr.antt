-- The expressions of which turns and products are the values, for the ring solver.
use Rattle.std.specs.Prelude.{ℕ, ◌+◌, pos, List, [], ◌∷◌, map, length, get_or, Bool, if◌then◌else◌}
use Rattle.polynomials.proofs.Ring.{Expr, con, ◌⊕◌, ◌⊖◌, ◌⊗◌, neg}
use Rattle.lists.specs.Orders.{orders, is_odd, is_odd_order, numbers, without}

abbrev pub total : List Expr → Expr
total [] = con (pos 0)
total (x ∷ xs) = x ⊕ total xs

abbrev pub at : List Expr → ℕ → Expr
at row k = get_or row k (con (pos 0))

abbrev pub product_along : List (List Expr) → List ℕ → Expr
product_along [] ks = con (pos 1)
product_along (row ∷ rows) [] = con (pos 1)
product_along (row ∷ rows) (k ∷ ks) = at row k ⊗ product_along rows ks

abbrev pub signed : Bool → Expr → Expr
signed odd x = if odd then neg x else x

abbrev pub turn : List (List Expr) → Expr
turn rows = total (map (λ o. signed (is_odd_order o) (product_along rows o)) (orders (length rows)))

abbrev pub minus : List Expr → List Expr → List Expr
minus [] ys = []
minus (x ∷ xs) [] = []
minus (x ∷ xs) (y ∷ ys) = (x ⊖ y) ∷ minus xs ys

abbrev pub dot : List Expr → List Expr → Expr
dot [] ys = con (pos 0)
dot (x ∷ xs) [] = con (pos 0)
dot (x ∷ xs) (y ∷ ys) = x ⊗ y ⊕ dot xs ys

abbrev pub cofactors : List (List Expr) → List Expr
cofactors rows = map (λ k. signed (is_odd (length rows + k)) (turn (map (λ row. without k row) rows))) (numbers (length rows + 1))

-- Two functions that give the same list of values over the numbers below n agree at each of them: so a table is compared with a definition by computing.
use Rattle.std.specs.Prelude.{◌≡◌, ℕ, ◌<◌, List, [], ◌∷◌, map, All}
use Rattle.std.proofs.Common.{ap, sym, ◌∙◌, arith, get_or}
use Rattle.std.proofs.lemmas.List.FromFn.{get_or-map-range_with_len}
use Rattle.std.proofs.lemmas.List.Elements.{All-nil, All-cons}
use Rattle.lists.specs.Orders.{numbers}
use Rattle.iso_model.specs.Dimensions.{IsDimension, in_each_dimension}

pub agree : {X : Type 0} → (n : ℕ) (f g : ℕ → X) → map f (numbers n) ≡ map g (numbers n) → (k : ℕ) → k < n → f k ≡ g k
agree {X} n f g same k below =
    sym (get_or-map-range_with_len f 0 n k k (f k) below (omega arith))
    ∙ ap (λ (xs : List X). get_or xs k (f k)) same
    ∙ get_or-map-range_with_len g 0 n k k (f k) below (omega arith)

-- the same in each dimension d, over the numbers below n d
pub agree_in_each : {X : Type 0} → (n : ℕ → ℕ) (f g : ℕ → ℕ → X) →
    map (f 2) (numbers (n 2)) ≡ map (g 2) (numbers (n 2)) → map (f 3) (numbers (n 3)) ≡ map (g 3) (numbers (n 3))
    → map (f 4) (numbers (n 4)) ≡ map (g 4) (numbers (n 4)) →
    (d : ℕ) → IsDimension d → (k : ℕ) → k < n d → f d k ≡ g d k
agree_in_each n f g two three four =
    in_each_dimension (λ d. (k : ℕ) → k < n d → f d k ≡ g d k) (agree (n 2) (f 2) (g 2) two) (agree (n 3) (f 3) (g 3) three) (agree (n 4) (f 4) (g 4) four)

-- the same over the members of a list
pub agree_on : {X Y : Type 0} → (f g : X → Y) (xs : List X) → map f xs ≡ map g xs → All (λ x. f x ≡ g x) xs
agree_on f g [] same = All-nil (λ x. f x ≡ g x)
agree_on f g (x ∷ xs) same = All-cons (λ x. f x ≡ g x) x xs (cc) (agree_on f g xs (cc))

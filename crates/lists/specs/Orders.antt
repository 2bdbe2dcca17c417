-- Lists: all orders and all choices of their members, sorting, and parity.
use Rattle.std.specs.Prelude.{ℕ, zero, suc, ◌+◌, ◌%◌, Bool, true, false, not, ◌&&◌, ◌||◌, ◌==◌, nat_lt, nat_le, nat_eq, List, [], ◌∷◌, ◌++◌, map}
use Rattle.std.specs.Prelude.{count_by, flat_map, if◌then◌else◌}
use Rattle.std.specs.List.{range_with_len, list_any}
use Rattle.std.specs.Str.{bytes_eq}

-- the numbers below n
abbrev pub numbers : ℕ → List ℕ
numbers n = range_with_len 0 n

-- the list without the member at place k
abbrev pub without : {X : Type 0} → ℕ → List X → List X
without k [] = []
without zero (x ∷ xs) = xs
without (suc k) (x ∷ xs) = x ∷ without k xs

-- each member of a list, with the others in their order
abbrev pub picks : {X : Type 0} → List X → List (X × List X)
picks [] = []
picks {X} (x ∷ xs) = (x, xs) ∷ map (λ (p : X × List X). (p.0, x ∷ p.1)) (picks xs)

-- all orders of n members of a list, in ascending order of their places in it, compared place by place
abbrev pub orders_of : {X : Type 0} → ℕ → List X → List (List X)
orders_of zero xs = [] ∷ []
orders_of {X} (suc n) xs = flat_map (λ (p : X × List X). map (λ r. p.0 ∷ r) (orders_of n p.1)) (picks xs)

-- all orders of the numbers below n, in ascending order, compared place by place
abbrev pub orders : ℕ → List (List ℕ)
orders n = orders_of n (numbers n)

-- all choices of n members, each in the order of the list
abbrev pub choices : {X : Type 0} → ℕ → List X → List (List X)
choices zero xs = [] ∷ []
choices (suc n) [] = []
choices (suc n) (x ∷ xs) = map (λ r. x ∷ r) (choices n xs) ++ choices (suc n) xs

-- a number is odd
abbrev pub is_odd : ℕ → Bool
is_odd n = n % 2 == 1

-- the number of pairs of members of which the greater one stands first
abbrev pub inversions : List ℕ → ℕ
inversions [] = 0
inversions (x ∷ xs) = count_by (λ y. nat_lt y x) xs + inversions xs

-- an order is odd where sorting it takes an odd number of exchanges of two members
abbrev pub is_odd_order : List ℕ → Bool
is_odd_order xs = is_odd (inversions xs)

-- an ascending list with x put in before the first member that is not below it
abbrev pub put_in : ℕ → List ℕ → List ℕ
put_in x [] = x ∷ []
put_in x (y ∷ ys) = if nat_le x y then x ∷ y ∷ ys else y ∷ put_in x ys

-- the members in ascending order
abbrev pub sorted : List ℕ → List ℕ
sorted [] = []
sorted (x ∷ xs) = put_in x (sorted xs)

-- two lists are equal
abbrev pub same_list : List ℕ → List ℕ → Bool
same_list = bytes_eq

-- the number is a member
abbrev pub has : List ℕ → ℕ → Bool
has xs y = list_any (nat_eq y) xs

-- no member stands twice
abbrev pub is_distinct : List ℕ → Bool
is_distinct [] = true
is_distinct (x ∷ xs) = not (has xs x) && is_distinct xs

-- the list with its last two places exchanged
abbrev pub exchange_last : List ℕ → List ℕ
exchange_last [] = []
exchange_last (x ∷ []) = x ∷ []
exchange_last (x ∷ y ∷ []) = y ∷ x ∷ []
exchange_last (x ∷ y ∷ z ∷ ws) = x ∷ exchange_last (y ∷ z ∷ ws)

-- of two lists of one length the one comes before the other, compared place by place, the first place first
abbrev pub comes_before : List ℕ → List ℕ → Bool
comes_before [] ys = false
comes_before (x ∷ xs) [] = false
comes_before (x ∷ xs) (y ∷ ys) = nat_lt x y || (x == y && comes_before xs ys)

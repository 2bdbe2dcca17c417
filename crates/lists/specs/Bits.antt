-- Sets of small numbers as numbers: i is a member where bit i is set.
use Rattle.std.specs.Int.{bit_at}
use Rattle.std.specs.Prelude.{Bool, List, filter, sum_by, ℕ, ◌==◌, ◌^◌}
use Rattle.lists.specs.Orders.{numbers}

-- bit k is set
abbrev pub is_set : ℕ → ℕ → Bool
is_set n k = bit_at n k == 1

-- the number of a set: bit i is set where i is a member
abbrev pub set_number : List ℕ → ℕ
set_number set = sum_by (λ i. 2 ^ i) set

-- the set of a number of at most 64 bits: i is a member where bit i is set
abbrev pub set_of : ℕ → List ℕ
set_of number = filter (λ i. bit_at number i == 1) (numbers 64)

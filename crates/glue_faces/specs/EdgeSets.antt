-- Sets of edges, written as numbers.
use Rattle.std.specs.Prelude.{ℕ, List, filter}
use Rattle.lists.specs.Orders.{numbers}
use Rattle.lists.specs.Bits.{is_set}

-- the edges below n whose bits are set, ascending
abbrev pub edges_in : ℕ → ℕ → List ℕ
edges_in n set = filter (is_set set) (numbers n)

-- A list in order stays in order under a map that keeps the order of its members.
use Rattle.std.proofs.Common.{◌≡◌, ℕ, List}
use Rattle.lists.specs.Orders.{sorted}
use Rattle.lists.proofs.Sorting.{inversions-sorted}
use Rattle.lists.proofs.Ascending.{ascending-nil}

-- a sorted list is in order
pub sorted_twice : (xs : List ℕ) → sorted (sorted xs) ≡ sorted xs
sorted_twice xs = ascending-nil (sorted xs) (inversions-sorted xs)

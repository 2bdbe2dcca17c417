-- Lists of the labels to which the moves of one kind carry a label.
use Rattle.std.specs.Prelude.{ℕ, ◌^◌, ◌<◌, List, [], length, slice_index, slice_index_or}
use Rattle.iso_model.specs.Moves.{Carries}
use Rattle.lists.specs.Orders.{numbers, orders}

-- the labels to which the orders of the axes carry a label without flips, in ascending order of the orders
abbrev pub AreByOrders : ℕ → ℕ → List ℕ → Type 0
AreByOrders d label labels =
    (n : ℕ) → n < length (orders d) → Carries d (record { axes = slice_index_or (orders d) n []; flips = 0 }) label (slice_index labels n)

-- the labels to which flips carry a label in place, in ascending order of the flips
abbrev pub AreByFlips : ℕ → ℕ → List ℕ → Type 0
AreByFlips d label labels = (f : ℕ) → f < 2 ^ d → Carries d (record { axes = numbers d; flips = f }) label (slice_index labels f)

use Rattle.std.proofs.Common.{◌≡◌, ℕ, ◌-◌, ◌<◌, length, [], slice_index_or}
use Rattle.cube_moves.specs.declared.tables.TheConstants.{ORDERS}
use Rattle.cube_moves.proofs.words.order_at.Given as goal

abbrev pub invariant-loop-axis : goal.invariant-loop-axis
invariant-loop-axis g l =
    (length l.axes ≡ g.row.D)
    × ((i : ℕ) → i < l.axis → slice_index_or l.axes i 0 ≡ slice_index_or (slice_index_or (slice_index_or ORDERS (g.row.D - 2) []) l.number []) i 0)

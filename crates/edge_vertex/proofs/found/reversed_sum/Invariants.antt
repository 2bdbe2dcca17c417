use Rattle.std.proofs.Common.{◌≡◌, ℕ, ◌+◌, ◌-◌, ◌<◌, length, slice_index_or}
use Rattle.edge_vertex.proofs.found.reversed_sum.Given as goal

abbrev pub invariant-loop-axis : goal.invariant-loop-axis
invariant-loop-axis g l =
    (length l.sum ≡ g.row.D)
    × ((i : ℕ) → i < l.axis → slice_index_or l.sum i 0 ≡ slice_index_or l.p (g.row.D - 1 - i) 0 + slice_index_or l.q (g.row.D - 1 - i) 0)

use Rattle.std.proofs.Common.{◌≡◌, ℕ, ◌<◌, length, pos, ◌+ℤ◌, slice_index_or}
use Rattle.cell_lattice.proofs.Cell.edge_mid.Given as goal

abbrev pub invariant-loop-axis : goal.invariant-loop-axis
invariant-loop-axis g l =
    (length l.sum ≡ g.row.D) × ((i : ℕ) → i < l.axis → slice_index_or l.sum i (pos 0) ≡ slice_index_or l.from i (pos 0) +ℤ slice_index_or l.to i (pos 0))

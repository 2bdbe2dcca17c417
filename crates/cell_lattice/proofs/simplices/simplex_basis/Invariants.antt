use Rattle.std.proofs.Common.{◌≡◌, ℕ, ◌-◌, ◌<◌, length, [], slice_index_or}
use Rattle.cell_lattice.specs.declared.simplices.TheConstants.{BASES}
use Rattle.cell_lattice.proofs.simplices.simplex_basis.Given as goal

abbrev pub invariant-loop-axis : goal.invariant-loop-axis
invariant-loop-axis g l =
    (length l.basis ≡ g.row.D)
    × ((i : ℕ) → i < l.axis → slice_index_or l.basis i 0 ≡ slice_index_or (slice_index_or (slice_index_or BASES (g.row.D - 2) []) l.corner []) i 0)

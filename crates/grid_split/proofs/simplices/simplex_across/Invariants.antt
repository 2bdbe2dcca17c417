use Rattle.std.proofs.Common.{◌≡◌, ℕ, ◌<◌, length, pos, slice_index_or}
use Rattle.grid_split.specs.Shifts.{shift_at_place}
use Rattle.grid_split.proofs.simplices.simplex_across.Given as goal

abbrev pub invariant-loop-axis : goal.invariant-loop-axis
invariant-loop-axis g l =
    (length l.shift ≡ g.row.D) × ((i : ℕ) → i < l.axis → slice_index_or l.shift i (pos 0) ≡ shift_at_place (slice_index_or l.places i 0) l.facet l.last)

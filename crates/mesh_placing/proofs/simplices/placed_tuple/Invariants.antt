use Rattle.std.proofs.Common.{◌≡◌, ℕ, ◌<◌, length, slice_index}
use Rattle.mesh_placing.proofs.simplices.placed_tuple.Given as goal

abbrev pub invariant-loop-place : goal.invariant-loop-place
invariant-loop-place g l = (length l.simplex ≡ g.row.D) × ((i : ℕ) → i < l.place → slice_index l.simplex i ≡ slice_index l.places (slice_index l.tuple i))

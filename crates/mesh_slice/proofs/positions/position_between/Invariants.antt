use Rattle.std.proofs.Common.{◌≡◌, ℕ, ◌<◌, length, pos, slice_index_or}
use Rattle.mesh_slice.specs.Slices.{coordinate_between}
use Rattle.mesh_slice.proofs.positions.position_between.Given as goal

abbrev pub invariant-loop-axis : goal.invariant-loop-axis
invariant-loop-axis l =
    (length l.position ≡ 3) × ((i : ℕ) → i < l.axis → slice_index_or l.position i (pos 0) ≡ coordinate_between l.low l.high l.part l.way i)

use Rattle.std.proofs.Common.{◌≡◌, ℕ, ◌<◌, length, slice_index}
use Rattle.layer_mesh.proofs.cells.CubeCell.numbers.Given as goal

abbrev pub invariant-loop-edge : goal.invariant-loop-edge
invariant-loop-edge l =
    (length l.own ≡ 32) × ((e : ℕ) → e < l.edge → slice_index l.own e ≡ slice_index l.numbers (slice_index l.self.places e))

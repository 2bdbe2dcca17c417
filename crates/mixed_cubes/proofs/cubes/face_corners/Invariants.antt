use Rattle.std.proofs.Common.{◌≡◌, ℕ, ◌*◌, ◌<◌, length}
use Rattle.std.specs.Prelude.{slice_index}
use Rattle.mixed_cubes.specs.CubeFaces.{corner_number as corner_number_of}
use Rattle.mixed_cubes.proofs.cubes.face_corners.Given as goal

abbrev pub invariant-loop-corner : goal.invariant-loop-corner
invariant-loop-corner l = (length l.steps ≡ 8) × ((k : ℕ) → k < l.corner → slice_index l.steps k ≡ l.size * corner_number_of l.others k)

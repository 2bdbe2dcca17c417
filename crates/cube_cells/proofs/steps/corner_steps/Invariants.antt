use Rattle.std.proofs.Common.{◌≡◌, ℕ, ◌<◌, length}
use Rattle.std.specs.Prelude.{slice_index}
use Rattle.mixed_cubes.specs.CubeFaces.{corner_number as corner_number_of}
use Rattle.cube_cells.proofs.steps.corner_steps.Given as goal

abbrev pub invariant-loop-corner : goal.invariant-loop-corner
invariant-loop-corner l = (length l.steps ≡ 16) × ((k : ℕ) → k < l.corner → slice_index l.steps k ≡ corner_number_of l.sizes k)

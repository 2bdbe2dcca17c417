use Rattle.std.proofs.Common.{◌≡◌, ℕ, ◌-◌, ◌<◌, length}
use Rattle.std.specs.Prelude.{slice_index}
use Rattle.cube_cells.proofs.steps.CubeSteps.new.Given as goal

abbrev pub invariant-loop-axis : goal.invariant-loop-axis
invariant-loop-axis g l = (length l.spans ≡ g.row.D) × ((i : ℕ) → i < l.axis → slice_index l.spans i ≡ slice_index l.sizes i - 1)

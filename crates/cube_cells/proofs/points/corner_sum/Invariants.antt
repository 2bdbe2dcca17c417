use Rattle.std.proofs.Common.{◌≡◌, ◌*◌, ◌≤◌, take}
use Rattle.std.specs.Prelude.{unsigned_abs}
use Rattle.iso_model.specs.Turns.{total}
use Rattle.mixed_cubes.specs.CubeFaces.{face_samples}
use Rattle.cube_cells.proofs.points.corner_sum.Given as goal

abbrev pub invariant-loop-step : goal.invariant-loop-step
invariant-loop-step l = (l.sum ≡ total (face_samples l.samples (take l.step-index l.steps) l.first)) × (unsigned_abs l.sum ≤ l.step-index * 4294967296)

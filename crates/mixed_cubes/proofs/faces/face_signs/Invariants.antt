use Rattle.std.proofs.Common.{◌≡◌, not, int_le, take}
use Rattle.std.specs.List.{list_any}
use Rattle.mixed_cubes.specs.CubeFaces.{face_samples}
use Rattle.mixed_cubes.proofs.faces.face_signs.Given as goal

abbrev pub invariant-loop-step : goal.invariant-loop-step
invariant-loop-step l =
    (l.above ≡ list_any (λ s. int_le l.iso s) (face_samples l.samples (take l.step-index l.steps) l.first))
    × (l.below ≡ list_any (λ s. not (int_le l.iso s)) (face_samples l.samples (take l.step-index l.steps) l.first))

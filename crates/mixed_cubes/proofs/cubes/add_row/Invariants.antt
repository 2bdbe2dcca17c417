use Rattle.std.proofs.Common.{◌≡◌, ◌+◌, ◌-◌, ◌++◌, not, int_le}
use Rattle.std.specs.Prelude.{map, filter}
use Rattle.std.specs.List.{range_with_len, list_any}
use Rattle.mixed_cubes.specs.CubePlaces.{place_in_row}
use Rattle.mixed_cubes.specs.CubeFaces.{face_samples, is_mixed_from}
use Rattle.mixed_cubes.proofs.cubes.add_row.Given as goal

abbrev pub invariant-loop-place : goal.invariant-loop-place
invariant-loop-place l = record {
  cubes :
      l.cubes.items
      ≡ l.initial.cubes.items
      ++ map (place_in_row l.first l.number)
      (filter (λ c. is_mixed_from l.iso l.samples l.steps (l.first + (c - l.number))) (range_with_len l.number l.place));
  above : l.near.above ≡ list_any (λ s. int_le l.iso s) (face_samples l.samples l.steps (l.first + l.place));
  below : l.near.below ≡ list_any (λ s. not (int_le l.iso s)) (face_samples l.samples l.steps (l.first + l.place));
}

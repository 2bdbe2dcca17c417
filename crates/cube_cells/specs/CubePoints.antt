-- What is read of a cube: its place from its number, and the signs of its points by their numbers.
use Rattle.std.specs.Prelude.{◌≡◌, ℕ, ◌+◌, ◌^◌, ◌<◌, Bool, ◌==◌, List, map, length, slice_index, slice_index_or, sum_by, ℤ, pos, int_le, if◌then◌else◌}
use Rattle.lists.specs.Orders.{numbers}
use Rattle.lists.specs.Bits.{is_set}
use Rattle.iso_model.specs.Turns.{total}
use Rattle.iso_model.specs.Values.{is_positive}
use Rattle.mixed_cubes.specs.CubeFaces.{face_samples}

-- the sizes of a grid with these numbers of cubes along its axes
abbrev pub sizes_of : List ℕ → List ℕ
sizes_of spans = map (λ n. n + 1) spans

-- the number whose bit k, for k below n, is set where the test holds, and no other bit
abbrev pub set_of : (ℕ → Bool) → ℕ → ℕ
set_of test n = sum_by (λ k. if test k then 2 ^ k else 0) (numbers n)

-- the sample at corner k of the cube whose first sample has the number `first`
abbrev pub corner_sample : List ℤ → List ℕ → ℕ → ℕ → ℤ
corner_sample samples steps first k = slice_index_or samples (first + slice_index steps k) (pos 0)

-- the number of a point of a cube, by its offset from the cube's first corner: corner k has the number k, and the centre 8
abbrev pub point_number : ℕ → List ℕ → ℕ
point_number d offset = if slice_index offset 0 == 1 then 8 else set_of (λ i. slice_index offset i == 2) d

-- bit k of a set, for each corner k of the cube whose first sample has the number `first`, is set where the sample there is at least the isovalue
abbrev pub HasCornerSigns : ℤ → List ℤ → List ℕ → ℕ → ℕ → Type 0
HasCornerSigns iso samples steps first set = (k : ℕ) → k < length steps → is_set set k ≡ int_le iso (corner_sample samples steps first k)

-- where a cube has eight corners, bit 8 of a set is set where its centre is positive
abbrev pub HasCentreSign : ℤ → List ℤ → List ℕ → ℕ → ℕ → Type 0
HasCentreSign iso samples steps first set = length steps ≡ 8 → is_set set 8 ≡ is_positive iso (total (face_samples samples steps first))

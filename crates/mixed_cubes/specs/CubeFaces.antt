-- Faces of cubes at right angles to axis 0, by the places of their samples. Along a row of cubes the places grow by one.
use Rattle.std.specs.Prelude.{ℕ, ◌+◌, ◌*◌, ◌^◌, Bool, List, ◌++◌, length, map, slice_index_or, ℤ, pos}
use Rattle.std.specs.Int.{bit_at}
use Rattle.lists.specs.Orders.{numbers}
use Rattle.iso_model.specs.Points.{point}
use Rattle.iso_model.specs.Values.{sample_number}
use Rattle.mixed_cubes.specs.Mixed.{are_mixed}

-- how far sample k of a cube's first samples along each of these axes is from the first: bit i of k is its place in axis i
abbrev pub corner_number : List ℕ → ℕ → ℕ
corner_number sizes k = sample_number sizes (point (length sizes) (λ i. bit_at k i))

-- how far the samples of a face are from its first, where axis 0 has this size and the others have those
abbrev pub face_steps : ℕ → List ℕ → List ℕ
face_steps size others = map (λ k. size * corner_number others k) (numbers (2 ^ length others))

-- the samples of the face whose first sample has this number
abbrev pub face_samples : List ℤ → List ℕ → ℕ → List ℤ
face_samples samples steps first = map (λ step. slice_index_or samples (first + step) (pos 0)) steps

-- the cube between the face whose first sample has this number and the next face is mixed
abbrev pub is_mixed_from : ℤ → List ℤ → List ℕ → ℕ → Bool
is_mixed_from iso samples steps first = are_mixed iso (face_samples samples steps first ++ face_samples samples steps (first + 1))

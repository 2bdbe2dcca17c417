-- Where the cubes of a grid are.
use Rattle.std.specs.Prelude.{◌≡◌, ℕ, ◌+◌, ◌-◌, List, ◌++◌, map, filter, ℤ, Vec}
use Rattle.std.specs.List.{range_with_len}
use Rattle.lists.specs.Orders.{numbers}
use Rattle.iso_model.specs.Splits.{cube_at, cube_count}
use Rattle.iso_model.specs.Values.{sample_number}
use Rattle.mixed_cubes.specs.Mixed.{is_mixed}
use Rattle.mixed_cubes.specs.CubeFaces.{is_mixed_from}
use Rattle.mixed_cubes.specs.declared.cubes.CubePlace.{CubePlace}

-- where the cube of this number is: its number, and that of the sample at its first corner
abbrev pub place_of : List ℕ → ℕ → CubePlace
place_of sizes c = record { number = c; sample = sample_number sizes (cube_at sizes c) }

-- where the cube of number c is, in the row whose first cube has the number `number` and whose first sample has the number `first`
abbrev pub place_in_row : ℕ → ℕ → ℕ → CubePlace
place_in_row first number c = record { number = c; sample = first + (c - number) }

-- where the mixed cubes of a grid of these sizes and samples are, in ascending order of their numbers
abbrev pub mixed_places : List ℕ → List ℤ → ℤ → List CubePlace
mixed_places sizes samples iso =
    map (place_of sizes) (filter (is_mixed (record { sizes = sizes; samples = samples }) iso) (numbers (cube_count sizes)))

-- where the mixed cubes of a row are, which has `span` cubes, the first with the number `number`, and whose first sample has the number `first`
abbrev pub mixed_in_row : ℤ → List ℤ → List ℕ → ℕ → ℕ → ℕ → List CubePlace
mixed_in_row iso samples steps first number span =
    map (place_in_row first number) (filter (λ c. is_mixed_from iso samples steps (first + (c - number))) (range_with_len number span))

-- they are added to a list, at its end
abbrev pub AddsRow : {A : Type 0} → ℤ → List ℤ → List ℕ → ℕ → ℕ → ℕ → Vec CubePlace A → Vec CubePlace A → Type 0
AddsRow iso samples steps first number span old new = new.items ≡ old.items ++ mixed_in_row iso samples steps first number span

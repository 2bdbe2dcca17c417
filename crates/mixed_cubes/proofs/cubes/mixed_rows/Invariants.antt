use Rattle.std.proofs.Common.{◌≡◌, ◌*◌, ◌∷◌}
use Rattle.std.specs.Prelude.{map, filter}
use Rattle.lists.specs.Orders.{numbers}
use Rattle.mixed_cubes.specs.CubePlaces.{place_of}
use Rattle.mixed_cubes.specs.Mixed.{is_mixed}
use Rattle.mixed_cubes.proofs.cubes.mixed_rows.Given as goal

abbrev pub invariant-loop-row : goal.invariant-loop-row
invariant-loop-row l =
    l.cubes.items
    ≡ map (place_of (l.size ∷ l.others))
    (filter (is_mixed (record { sizes = l.size ∷ l.others; samples = l.samples }) l.iso) (numbers (l.row * l.span)))

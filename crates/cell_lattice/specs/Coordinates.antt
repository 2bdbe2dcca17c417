-- The coordinates of the corners of a canonical cell.
use Rattle.std.specs.Prelude.{ℤ, pos, ◌≤ℤ◌}

-- a canonical cell lies between 0 and 2 in each axis
abbrev pub IsCoordinate : ℤ → Type 0
IsCoordinate x = (pos 0 ≤ℤ x) × (x ≤ℤ pos 2)

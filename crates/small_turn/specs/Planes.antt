-- The half-space through points.
use Rattle.std.specs.Prelude.{◌≡◌, ◌↔◌, ◌-ℤ◌, ℕ, ℤ, List, length}
use Rattle.iso_model.specs.Turns.{turn, dot, rows_to, HasNormal, Spans}

-- on which side of the half-space a point lies, and how far off, is the turn of the rows through the points to it
abbrev pub TurnsTo : ℕ → List (List ℤ) → List ℤ → ℤ → Type 0
TurnsTo d points normal bound = (x : List ℤ) → length x ≡ d → dot normal x -ℤ bound ≡ turn (rows_to points x)

-- the normal is not zero exactly where the points span a hyperplane
abbrev pub HasNormalWhereSpan : List (List ℤ) → List ℤ → ℤ → Type 0
HasNormalWhereSpan points normal bound = HasNormal (record { normal = normal; bound = bound }) ↔ Spans points

-- The bits at the corners of cubes. A cube lies between a lower and an upper slice and from x to x + 1 along axis 0, so it
-- has four corners in each pair of rows of samples, one of the lower slice and one of the upper.
use Rattle.std.specs.Prelude.{ℕ, ◌+◌, ◌≡◌, Bool, not, ◌&&◌, ◌||◌, List, length, All}
use Rattle.std.specs.List.{list_all, list_any}
use Rattle.bit_rows.specs.Rows.{row_bit}
use Rattle.grid_rows.specs.declared.planes.BitPlane.{BitPlane}
use Rattle.grid_rows.specs.Planes.{bit_row, HasRowOfBits}

-- the bits at the four corners of the cube at x in a row of the lower slice and one of the upper are all set
abbrev pub all_four : List ℕ → List ℕ → ℕ → Bool
all_four lower upper x = (row_bit lower x && row_bit lower (x + 1)) && (row_bit upper x && row_bit upper (x + 1))

-- one of them is set
abbrev pub some_of_four : List ℕ → List ℕ → ℕ → Bool
some_of_four lower upper x = (row_bit lower x || row_bit lower (x + 1)) || (row_bit upper x || row_bit upper (x + 1))

-- the bits at all corners of the cube at x, which lie in the rows of these numbers, are set
abbrev pub every_corner : BitPlane → BitPlane → List ℕ → ℕ → Bool
every_corner lower upper corners x = list_all (λ n. all_four (bit_row lower n) (bit_row upper n) x) corners

-- the bit at some corner is set
abbrev pub some_corner : BitPlane → BitPlane → List ℕ → ℕ → Bool
some_corner lower upper corners x = list_any (λ n. some_of_four (bit_row lower n) (bit_row upper n) x) corners

-- the bits at the corners differ: one is set, and not all are
abbrev pub mixed_corners : BitPlane → BitPlane → List ℕ → ℕ → Bool
mixed_corners lower upper corners x = some_corner lower upper corners x && not (every_corner lower upper corners x)

-- both planes have the rows of these four numbers, in rows of equally many words
abbrev pub HaveCorners : BitPlane → BitPlane → List ℕ → Type 0
HaveCorners lower upper corners =
    (upper.words ≡ lower.words) × All (λ n. HasRowOfBits lower n × HasRowOfBits upper n) corners × (length corners ≡ 4)

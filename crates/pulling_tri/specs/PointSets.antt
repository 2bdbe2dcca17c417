-- The sets of points that numbers of 64 bits stand for.
use Rattle.std.specs.Prelude.{ℕ, List, map, Contains}
use Rattle.lists.specs.Bits.{set_of}

-- the set of a number: point i is a member where bit i is set
unfoldable pub point_set : ℕ → List ℕ
point_set number = set_of number

-- the set is one of those of the numbers
abbrev pub IsOneOf : List ℕ → List ℕ → Type 0
IsOneOf numbers = Contains (map point_set numbers)

-- Work in parts: which items each piece has.
use Rattle.std.specs.Prelude.{ℕ, ◌*◌, ◌/◌}

-- where the items of a piece start, of so many items in so many parts: at the share of the pieces before it, rounded down
abbrev pub start_of : ℕ → ℕ → ℕ → ℕ
start_of items parts piece = piece * items / parts

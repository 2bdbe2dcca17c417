-- The end of a line.
use Rattle.std.specs.Prelude.{◌≡◌, ℕ, ◌+◌, ◌-◌, ◌<◌, ◌==◌, nat_eq, List, length, take, drop, slice_index, if◌then◌else◌}
use Rattle.std.specs.List.{before_first, position_or_len}

-- the text without a CR at its end
abbrev pub without_return : List ℕ → List ℕ
without_return text = if slice_index text (length text - 1) == 13 then take (length text - 1) text else text

-- the text of the first line
abbrev pub first_text : List ℕ → List ℕ
first_text bytes = without_return (before_first (nat_eq 10) bytes)

-- the place of the first LF from a place on
abbrev pub feed_from : List ℕ → ℕ → ℕ
feed_from bytes from = from + position_or_len (nat_eq 10) (drop from bytes)

-- where there is an LF from a place on, this is the place behind the first one
abbrev pub IsBehindFeed : List ℕ → ℕ → ℕ → Type 0
IsBehindFeed bytes from next = feed_from bytes from < length bytes → next ≡ feed_from bytes from + 1

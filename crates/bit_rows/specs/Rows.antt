-- Rows of bits in words of 64.
use Rattle.std.specs.Prelude.{ℕ, ◌*◌, ◌+◌, ◌-◌, ◌/◌, ◌%◌, ◌<◌, ◌≡◌, Bool, ◌&&◌, nat_lt, List, count_by, slice_index}
use Rattle.lists.specs.Bits.{is_set, set_of}
use Rattle.lists.specs.Orders.{numbers}

-- bit x of a row: bit x % 64 of word x / 64; past the row's last word no bit is set
abbrev pub row_bit : List ℕ → ℕ → Bool
row_bit row x = is_set (slice_index row (x / 64)) (x % 64)

-- bit x of the row moved down by one place: bit x + 1 of the row
abbrev pub moved_down : List ℕ → ℕ → Bool
moved_down row x = row_bit row (x + 1)

-- bit x of the row moved up by one place: bit x - 1 of the row, and no bit at 0
abbrev pub moved_up : List ℕ → ℕ → Bool
moved_up row x = nat_lt 0 x && row_bit row (x - 1)

-- a word is word w of the row whose bit x says whether x passes
abbrev pub IsWordOf : (ℕ → Bool) → ℕ → ℕ → Type 0
IsWordOf passes w word = (k : ℕ) → k < 64 → is_set word k ≡ passes (64 * w + k)

-- bit x of a row says whether x passes, for each x
abbrev pub IsRowOf : (ℕ → Bool) → List ℕ → Type 0
IsRowOf passes row = (x : ℕ) → row_bit row x ≡ passes x

-- how many bits of a word are set below a place
abbrev pub set_below : ℕ → ℕ → ℕ
set_below word place = count_by (is_set word) (numbers place)

-- the places of the bits of a word that are set, in ascending order
unfoldable pub places : ℕ → List ℕ
places word = set_of word

-- how many words a row of this many bits has: one for each 64, and one for those that are left
abbrev pub word_count : ℕ → ℕ
word_count bits = (bits + 63) / 64

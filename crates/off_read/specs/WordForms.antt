-- What is known of a word by the bytes of it that came.
use Rattle.std.specs.Prelude.{◌≡◌, ℕ, ◌^◌, ◌||◌, Bool, true, nat_lt, List, codes, min, take, Option, Some, None, if◌then◌else◌}
use Rattle.std.specs.List.{list_any, list_all}
use Rattle.std.specs.Char.{is_ascii_digit}
use Rattle.std.specs.Str.{all_ascii_digits}
use Rattle.lists.specs.Orders.{has}
use Rattle.iso_formats.specs.HeaderLines.{is_numeral, numeral_value}
use Rattle.iso_formats.specs.MeshFile.{is_count, is_index}

-- a word: its line; its first bytes; the number that its digits write; whether its bytes are all digits, whether one is, and whether all may stand in a
-- coordinate
pub record Known : Type 0 where
  pub line : ℕ
  pub front : List ℕ
  pub value : ℕ
  pub all_digits : Bool
  pub some_digit : Bool
  pub coordinate : Bool

-- these are the bytes that came: the first five of them are kept, each test of them is answered, and where all are digits, the number that they write is
-- kept, up to 2^32
pub record IsSoFar (w : Known) (text : List ℕ) : Type 0 where
  pub front : w.front ≡ take 5 text
  pub digits : w.all_digits ≡ all_ascii_digits text
  pub some : w.some_digit ≡ list_any is_ascii_digit text
  pub standing : w.coordinate ≡ list_all (λ c. is_ascii_digit c || has (codes "+-.eE") c) text
  pub counted : all_ascii_digits text ≡ true → w.value ≡ min (2 ^ 32) (numeral_value text)

-- the number that a text writes, up to 2^32, where it is a numeral
abbrev pub capped_numeral : List ℕ → Option ℕ
capped_numeral text = if is_numeral text then Some (min (2 ^ 32) (numeral_value text)) else None

-- the number, where it is below a bound
abbrev pub below : ℕ → Option ℕ → Option ℕ
below bound (Some n) = if nat_lt n bound then Some n else None
below bound None = None

-- the number of vertices or faces that a text writes, where it does
abbrev pub count_of : List ℕ → Option ℕ
count_of text = if is_count text then Some (numeral_value text) else None

-- the vertex, of so many, that a text writes, where it does
abbrev pub index_of : ℕ → List ℕ → Option ℕ
index_of vertices text = if is_index vertices text then Some (numeral_value text) else None

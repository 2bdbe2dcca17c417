-- The bytes at the front of a file, while its header is taken.
use Rattle.std.specs.Prelude.{◌≡◌, ◌⊎◌, ℕ, ◌<◌, ◌≤◌, true, false, List, [], ◌∷◌, ◌++◌, map, length, take, drop, slice_index, slice_index_or, flat_map}
use Rattle.std.specs.Prelude.{codes, Option, IfSome, IsSome, IsTrue}
use Rattle.std.specs.List.{AllPass}
use Rattle.std.specs.Io.KnownBytes.{Consumes}
use Rattle.lists.specs.Orders.{has}
use Rattle.iso_formats.specs.HeaderLines.{Line, is_line, line_bytes, is_filled, HasLines, is_first_line, begins_right}
use Rattle.nrrd_raw.specs.declared.faults.GridFault.{GridFault}
use Rattle.nrrd_raw.specs.declared.faults.GridFault.TheVariants.{Magic}
use Rattle.nrrd_raw.specs.GridFaultWords.{blame_of}

abbrev pub texts_of : List Line → List (List ℕ)
texts_of ls = map (λ (l : Line). l.text) ls

-- whole lines that are not empty, the first one right, and a part without LF
pub record HasFront (front : List ℕ) (start : ℕ) : Type 0 where
  pub lines : List Line
  pub are_lines : AllPass is_line lines
  pub filled : AllPass is_filled (texts_of lines)
  pub first : IsTrue (is_first_line (slice_index_or (texts_of lines) 0 []))
  pub within : start ≤ length front
  pub spelled : take start front ≡ flat_map line_bytes lines
  pub unbroken : has (drop start front) 10 ≡ false
  pub begins : (more : List ℕ) → begins_right (front ++ more) ≡ true

-- it holds of the lines' texts, where the bytes are whole lines and the first one is right
abbrev pub HoldsOfLines : List ℕ → (List (List ℕ) → Type 0) → Type 0
HoldsOfLines bytes P = (texts : List (List ℕ)) → HasLines bytes texts [] → IsTrue (is_first_line (slice_index_or texts 0 [])) → P texts

-- the front is a whole header
pub record IsFront (front : List ℕ) : Type 0 where
  pub texts : List (List ℕ)
  pub lines : HasLines front texts []
  pub first : IsTrue (is_first_line (slice_index_or texts 0 []))
  pub begins : (more : List ℕ) → begins_right (front ++ more) ≡ true

-- a byte within these bounds was taken and stands behind the others
pub record TakesFitting {S : Type 0} (rest : S → Option (List ℕ)) (old new : S) (low high : ℕ) (before after : List ℕ) : Type 0 where
  pub byte : ℕ
  pub above : low ≤ byte
  pub below : byte ≤ high
  pub pushed : after ≡ before ++ byte ∷ []
  pub taken : Consumes (rest old) (rest new) (byte ∷ [])

-- the shelf is blamed, or the next byte is none of these, or is not there
abbrev pub IsUnfit : Option (List ℕ) → ℕ → ℕ → GridFault → Type 0
IsUnfit old least greatest fault =
    IsSome (blame_of fault) ⊎ ((fault ≡ Magic) × IfSome old (λ bytes. (slice_index bytes 0 < least) ⊎ (greatest < slice_index bytes 0)))

-- the shelf is blamed, or the bytes begin with no first line
abbrev pub IsNoBeginning : Option (List ℕ) → GridFault → Type 0
IsNoBeginning old fault = IsSome (blame_of fault) ⊎ ((fault ≡ Magic) × IfSome old (λ bytes. begins_right bytes ≡ false))

-- the least and the greatest first eight bytes
abbrev pub least_first : List ℕ
least_first = codes "NRRD0001"

abbrev pub greatest_first : List ℕ
greatest_first = codes "NRRD0005"

-- the first bytes fit
pub record FitsFirst (front : List ℕ) (place : ℕ) : Type 0 where
  pub len : length front ≡ place
  pub fits : (k : ℕ) → k < place → (slice_index least_first k ≤ slice_index front k) × (slice_index front k ≤ slice_index greatest_first k)

-- What a call takes of the rest of a file.
use Rattle.std.specs.Prelude.{ℕ, ◌<◌, ◌≤◌, List, [], ◌∷◌, length, take, Option, Some, None}
use Rattle.std.specs.Io.KnownBytes.{Consumes, IsAtEnd, Keeps}

-- so many bytes came and stand at the front of the buffer, and where that is not full, the file has ended
pub record FillsUp (old new : Option (List ℕ)) (buf : List ℕ) (count : ℕ) : Type 0 where
  pub within : count ≤ length buf
  pub came : Consumes old new (take count buf)
  pub ended : count < length buf → IsAtEnd new

-- the next byte was taken, or the file has ended
abbrev pub TakesByte : Option (List ℕ) → Option (List ℕ) → Option ℕ → Type 0
TakesByte old new None = Keeps old new × IsAtEnd new
TakesByte old new (Some byte) = Consumes old new (byte ∷ [])

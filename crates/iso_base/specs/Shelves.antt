-- What a call leaves of a shelf that is lent to it, when it may blame it, and how much of a file it takes.
use Rattle.std.specs.Prelude.{◌≡◌, ◌≤◌, ℕ, List, length, Option, Some, None, ⊤}
use Rattle.std.specs.Io.KnownBytes.{Consumes}
use Rattle.iso_base.specs.Faults.{Rose}
use Rattle.iso_base.specs.Files.{Files}

-- the count of faults did not fall, the files stay, and a sound shelf stays sound
pub record IsSameShelf {S : Type 0} (faults : S → ℕ) (files : S → Option Files) (sound : S → Type 0) (old new : S) : Type 0 where
  pub later : faults old ≤ faults new
  pub stay : files new ≡ files old
  pub sound_stays : sound old → sound new

-- a shelf is blamed, where it is, only where its count of faults rose, and with the count after the call
abbrev pub IsFairBlame : ℕ → ℕ → Option ℕ → Type 0
IsFairBlame before now None = ⊤
IsFairBlame before now (Some count) = Rose before now × (count ≡ now)

-- known bytes lose so many at most, off their front
abbrev pub TakesAtMost : ℕ → Option (List ℕ) → Option (List ℕ) → Type 0
TakesAtMost most old new = (bytes : List ℕ) × (length bytes ≤ most) × Consumes old new bytes

-- What may have been taken of a file while nothing is decided.
use Rattle.std.specs.Prelude.{ℕ, ◌-◌, ◌<◌, ◌≤◌, ◌⊎◌, ◌++◌, List, length, take, Option, Result, IfErr, IfSome, IsTrue}
use Rattle.std.specs.Io.KnownBytes.{Consumes, Keeps}
use Rattle.iso_model.specs.Values.{product}
use Rattle.iso_formats.specs.HeaderLines.{begins_right, header_limit}
use Rattle.iso_formats.specs.GridFile.{HasHeader, Header, sample_limit}
use Rattle.iso_formats.specs.GridFaults.{HasNoLines}
use Rattle.nrrd_raw.specs.declared.faults.GridFault.{GridFault}
use Rattle.nrrd_raw.specs.FaultCauses.{data_length}
use Rattle.nrrd_raw.specs.GridFaultWords.{blame_of}

-- known bytes lose some off their front, of which this holds
abbrev pub TakesSuch : (List ℕ → Type 0) → Option (List ℕ) → Option (List ℕ) → Type 0
TakesSuch P old new = (bytes : List ℕ) × P bytes × Consumes old new bytes

-- the shelf is blamed only where this holds of what was taken
abbrev pub BlamesWhile : {T : Type 0} → (List ℕ → Type 0) → Option (List ℕ) → Option (List ℕ) → Result T GridFault → Type 0
BlamesWhile P old new result = IfErr result (λ fault. IfSome (blame_of fault) (λ count. TakesSuch P old new))

-- where the shelf is blamed, nothing was taken
abbrev pub BlamesUntouched : {T : Type 0} → Option (List ℕ) → Option (List ℕ) → Result T GridFault → Type 0
BlamesUntouched old new result = IfErr result (λ fault. IfSome (blame_of fault) (λ count. Keeps old new))

-- the shelf is blamed only where fewer bytes than these were taken
abbrev pub BlamesBefore : {T : Type 0} → ℕ → Option (List ℕ) → Option (List ℕ) → Result T GridFault → Type 0
BlamesBefore most old new result = BlamesWhile (λ bytes. length bytes < most) old new result

-- the bytes can still begin a header that is not ended: with some bytes behind them they begin with a first line, they hold no end of a header, and
-- they are fewer than a header may have
pub record IsOpenHeader (bytes : List ℕ) : Type 0 where
  pub begun : (more : List ℕ) × IsTrue (begins_right (bytes ++ more))
  pub unended : HasNoLines bytes
  pub short : length bytes < header_limit

-- no byte stands behind one that decides: without their last one, the bytes can still begin a header that is not ended
abbrev pub EndsOpenHeader : List ℕ → Type 0
EndsOpenHeader bytes = IsOpenHeader (take (length bytes - 1) bytes)

-- behind the header, nothing is decided by so many bytes: the sizes are not too large, and there are no more bytes than the samples have
pub record IsOpenData (h : Header) (bytes : List ℕ) : Type 0 where
  pub few : product h.sizes ≤ sample_limit
  pub short : length bytes ≤ data_length h

-- bytes of a grid file decide nothing: they can still begin a header that is not ended, or they begin with a header, and nothing is decided by what
-- stands behind it
abbrev pub IsOpenFile : List ℕ → Type 0
IsOpenFile bytes = IsOpenHeader bytes ⊎ ((h : Header) × (data_bytes : List ℕ) × HasHeader bytes h data_bytes × IsOpenData h data_bytes)

-- no byte stands behind one that decides: without their last one, the bytes decide nothing
abbrev pub EndsOpenFile : List ℕ → Type 0
EndsOpenFile bytes = IsOpenFile (take (length bytes - 1) bytes)

-- A reader of the samples behind a header, one slice of the last axis after another.
use Rattle.std.specs.Prelude.{◌≡◌, ℕ, ◌+◌, ◌-◌, ◌*◌, ◌<◌, ◌≤◌, ◌==◌, ℤ, Bool, true, false, List, length, take, All, Option, slice_index, if◌then◌else◌}
use Rattle.std.specs.Io.KnownBytes.{IsAtEnd, Keeps}
use Rattle.iso_model.specs.Values.{product}
use Rattle.iso_formats.specs.GridFile.{Header, IsRegularHeader, sample_limit}
use Rattle.nrrd_raw.specs.declared.faults.GridFault.{GridFault}
use Rattle.nrrd_raw.specs.declared.faults.GridFault.TheVariants.{DataShort, Trailing}
use Rattle.nrrd_raw.specs.FaultCauses.{ReadsSamples, IsCutOff, IsTrailing}
use Rattle.nrrd_raw.specs.Shapes.{InRange}

-- the header, how many slices were given, and whether the reader has ended
pub record SliceReader : Type 0 where
  pub header : Header
  pub given : ℕ
  pub ended : Bool

-- how many slices there are: the size of the last axis
abbrev pub slice_count : Header → ℕ
slice_count h = slice_index h.sizes (length h.sizes - 1)

-- how many samples a slice has: the product of the other sizes
abbrev pub slice_size : Header → ℕ
slice_size h = product (take (length h.sizes - 1) h.sizes)

-- how many bytes a slice has
abbrev pub slice_length : Header → ℕ
slice_length h = slice_size h * h.width

-- the samples of a slice are those that the next bytes spell
abbrev pub ReadsSlice : Header → Option (List ℕ) → Option (List ℕ) → List ℤ → Type 0
ReadsSlice h old new slice = ReadsSamples h old new (slice_size h) slice

-- the file ends within the slice behind so many others
abbrev pub IsCutSlice : Header → ℕ → Option (List ℕ) → Option (List ℕ) → GridFault → Type 0
IsCutSlice h given old new fault = IsCutOff h old new (given * slice_size h) (slice_size h) fault

-- a reader at every moment: its header is regular with sizes that are not too large, and it gave no more slices than there are
pub record IsRegularReader (r : SliceReader) : Type 0 where
  pub regular : IsRegularHeader r.header
  pub few : product r.header.sizes ≤ sample_limit
  pub within : r.given ≤ slice_count r.header

-- how many bytes a step takes at most: those of a slice, and behind the last one a single byte
abbrev pub step_length : SliceReader → ℕ
step_length r = if r.given == slice_count r.header then 1 else slice_length r.header

-- a step gives the next slice: it was outstanding, and its samples are those that the next bytes spell
pub record GivesSlice (r after : SliceReader) (old new : Option (List ℕ)) (slice : List ℤ) : Type 0 where
  pub unended : r.ended ≡ false
  pub outstanding : r.given < slice_count r.header
  pub counted : after ≡ record r { given = r.given + 1 }
  pub whole : length slice ≡ slice_size r.header
  pub range : All InRange slice
  pub read : ReadsSlice r.header old new slice

-- a step finds the end of the file behind the last slice, or the reader had ended before
pub record FindsEnd (r after : SliceReader) (old new : Option (List ℕ)) : Type 0 where
  pub ended : after ≡ record r { ended = true }
  pub all_given : r.ended ≡ false → r.given ≡ slice_count r.header
  pub at_end : r.ended ≡ false → Keeps old new × IsAtEnd new

-- a step that answers true gives a slice, and one that answers false finds the end
abbrev pub Gives : SliceReader → SliceReader → Option (List ℕ) → Option (List ℕ) → List ℤ → Bool → Type 0
Gives r after old new slice true = GivesSlice r after old new slice
Gives r after old new slice false = FindsEnd r after old new

-- the file ends within the slice that is outstanding, behind the slices given; or all were given, and a byte follows
abbrev pub IsStepFault : SliceReader → Option (List ℕ) → Option (List ℕ) → GridFault → Type 0
IsStepFault r old new (DataShort count) = (r.given < slice_count r.header) × IsCutSlice r.header r.given old new (DataShort count)
IsStepFault r old new Trailing = (r.given ≡ slice_count r.header) × IsTrailing old new Trailing
IsStepFault r old new fault = Unit {0}

-- The faults of this crate as causes of the definition.
use Rattle.std.specs.Prelude.{◌≡◌, ℕ, ◌+◌, ◌*◌, ◌<◌, ◌++◌, ℤ, List, [], ◌∷◌, length, Option, Some, None, Result, IfErr, IfSome}
use Rattle.std.specs.Io.KnownBytes.{Consumes, IsAtEnd}
use Rattle.iso_formats.specs.GridFile as file
use Rattle.iso_formats.specs.GridFaults as cause
use Rattle.iso_model.specs.Values.{product}
use Rattle.nrrd_raw.specs.declared.faults.GridFault.{GridFault}
use Rattle.nrrd_raw.specs.declared.faults.GridFault.TheVariants.{Magic, HeaderLong, HeaderEnd, Line, Repeated, SampleType, Dimension, Sizes, Encoding}
use Rattle.nrrd_raw.specs.declared.faults.GridFault.TheVariants.{Endian, Skip, Detached, Missing, TooLarge, DataShort, Trailing, Shelf, Memory}

-- the cause that a fault names; a failing shelf and refused memory are none
abbrev pub cause_of : GridFault → Option cause.GridFault
cause_of Magic = Some cause.wrong_magic
cause_of HeaderLong = Some cause.header_too_long
cause_of HeaderEnd = Some cause.header_unended
cause_of (Line n) = Some (cause.unreadable_line n)
cause_of (Repeated n) = Some (cause.repeated_field n)
cause_of (SampleType n) = Some (cause.wrong_type n)
cause_of (Dimension n) = Some (cause.wrong_dimension n)
cause_of (Sizes n) = Some (cause.wrong_sizes n)
cause_of (Encoding n) = Some (cause.wrong_encoding n)
cause_of (Endian n) = Some (cause.wrong_endian n)
cause_of (Skip n) = Some (cause.wrong_skip n)
cause_of (Detached n) = Some (cause.detached_data n)
cause_of (Missing field) = Some (cause.missing_field field)
cause_of (TooLarge count) = Some (cause.sizes_too_large count)
cause_of (DataShort count) = Some (cause.data_too_short count)
cause_of Trailing = Some cause.data_trailing
cause_of (Shelf count) = None
cause_of Memory = None

-- where the bytes are told, a refusal names a cause that they have
abbrev pub NamesCause : {T : Type 0} → (List ℕ → cause.GridFault → Type 0) → Option (List ℕ) → Result T GridFault → Type 0
NamesCause HasCause told result = IfSome told (λ bytes. IfErr result (λ fault. IfSome (cause_of fault) (HasCause bytes)))

-- the product of the sizes passes the limit
abbrev pub IsLarge : file.Header → Type 0
IsLarge h = file.sample_limit < product h.sizes

-- it is that product, where it passes the limit
abbrev pub IsLargeCount : file.Header → ℕ → Type 0
IsLargeCount h count = IsLarge h × (count ≡ product h.sizes)

-- how many data bytes stand behind the header
abbrev pub data_length : file.Header → ℕ
data_length h = product h.sizes * h.width

-- so many samples were read from the bytes that came
pub record ReadsSamples (h : file.Header) (old new : Option (List ℕ)) (count : ℕ) (samples : List ℤ) : Type 0 where
  pub came : List ℕ
  pub whole : length came ≡ count * h.width
  pub taken : Consumes old new came
  pub spelled : samples ≡ file.samples_of h count came

-- so many samples more were read from the bytes that came
pub record ReadsMore {S : Type 0} (h : file.Header) (more : ℕ) (rest : S → Option (List ℕ)) (old new : S) (before after : List ℤ) : Type 0 where
  pub came : List ℕ
  pub whole : length came ≡ more * h.width
  pub taken : Consumes (rest old) (rest new) came
  pub spelled : after ≡ before ++ file.samples_of h more came

-- the file ended where bytes for so many samples should come, behind so many others
abbrev pub IsCutOff : file.Header → Option (List ℕ) → Option (List ℕ) → ℕ → ℕ → GridFault → Type 0
IsCutOff h old new before more (DataShort count) =
    (came : List ℕ) × (length came < more * h.width) × (count ≡ before * h.width + length came) × Consumes old new came × IsAtEnd new
IsCutOff h old new before more fault = Unit {0}

-- where this is the fault, a byte follows
abbrev pub IsTrailing : Option (List ℕ) → Option (List ℕ) → GridFault → Type 0
IsTrailing old new Trailing = (byte : ℕ) × Consumes old new (byte ∷ [])
IsTrailing old new fault = Unit {0}

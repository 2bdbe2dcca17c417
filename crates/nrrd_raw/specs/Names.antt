-- The words of a header, as the code reads them.
use Rattle.std.specs.Prelude.{◌≡◌, ℕ, true, false, List, [], ◌∷◌, codes, take, Option, Some, None, if◌then◌else◌}
use Rattle.iso_formats.specs.declared.Field.{Field}
use Rattle.lists.specs.Orders.{same_list}
use Rattle.iso_formats.specs.HeaderLines as lines
use Rattle.nrrd_raw.specs.declared.fields.values.Sample.{Sample}
use Rattle.nrrd_raw.specs.declared.fields.values.Sizes.{Sizes}
use Rattle.nrrd_raw.specs.declared.fields.words.Key.{Key}
use Rattle.nrrd_raw.specs.declared.fields.words.Key.TheVariants.{Skip, DataFile, Read, Other}

-- the names of each sample type
abbrev pub signed_8 : List (List ℕ)
signed_8 = codes "signed char" ∷ codes "int8" ∷ codes "int8_t" ∷ []

abbrev pub unsigned_8 : List (List ℕ)
unsigned_8 = codes "uchar" ∷ codes "unsigned char" ∷ codes "uint8" ∷ codes "uint8_t" ∷ []

abbrev pub signed_16 : List (List ℕ)
signed_16 = codes "short" ∷ codes "short int" ∷ codes "signed short" ∷ codes "signed short int" ∷ codes "int16" ∷ codes "int16_t" ∷ []

abbrev pub unsigned_16 : List (List ℕ)
unsigned_16 = codes "ushort" ∷ codes "unsigned short" ∷ codes "unsigned short int" ∷ codes "uint16" ∷ codes "uint16_t" ∷ []

abbrev pub signed_32 : List (List ℕ)
signed_32 = codes "int" ∷ codes "signed int" ∷ codes "int32" ∷ codes "int32_t" ∷ []

abbrev pub unsigned_32 : List (List ℕ)
unsigned_32 = codes "uint" ∷ codes "unsigned int" ∷ codes "uint32" ∷ codes "uint32_t" ∷ []

-- a sample's bytes, and whether it is signed
abbrev pub sample_view : Sample → lines.Sample
sample_view s = record { width = s.width; signed = s.signed }

-- no field that is read has this name
abbrev pub IsNoField : List ℕ → Type 0
IsNoField name = (field : Field) → same_list name (lines.field_name field) ≡ false

-- what a field of this name, in lower case, is read as
abbrev pub IsKey : List ℕ → Key → Type 0
IsKey name Skip = lines.is_among lines.skip_names name ≡ true
IsKey name DataFile = (lines.is_among lines.skip_names name ≡ false) × (lines.is_among lines.data_file_names name ≡ true)
IsKey name (Read field) = name ≡ lines.field_name field
IsKey name Other = (lines.is_among lines.skip_names name ≡ false) × (lines.is_among lines.data_file_names name ≡ false)
    × IsNoField name

-- the sizes without the ones beyond them
abbrev pub sizes_view : Sizes → List ℕ
sizes_view s = take s.count s.places

-- the number that a text writes, where it is one within these bounds
abbrev pub numeral_within : ℕ → ℕ → List ℕ → Option ℕ
numeral_within low high text = if lines.is_numeral_within low high text then Some (lines.numeral_value text) else None

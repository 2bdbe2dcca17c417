-- What the lines of a header state so far.
use Rattle.std.specs.Prelude.{◌≡◌, ℕ, ◌+◌, ◌≤◌, ◌++◌, map, Bool, true, List, [], ◌∷◌, length, drop, slice_index_or, Option, Some, None}
use Rattle.std.specs.Prelude.{IfSome, IsTrue, is_some, if◌then◌else◌}
use Rattle.std.specs.List.{AllPass}
use Rattle.std.specs.Option.{option_map}
use Rattle.iso_formats.specs.declared.Field.{Field}
use Rattle.iso_formats.specs.declared.Field.TheVariants.{SampleType, Dimension, Sizes, Encoding, Endian}
use Rattle.iso_formats.specs.HeaderLines as lines
use Rattle.iso_formats.specs.GridFaults.{line_of, content_fault, missing_fault, count_fault, all_fields}
use Rattle.iso_formats.specs.GridFaults as cause
use Rattle.iso_formats.specs.GridFile.{Header, SpellHeader, is_sound_line}
use Rattle.nrrd_raw.specs.declared.faults.GridFault.{GridFault}
use Rattle.nrrd_raw.specs.FaultCauses.{cause_of}
use Rattle.nrrd_raw.specs.declared.fields.values.Sample.{Sample}
use Rattle.nrrd_raw.specs.declared.fields.values.Sizes as counted
use Rattle.nrrd_raw.specs.declared.fields.stated.Stated.{Stated}
use Rattle.nrrd_raw.specs.Names.{sample_view, sizes_view}

-- a field is not there, or stands there once and is read as this
abbrev pub Reads : {X : Type 0} → (List ℕ → Option X) → List (List ℕ) → Option X → Type 0
Reads read values None = values ≡ []
Reads read values (Some x) = (value : List ℕ) × (values ≡ value ∷ []) × (read value ≡ Some x)

-- the encoding is raw
abbrev pub raw_of : List ℕ → Option Bool
raw_of value = if lines.is_raw value then Some true else None

abbrev pub raw_view : Bool → Option Bool
raw_view raw = if raw then Some true else None

-- the lines, the first one among them, state these values, and the sizes stand on this line
pub record StatesValues (sample : Option Sample) (dimension : Option ℕ) (sizes : Option (counted.Sizes × ℕ)) (raw : Bool) (big : Option Bool)
    (texts : List (List ℕ)) : Type 0 where
  pub begun : 1 ≤ length texts
  pub sample_type : Reads lines.sample_of (lines.values (lines.field_name SampleType) texts) (option_map sample_view sample)
  pub axes : Reads lines.dimension_of (lines.values (lines.field_name Dimension) texts) dimension
  pub counts : Reads lines.sizes_of (lines.values (lines.field_name Sizes) texts) (option_map (λ (p : counted.Sizes × ℕ). sizes_view p.0) sizes)
  pub counts_line : IfSome sizes (λ (p : counted.Sizes × ℕ). (line_of (lines.field_name Sizes) texts ≡ p.1) × (p.1 ≤ length texts))
  pub encoding : Reads raw_of (lines.values (lines.field_name Encoding) texts) (raw_view raw)
  pub order : Reads lines.big_endian_of (lines.values (lines.field_name Endian) texts) big

abbrev pub States : Stated → List (List ℕ) → Type 0
States s texts = StatesValues s.sample s.dimension s.sizes s.raw s.big texts

-- it holds of all lines that state these values
abbrev pub HoldsOfStated : Stated → (List (List ℕ) → Type 0) → Type 0
HoldsOfStated s P = (texts : List (List ℕ)) → States s texts → P texts

-- the lines spell the header, where the first one is right and those behind it are
abbrev pub SpellWhereSound : Header → List (List ℕ) → Type 0
SpellWhereSound h texts = AllPass is_sound_line (drop 1 texts) → IsTrue (lines.is_first_line (slice_index_or texts 0 [])) → SpellHeader texts h

-- the field stood on an earlier line
abbrev pub has_field : Stated → Field → Bool
has_field s SampleType = is_some s.sample
has_field s Dimension = is_some s.dimension
has_field s Sizes = is_some s.sizes
has_field s Encoding = s.raw
has_field s Endian = is_some s.big

-- a line with this content adds what it states, and has no cause
abbrev pub AddsLine : Stated → Stated → ℕ → lines.Content → Type 0
AddsLine s next number content = (texts : List (List ℕ)) (text : List ℕ) → lines.content text ≡ content → States s texts → number ≡ length texts + 1
    → States next (texts ++ text ∷ []) × (content_fault texts number content ≡ None)

-- a line with this content has this cause
abbrev pub HasCause : Stated → ℕ → lines.Content → GridFault → Type 0
HasCause s number content fault = (texts : List (List ℕ)) → States s texts → cause_of fault ≡ content_fault texts number content

-- a line with a field of this name and value adds what it states, and has no cause
abbrev pub AddsNamed : Stated → Stated → ℕ → List ℕ → List ℕ → Type 0
AddsNamed s next number name value = AddsLine s next number (lines.named_field name value)

-- a line with a field of this name and value has this cause
abbrev pub HasNamedCause : Stated → ℕ → List ℕ → List ℕ → GridFault → Type 0
HasNamedCause s number name value fault = HasCause s number (lines.named_field name value) fault

-- a line with this value of a field adds what it states, and has no cause
abbrev pub AddsField : Stated → Stated → ℕ → Field → List ℕ → Type 0
AddsField s next number field value = AddsNamed s next number (lines.field_name field) value

-- a line with this value of a field has this cause
abbrev pub HasFieldCause : Stated → ℕ → Field → List ℕ → GridFault → Type 0
HasFieldCause s number field value fault = HasNamedCause s number (lines.field_name field) value fault

-- the first cause of the header as a whole: a field is missing, or the sizes are not as many as the dimension
abbrev pub whole_fault : List (List ℕ) → Option cause.GridFault
whole_fault texts = lines.first_some (map (missing_fault texts) all_fields ++ count_fault texts ∷ [])

-- The grid file: a profile of NRRD. A relation between bytes and a grid.
use Rattle.std.specs.Prelude.{◌≡◌, ◌⊎◌, ℕ, ◌+◌, ◌-◌, ◌*◌, ◌^◌, ◌≤◌, ℤ, pos, ◌-ℤ◌, Bool, true, false, ◌&&◌, not, nat_lt, nat_le, List, [], ◌∷◌, map}
use Rattle.std.specs.Prelude.{reverse, fold, length, take, drop, slice_index_or, All, Some, IsTrue, if◌then◌else◌}
use Rattle.std.specs.List.{AllPass}
use Rattle.iso_formats.specs.declared.Field.TheVariants.{SampleType, Dimension, Sizes, Encoding, Endian}
use Rattle.lists.specs.Orders.{numbers}
use Rattle.iso_model.specs.Values.{Grid, product}
use Rattle.iso_formats.specs.HeaderLines.{HasLines, Content, passed_over, named_field, unreadable, content, values, is_among, is_first_line}
use Rattle.iso_formats.specs.HeaderLines.{field_name, skip_names, data_file_names, sample_of, dimension_of, sizes_of, is_raw, big_endian_of, is_zero}

-- ---- the header

-- what a header says: the sizes, the width of a sample in bytes, whether samples are signed, and whether the high byte stands first
pub record Header : Type 0 where
  pub sizes : List ℕ
  pub width : ℕ
  pub signed : Bool
  pub big : Bool

-- what a line holds is right: a comment, a pair or a field; where the field is a skip its value is 0, and it is no data file
abbrev pub is_sound_content : Content → Bool
is_sound_content passed_over = true
is_sound_content (named_field name value) = if is_among skip_names name then is_zero value else not (is_among data_file_names name)
is_sound_content unreadable = false

-- a line between the first and the empty one is right
abbrev pub is_sound_line : List ℕ → Bool
is_sound_line text = is_sound_content (content text)

-- the lines spell the header: each of type, dimension, sizes and encoding stands once, and endian at most once, and once where a sample has more than one byte;
-- their values are among those taken, and there are as many sizes as the dimension says; all other fields are passed over
pub record SpellHeader (texts : List (List ℕ)) (h : Header) : Type 0 where
  pub first : IsTrue (is_first_line (slice_index_or texts 0 []))
  pub between : AllPass is_sound_line (drop 1 texts)
  pub sample_type :
      (value : List ℕ) × (values (field_name SampleType) texts ≡ value ∷ [])
      × (sample_of value ≡ Some (record { width = h.width; signed = h.signed }))
  pub dimension : (value : List ℕ) × (values (field_name Dimension) texts ≡ value ∷ []) × (dimension_of value ≡ Some (length h.sizes))
  pub sizes : (value : List ℕ) × (values (field_name Sizes) texts ≡ value ∷ []) × (sizes_of value ≡ Some h.sizes)
  pub encoding : (value : List ℕ) × (values (field_name Encoding) texts ≡ value ∷ []) × IsTrue (is_raw value)
  pub endian : ((values (field_name Endian) texts ≡ []) × (h.width ≡ 1) × (h.big ≡ false))
      ⊎
      ((value : List ℕ) × (big : Bool) × (values (field_name Endian) texts ≡ value ∷ []) × (big_endian_of value ≡ Some big)
      × (h.big ≡ (nat_lt 1 h.width && big)))

-- the bytes begin with a well-formed header; the data bytes follow
abbrev pub HasHeader : List ℕ → Header → List ℕ → Type 0
HasHeader bytes h data_bytes = (texts : List (List ℕ)) × HasLines bytes texts data_bytes × SpellHeader texts h

-- a header is regular: two to four sizes from 1 to 2^32 - 1, samples of 1, 2 or 4 bytes, and the low byte first where a sample has one byte
pub record IsRegularHeader (h : Header) : Type 0 where
  pub two_axes : 2 ≤ length h.sizes
  pub four_axes : length h.sizes ≤ 4
  pub sized : All (λ n. (1 ≤ n) × (n ≤ 4294967295)) h.sizes
  pub wide : (h.width ≡ 1) ⊎ ((h.width ≡ 2) ⊎ (h.width ≡ 4))
  pub plain : h.width ≡ 1 → h.big ≡ false

-- ---- the samples

-- the number that bytes spell, without a sign, in a byte order
abbrev pub number_of : Bool → List ℕ → ℕ
number_of big group = fold (λ n b. 256 * n + b) 0 (if big then group else reverse group)

-- the sample that bytes spell, in two's complement where samples are signed
abbrev pub sample_value : Header → List ℕ → ℤ
sample_value h group =
    let n = number_of h.big group in
    if h.signed && nat_le (2 ^ (8 * h.width - 1)) n then pos n -ℤ pos (2 ^ (8 * h.width)) else pos n

-- the n-th group of so many bytes
abbrev pub group_at : ℕ → List ℕ → ℕ → List ℕ
group_at width data_bytes n = take width (drop (n * width) data_bytes)

-- so many samples, the n-th spelled by the n-th group of data bytes
abbrev pub samples_of : Header → ℕ → List ℕ → List ℤ
samples_of h count data_bytes = map (λ n. sample_value h (group_at h.width data_bytes n)) (numbers count)

-- a grid has at most 2^27 samples
abbrev pub sample_limit : ℕ
sample_limit = 2 ^ 27

-- the data bytes spell the samples of the grid: the product of the sizes is at most 2^27, and there are exactly that product times the width of them
pub record SpellsSamples (h : Header) (data_bytes : List ℕ) (g : Grid) : Type 0 where
  pub few : product h.sizes ≤ sample_limit
  pub whole : length data_bytes ≡ product h.sizes * h.width
  pub grid : g ≡ record { sizes = h.sizes; samples = samples_of h (product h.sizes) data_bytes }

-- the bytes are a well-formed grid file, and spell the grid
abbrev pub SpellsGrid : List ℕ → Grid → Type 0
SpellsGrid bytes g = (h : Header) × (data_bytes : List ℕ) × HasHeader bytes h data_bytes × SpellsSamples h data_bytes g

-- Why bytes spell no grid: the causes in their order, of which the first that holds is answered. Lines are numbered from 1.
use Rattle.std.specs.Prelude.{◌≡◌, ℕ, ◌+◌, ◌-◌, ◌*◌, ◌<◌, ◌≤◌, Bool, true, false, not, ◌&&◌, ◌==◌, nat_lt, List, [], ◌∷◌, ◌++◌, map, length, take}
use Rattle.std.specs.Prelude.{drop, slice_index_or, Option, Some, None, IsTrue, IsFalse, is_some, if◌then◌else◌}
use Rattle.std.specs.List.{range_with_len, position_or_len}
use Rattle.std.specs.Option.{option_map_or}
use Rattle.iso_formats.specs.declared.Field.{Field}
use Rattle.iso_formats.specs.declared.Field.TheVariants.{SampleType, Dimension, Sizes, Encoding, Endian}
use Rattle.lists.specs.Orders.{same_list}
use Rattle.iso_model.specs.Values.{product}
use Rattle.iso_formats.specs.HeaderLines.{Sample, Content, passed_over, named_field, unreadable, content, value_if, values, first_some, is_among}
use Rattle.iso_formats.specs.HeaderLines.{is_empty, field_name, skip_names, data_file_names, is_taken, is_zero, sample_of, dimension_of, sizes_of}
use Rattle.iso_formats.specs.HeaderLines.{begins_right, HasLines, header_limit}
use Rattle.iso_formats.specs.GridFile.{Header, HasHeader, sample_limit}

-- the causes. Each that speaks of a line has its number, sizes_too_large the product of the sizes, and data_too_short the number of data bytes that came
pub data GridFault : Type 0 where
  wrong_magic : GridFault
  header_too_long : GridFault
  header_unended : GridFault
  unreadable_line : ℕ → GridFault
  repeated_field : ℕ → GridFault
  wrong_type : ℕ → GridFault
  wrong_dimension : ℕ → GridFault
  wrong_sizes : ℕ → GridFault
  wrong_encoding : ℕ → GridFault
  wrong_endian : ℕ → GridFault
  wrong_skip : ℕ → GridFault
  detached_data : ℕ → GridFault
  missing_field : Field → GridFault
  sizes_too_large : ℕ → GridFault
  data_too_short : ℕ → GridFault
  data_trailing : GridFault

-- ---- the causes of the lines

-- the fields that may be missing, in their order
abbrev pub all_fields : List Field
all_fields = SampleType ∷ Dimension ∷ Sizes ∷ Encoding ∷ Endian ∷ []

-- the cause where the value of a field on line n is not one that is taken
abbrev pub value_fault : Field → ℕ → GridFault
value_fault SampleType n = wrong_type n
value_fault Dimension n = wrong_dimension n
value_fault Sizes n = wrong_sizes n
value_fault Encoding n = wrong_encoding n
value_fault Endian n = wrong_endian n

-- the cause of a field of this name and value on line n, where the name is that of f: it stood on an earlier line, or else its value is not one that is taken
abbrev pub read_fault : List (List ℕ) → ℕ → List ℕ → List ℕ → Field → Option GridFault
read_fault earlier n name value f =
    if not (same_list name (field_name f)) then None
    else if not (is_empty (values (field_name f) earlier)) then Some (repeated_field n)
    else if is_taken f value then None
    else Some (value_fault f n)

-- the one cause that a line has by what it holds: it can't be read, or its skip is not 0, or it names a data file, or it is that of a field that is read
abbrev pub content_fault : List (List ℕ) → ℕ → Content → Option GridFault
content_fault earlier n passed_over = None
content_fault earlier n unreadable = Some (unreadable_line n)
content_fault earlier n (named_field name value) =
    if is_among skip_names name then (if is_zero value then None else Some (wrong_skip n))
    else if is_among data_file_names name then Some (detached_data n)
    else first_some (map (read_fault earlier n name value) all_fields)

-- the cause of the line behind the first i ones, which is line i + 1
abbrev pub line_fault : List (List ℕ) → ℕ → Option GridFault
line_fault texts i = content_fault (take i texts) (i + 1) (content (slice_index_or texts i []))

-- ---- the causes of the header as a whole

-- the sample type that the lines state
abbrev pub stated_sample : List (List ℕ) → Option Sample
stated_sample texts = sample_of (slice_index_or (values (field_name SampleType) texts) 0 [])

-- a field is needed; endian only where a sample has more than one byte
abbrev pub is_needed : List (List ℕ) → Field → Bool
is_needed texts Endian = option_map_or (λ (s : Sample). nat_lt 1 s.width) (stated_sample texts) false
is_needed texts SampleType = true
is_needed texts Dimension = true
is_needed texts Sizes = true
is_needed texts Encoding = true

-- the cause of a field that is needed and is not there
abbrev pub missing_fault : List (List ℕ) → Field → Option GridFault
missing_fault texts f = if is_empty (values (field_name f) texts) && is_needed texts f then Some (missing_field f) else None

-- the number of the first line that is a field of this name
abbrev pub line_of : List ℕ → List (List ℕ) → ℕ
line_of name texts = 2 + position_or_len (λ text. is_some (value_if name (content text))) (drop 1 texts)

-- the first value of a field
abbrev pub first_value : Field → List (List ℕ) → List ℕ
first_value f texts = slice_index_or (values (field_name f) texts) 0 []

-- the cause where the number of sizes is not the dimension, at the line of the sizes
abbrev pub count_fault : List (List ℕ) → Option GridFault
count_fault texts =
    if option_map_or (λ d. option_map_or (λ (ns : List ℕ). length ns == d) (sizes_of (first_value Sizes texts)) true)
    (dimension_of (first_value Dimension texts)) true
    then None else Some (wrong_sizes (line_of (field_name Sizes) texts))

-- the first cause of a header's lines: for each line from 2 on, in order, its own; then the first field that is missing; then the number of sizes
unfoldable pub lines_fault : List (List ℕ) → Option GridFault
lines_fault texts =
    first_some (map (line_fault texts) (range_with_len 1 (length texts - 1)) ++ map (missing_fault texts) all_fields ++ count_fault texts ∷ [])

-- ---- the causes of bytes

-- the bytes hold no end of a header
abbrev pub HasNoLines : List ℕ → Type 0
HasNoLines bytes = (texts : List (List ℕ)) (data_bytes : List ℕ) → ¬ HasLines bytes texts data_bytes

-- the first cause of bytes that begin with no well-formed header: they begin with no first line; or the limit comes, or the end, before the header's
-- end; or its lines have a cause
pub data HasHeaderFault (bytes : List ℕ) : GridFault → Type 0 where
  no_magic : IsFalse (begins_right bytes) → HasHeaderFault bytes wrong_magic
  too_long : IsTrue (begins_right bytes) → header_limit ≤ length bytes → HasNoLines bytes → HasHeaderFault bytes header_too_long
  unended : IsTrue (begins_right bytes) → length bytes < header_limit → HasNoLines bytes → HasHeaderFault bytes header_unended
  of_lines : (texts : List (List ℕ)) (data_bytes : List ℕ) (fault : GridFault) → IsTrue (begins_right bytes) → HasLines bytes texts data_bytes
      → lines_fault texts ≡ Some fault → HasHeaderFault bytes fault

-- the cause of data bytes that spell no samples of the header: the product of the sizes passes 2^27; or the file ends too early, after so many data
-- bytes; or a byte follows the last sample
pub data HasSampleFault (h : Header) (data_bytes : List ℕ) : GridFault → Type 0 where
  too_many : sample_limit < product h.sizes → HasSampleFault h data_bytes (sizes_too_large (product h.sizes))
  cut_off : product h.sizes ≤ sample_limit → length data_bytes < product h.sizes * h.width → HasSampleFault h data_bytes (data_too_short (length data_bytes))
  overlong : product h.sizes ≤ sample_limit → product h.sizes * h.width < length data_bytes → HasSampleFault h data_bytes data_trailing

-- the first cause of bytes that spell no grid, where no table is given: that of the header, or behind a well-formed header that of the samples
pub data HasGridFault (bytes : List ℕ) : GridFault → Type 0 where
  of_header : (fault : GridFault) → HasHeaderFault bytes fault → HasGridFault bytes fault
  of_samples : (h : Header) (data_bytes : List ℕ) (fault : GridFault) → HasHeader bytes h data_bytes → HasSampleFault h data_bytes fault
      → HasGridFault bytes fault

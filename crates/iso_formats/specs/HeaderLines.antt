-- The lines of a grid file's header, and how a line and a value are read. A file is a header and data bytes.
use Rattle.std.specs.Prelude.{◌≡◌, ℕ, ◌+◌, ◌-◌, ◌≤◌, Bool, true, false, not, ◌&&◌, ◌||◌, ◌==◌, nat_eq, nat_le, List, [], ◌∷◌, ◌++◌, map, flat_map}
use Rattle.std.specs.Prelude.{filter, filter_map, length, take, drop, slice_index, Option, Some, None, codes, is_some, if◌then◌else◌}
use Rattle.std.specs.List.{AllPass, list_any, list_all, before_first, after_first, slice_split, prefix_len, suffix_len, starts_with, last_or, range_with_len}
use Rattle.std.specs.Option.{option_map_or}
use Rattle.std.specs.Str.{str_to_ascii_lowercase, all_ascii_digits}
use Rattle.std.specs.Str.Parse.{digits_value}
use Rattle.iso_formats.specs.declared.Field.{Field}
use Rattle.iso_formats.specs.declared.Field.TheVariants.{SampleType, Dimension, Sizes, Encoding, Endian}
use Rattle.lists.specs.Orders.{has, same_list}

-- a list has no member
abbrev pub is_empty : {X : Type 0} → List X → Bool
is_empty xs = length xs == 0

-- a text is not empty
abbrev pub is_filled : List ℕ → Bool
is_filled text = not (is_empty text)

-- ---- lines

-- a line: a text, and CR LF after it, or LF alone
pub record Line : Type 0 where
  pub text : List ℕ
  pub has_return : Bool

-- a line is right: its text has no LF, and one CR before LF belongs to the line's end
abbrev pub is_line : Line → Bool
is_line l = not (has l.text 10) && (l.has_return || not (option_map_or (nat_eq 13) (last_or None l.text) false))

-- the bytes of a line, its end included
abbrev pub line_bytes : Line → List ℕ
line_bytes l = l.text ++ (if l.has_return then 13 ∷ 10 ∷ [] else 10 ∷ [])

-- all lines of a header together, with their ends, have at most so many bytes
abbrev pub header_limit : ℕ
header_limit = 65536

-- the bytes begin with the lines of these texts, none of them empty and each with either end, and then the empty line; the data bytes follow
pub record HasLines (bytes : List ℕ) (texts : List (List ℕ)) (data_bytes : List ℕ) : Type 0 where
  pub lines : List Line
  pub are_lines : AllPass is_line lines
  pub spelled : bytes ≡ flat_map line_bytes lines ++ data_bytes
  pub read : map (λ (l : Line). l.text) lines ≡ texts ++ [] ∷ []
  pub filled : AllPass is_filled texts
  pub short : length (flat_map line_bytes lines) ≤ header_limit

-- ---- the first line

-- the texts that a first line may have: NRRD000k with k from 1 to 5
abbrev pub first_lines : List (List ℕ)
first_lines = map (λ k. codes "NRRD000" ++ (48 + k) ∷ []) (range_with_len 1 5)

-- the text is that of a first line
abbrev pub is_first_line : List ℕ → Bool
is_first_line text = list_any (same_list text) first_lines

-- the bytes begin with a first line and its end
abbrev pub begins_right : List ℕ → Bool
begins_right bytes = list_any (λ text. list_any (λ has_return.
    starts_with nat_eq bytes (line_bytes (record { text = text; has_return = has_return }))) (true ∷ false ∷ [])) first_lines

-- ---- the lines between the first and the empty one

-- a blank is a space or a tab
abbrev pub is_blank : ℕ → Bool
is_blank c = (c == 32) || (c == 9)

-- a text without the blanks at both ends
abbrev pub trimmed : List ℕ → List ℕ
trimmed text =
    let rest = drop (prefix_len is_blank text) text in
    take (length rest - suffix_len is_blank rest) rest

-- what a line holds: a comment or a pair, which is passed over; a field, with its name in lower case and its value; or none of these
pub data Content : Type 0 where
  passed_over : Content
  named_field : List ℕ → List ℕ → Content
  unreadable : Content

-- a comment begins with #
abbrev pub is_comment : List ℕ → Bool
is_comment text = slice_index text 0 == 35

-- in a pair the first colon is followed at once by =
abbrev pub is_pair : List ℕ → Bool
is_pair text = slice_index (after_first (nat_eq 58) text) 0 == 61

-- the name of a field, in lower case: what stands before the first colon, trimmed
abbrev pub name_of : List ℕ → List ℕ
name_of text = str_to_ascii_lowercase (trimmed (before_first (nat_eq 58) text))

-- what a line holds, tried in this order: a comment, a pair, or a field, whose name is not empty, and whose value is what stands after the first colon, trimmed
abbrev pub content : List ℕ → Content
content text =
    if is_comment text || is_pair text then passed_over
    else if not (has text 58) || is_empty (name_of text) then unreadable
    else named_field (name_of text) (trimmed (after_first (nat_eq 58) text))

-- the value that a line gives to the field of this name
abbrev pub value_if : List ℕ → Content → Option (List ℕ)
value_if name (named_field n value) = if same_list n name then Some value else None
value_if name passed_over = None
value_if name unreadable = None

-- the values that the lines behind the first one give to the field of this name, in order
abbrev pub values : List ℕ → List (List ℕ) → List (List ℕ)
values name texts = filter_map (λ text. value_if name (content text)) (drop 1 texts)

-- ---- names and values, compared without regard to ASCII letter case

-- the text is one of these words, without regard to letter case
abbrev pub is_among : List (List ℕ) → List ℕ → Bool
is_among words text = list_any (same_list (str_to_ascii_lowercase text)) words

-- the name of each field that is read
abbrev pub field_name : Field → List ℕ
field_name SampleType = codes "type"
field_name Dimension = codes "dimension"
field_name Sizes = codes "sizes"
field_name Encoding = codes "encoding"
field_name Endian = codes "endian"

-- the names of a skip
abbrev pub skip_names : List (List ℕ)
skip_names = codes "line skip" ∷ codes "lineskip" ∷ codes "byte skip" ∷ codes "byteskip" ∷ []

-- the names of a data file
abbrev pub data_file_names : List (List ℕ)
data_file_names = codes "data file" ∷ codes "datafile" ∷ []

-- a type of samples: the number of bytes of a sample, and whether it is signed
pub record Sample : Type 0 where
  pub width : ℕ
  pub signed : Bool

-- the names of each sample type
abbrev pub sample_names : List (Sample × List (List ℕ))
sample_names =
    (record { width = 1; signed = true }, codes "signed char" ∷ codes "int8" ∷ codes "int8_t" ∷ [])
    ∷ (record { width = 1; signed = false }, codes "uchar" ∷ codes "unsigned char" ∷ codes "uint8" ∷ codes "uint8_t" ∷ [])
    ∷ (record { width = 2; signed = true }, codes "short" ∷ codes "short int" ∷ codes "signed short" ∷ codes "signed short int" ∷ codes "int16" ∷ codes "int16_t" ∷ [])
    ∷ (record { width = 2; signed = false }, codes "ushort" ∷ codes "unsigned short" ∷ codes "unsigned short int" ∷ codes "uint16" ∷ codes "uint16_t" ∷ [])
    ∷ (record { width = 4; signed = true }, codes "int" ∷ codes "signed int" ∷ codes "int32" ∷ codes "int32_t" ∷ [])
    ∷ (record { width = 4; signed = false }, codes "uint" ∷ codes "unsigned int" ∷ codes "uint32" ∷ codes "uint32_t" ∷ [])
    ∷ []

-- the first member that is there
abbrev pub first_some : {X : Type 0} → List (Option X) → Option X
first_some [] = None
first_some (None ∷ os) = first_some os
first_some (Some x ∷ os) = Some x

-- the sample type that a value names
abbrev pub sample_of : List ℕ → Option Sample
sample_of value = first_some (map (λ (s : Sample × List (List ℕ)). if is_among s.1 value then Some s.0 else None) sample_names)

-- a number is one or more digits
abbrev pub is_numeral : List ℕ → Bool
is_numeral text = not (is_empty text) && all_ascii_digits text

-- the number that the digits write
abbrev pub numeral_value : List ℕ → ℕ
numeral_value text = digits_value 10 text

-- a numeral from low to high
abbrev pub is_numeral_within : ℕ → ℕ → List ℕ → Bool
is_numeral_within low high text = is_numeral text && nat_le low (numeral_value text) && nat_le (numeral_value text) high

-- the dimension that a value states: 2, 3 or 4
abbrev pub dimension_of : List ℕ → Option ℕ
dimension_of value = if is_numeral_within 2 4 value then Some (numeral_value value) else None

-- the words of a value: its parts between blanks, as far as they are not empty
abbrev pub words_of : List ℕ → List (List ℕ)
words_of value = filter is_filled (slice_split is_blank value)

-- the sizes that a value states: one to four numbers separated by blanks, each from 1 to 4294967295
abbrev pub sizes_of : List ℕ → Option (List ℕ)
sizes_of value =
    let words = words_of value in
    if nat_le 1 (length words) && nat_le (length words) 4 && list_all (is_numeral_within 1 4294967295) words then Some (map numeral_value words) else None

-- the encoding is raw
abbrev pub is_raw : List ℕ → Bool
is_raw value = is_among (codes "raw" ∷ []) value

-- the byte order that a value states: whether the high byte stands first
abbrev pub big_endian_of : List ℕ → Option Bool
big_endian_of value =
    if is_among (codes "big" ∷ []) value then Some true else if is_among (codes "little" ∷ []) value then Some false else None

-- the value is one that is taken for the field
abbrev pub is_taken : Field → List ℕ → Bool
is_taken SampleType value = is_some (sample_of value)
is_taken Dimension value = is_some (dimension_of value)
is_taken Sizes value = is_some (sizes_of value)
is_taken Encoding value = is_raw value
is_taken Endian value = is_some (big_endian_of value)

-- a number with value 0
abbrev pub is_zero : List ℕ → Bool
is_zero value = is_numeral_within 0 0 value

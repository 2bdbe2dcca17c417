-- Worked grid files: headers that are well-formed, and the causes of others.
use Rattle.std.specs.Prelude.{◌≡◌, ℕ, Bool, pos, negsuc, true, false, List, [], ◌∷◌, ◌++◌, map, flat_map, take, drop, codes, Option, Some, None}
use Rattle.std.specs.Prelude.{IsTrue, IsFalse}
use Rattle.std.proofs.Common.{refl, inl, inr, arith}
use Rattle.std.proofs.lemmas.List.Sums.{AllPass-from_list_all}
use Rattle.iso_formats.specs.declared.Field.TheVariants.{SampleType, Dimension, Sizes, Encoding, Endian}
use Rattle.iso_formats.specs.HeaderLines.{Line, is_line, is_filled, HasLines, line_bytes, begins_right}
use Rattle.iso_formats.specs.GridFile.{Header, is_sound_line, SpellHeader, SpellsGrid, samples_of}
use Rattle.iso_formats.specs.GridFaults.{GridFault, lines_fault, HasSampleFault, HasGridFault, of_lines, of_header, of_samples, too_many, cut_off}
use Rattle.iso_formats.specs.GridFaults.{overlong, unreadable_line, repeated_field, wrong_type, wrong_dimension, wrong_sizes, wrong_encoding}
use Rattle.iso_formats.specs.GridFaults.{wrong_endian, wrong_skip, detached_data, missing_field, sizes_too_large, data_too_short, data_trailing}

-- the lines of a plain header of a grid of 2 by 2, without its empty line
abbrev pub plain : List (List ℕ)
plain = codes "NRRD0001" ∷ codes "type: uint8" ∷ codes "dimension: 2" ∷ codes "sizes: 2 2" ∷ codes "encoding: raw" ∷ []

no_fault : lines_fault plain ≡ None
unfolding lines_fault
no_fault = refl

-- with other last lines
abbrev ending : ℕ → List (List ℕ) → List (List ℕ)
ending n more = take n plain ++ more

repeated_endian : lines_fault (ending 4 (codes "endian: big" ∷ codes "endian: big" ∷ codes "encoding: raw" ∷ [])) ≡ Some (repeated_field 6)
unfolding lines_fault
repeated_endian = refl

missing_type : lines_fault (codes "NRRD0001" ∷ drop 2 plain) ≡ Some (missing_field SampleType)
unfolding lines_fault
missing_type = refl

detached_file : lines_fault (ending 5 (codes "data file: x.raw" ∷ [])) ≡ Some (detached_data 6)
unfolding lines_fault
detached_file = refl

negative_skip : lines_fault (ending 5 (codes "byte skip: -1" ∷ [])) ≡ Some (wrong_skip 6)
unfolding lines_fault
negative_skip = refl

zero_skip : lines_fault (ending 5 (codes "byte skip: 00" ∷ codes "line skip:0" ∷ [])) ≡ None
unfolding lines_fault
zero_skip = refl

gzip : lines_fault (ending 4 (codes "encoding: gzip" ∷ [])) ≡ Some (wrong_encoding 5)
unfolding lines_fault
gzip = refl

-- the first line that has a cause is answered
first_line_first : lines_fault (ending 2 (codes "dimension: 5" ∷ codes "no field" ∷ [])) ≡ Some (wrong_dimension 3)
unfolding lines_fault
first_line_first = refl

no_colon : lines_fault (ending 2 (codes "no field" ∷ codes "dimension: 5" ∷ [])) ≡ Some (unreadable_line 3)
unfolding lines_fault
no_colon = refl

empty_name : lines_fault (ending 2 (codes " : 5" ∷ [])) ≡ Some (unreadable_line 3)
unfolding lines_fault
empty_name = refl

-- two bytes want an order, and three sizes are not two
no_order : lines_fault (codes "NRRD0001" ∷ codes "type: short" ∷ drop 2 plain) ≡ Some (missing_field Endian)
unfolding lines_fault
no_order = refl

three_sizes : lines_fault (ending 3 (codes "sizes: 2 2 2" ∷ codes "encoding: raw" ∷ [])) ≡ Some (wrong_sizes 4)
unfolding lines_fault
three_sizes = refl

no_size : lines_fault (ending 3 (codes "sizes: 2 0" ∷ [])) ≡ Some (wrong_sizes 4)
unfolding lines_fault
no_size = refl

-- letter case and blanks
abbrev loose : List (List ℕ)
loose = codes "NRRD0001" ∷ codes "TYPE: UINT8" ∷ codes "dimension:02" ∷ codes "Sizes:  2\t 2 " ∷ codes "encoding: Raw" ∷ []

loose_spells : SpellHeader loose (record { sizes = 2 ∷ 2 ∷ []; width = 1; signed = false; big = false })
loose_spells = record {
  first = refl;
  between = AllPass-from_list_all is_sound_line (drop 1 loose) refl;
  sample_type = (_, refl, refl);
  dimension = (_, refl, refl);
  sizes = (_, refl, refl);
  encoding = (_, refl, refl);
  endian = inl (refl, refl, refl);
}

-- a scanner's header, with comments, fields that are passed over, a pair, and CR LF at the line ends
abbrev pub scanner : List (List ℕ)
scanner =
    codes "NRRD0004" ∷ codes "# Complete NRRD file format specification at:" ∷ codes "# http://teem.sourceforge.net/nrrd/format.html"
    ∷ codes "content: sample" ∷ codes "type: unsigned char" ∷ codes "dimension: 3" ∷ codes "space: left-posterior-superior" ∷ codes "sizes: 2 2 2"
    ∷ codes "space directions: (1,0,0) (0,1,0) (0,0,1)" ∷ codes "kinds: domain domain domain" ∷ codes "endian: little" ∷ codes "encoding: raw"
    ∷ codes "space origin: (0,0,0)" ∷ codes "operator:=first trial" ∷ []

scanner_fault : lines_fault scanner ≡ None
unfolding lines_fault
scanner_fault = refl

scanner_spells : SpellHeader scanner (record { sizes = 2 ∷ 2 ∷ 2 ∷ []; width = 1; signed = false; big = false })
scanner_spells = record {
  first = refl;
  between = AllPass-from_list_all is_sound_line (drop 1 scanner) refl;
  sample_type = (_, refl, refl);
  dimension = (_, refl, refl);
  sizes = (_, refl, refl);
  encoding = (_, refl, refl);
  endian = inr (_, _, refl, refl, refl);
}

-- the bytes begin right
right_beginning : IsTrue (begins_right (codes "NRRD0004\r\n# "))
right_beginning = refl

wrong_beginning : IsFalse (begins_right (codes "NRRD0006\n"))
wrong_beginning = refl

no_end : IsFalse (begins_right (codes "NRRD0001"))
no_end = refl

-- two's complement of two bytes, the high one first
signed_samples :
    samples_of (record { sizes = 2 ∷ 2 ∷ []; width = 2; signed = true; big = true }) 4 (0xff ∷ 0xfb ∷ 0 ∷ 0 ∷ 0xff ∷ 0xfb ∷ 0 ∷ 5 ∷ [])
    ≡ negsuc 4 ∷ pos 0 ∷ negsuc 4 ∷ pos 5 ∷ []
signed_samples = refl

little_samples :
    samples_of (record { sizes = 2 ∷ 1 ∷ []; width = 4; signed = false; big = false }) 2 (1 ∷ 2 ∷ 0 ∷ 0 ∷ 0 ∷ 0 ∷ 0 ∷ 0x80 ∷ [])
    ≡ pos 513 ∷ pos 2147483648 ∷ []
little_samples = refl

-- ---- whole files

-- lines that all end with LF, or all with CR LF, and an empty line at the end
abbrev ended : Bool → List (List ℕ) → List Line
ended has_return texts = map (λ text. record { text = text; has_return = has_return }) (texts ++ [] ∷ [])

abbrev file : Bool → List (List ℕ) → List ℕ → List ℕ
file has_return texts data_bytes = flat_map line_bytes (ended has_return texts) ++ data_bytes

plain_spells : SpellHeader plain (record { sizes = 2 ∷ 2 ∷ []; width = 1; signed = false; big = false })
plain_spells = record {
  first = refl;
  between = AllPass-from_list_all is_sound_line (drop 1 plain) refl;
  sample_type = (_, refl, refl);
  dimension = (_, refl, refl);
  sizes = (_, refl, refl);
  encoding = (_, refl, refl);
  endian = inl (refl, refl, refl);
}

plain_lines : (data_bytes : List ℕ) → HasLines (file false plain data_bytes) plain data_bytes
plain_lines data_bytes = record {
  lines = ended false plain;
  are_lines = AllPass-from_list_all is_line (ended false plain) refl;
  spelled = refl;
  read = refl;
  filled = AllPass-from_list_all is_filled plain refl;
  short = omega arith;
}

plain_file : SpellsGrid (file false plain (10 ∷ 0 ∷ 0 ∷ 0 ∷ [])) (record { sizes = 2 ∷ 2 ∷ []; samples = pos 10 ∷ pos 0 ∷ pos 0 ∷ pos 0 ∷ [] })
plain_file = (_, _, (_, plain_lines _, plain_spells), record { few = omega arith; whole = refl; grid = refl })

three_bytes : HasGridFault (file false plain (10 ∷ 0 ∷ 0 ∷ [])) (data_too_short 3)
three_bytes = of_samples _ _ _ (_, plain_lines _, plain_spells) (cut_off (omega arith) (omega arith))

five_bytes : HasGridFault (file false plain (10 ∷ 0 ∷ 0 ∷ 0 ∷ 0 ∷ [])) data_trailing
five_bytes = of_samples _ _ _ (_, plain_lines _, plain_spells) (overlong (omega arith) (omega arith))

scanner_lines : (data_bytes : List ℕ) → HasLines (file true scanner data_bytes) scanner data_bytes
scanner_lines data_bytes = record {
  lines = ended true scanner;
  are_lines = AllPass-from_list_all is_line (ended true scanner) refl;
  spelled = refl;
  read = refl;
  filled = AllPass-from_list_all is_filled scanner refl;
  short = omega arith;
}

scanner_file : SpellsGrid (file true scanner (10 ∷ 0 ∷ 0 ∷ 0 ∷ 0 ∷ 0 ∷ 0 ∷ 0 ∷ []))
    (record { sizes = 2 ∷ 2 ∷ 2 ∷ []; samples = pos 10 ∷ pos 0 ∷ pos 0 ∷ pos 0 ∷ pos 0 ∷ pos 0 ∷ pos 0 ∷ pos 0 ∷ [] })
scanner_file = (_, _, (_, scanner_lines _, scanner_spells), record { few = omega arith; whole = refl; grid = refl })

-- an encoding that is not taken
abbrev gzip_texts : List (List ℕ)
gzip_texts = ending 4 (codes "encoding: gzip" ∷ [])

gzip_file : HasGridFault (file false gzip_texts (10 ∷ 0 ∷ 0 ∷ 0 ∷ [])) (wrong_encoding 5)
unfolding lines_fault
gzip_file = of_header _ (of_lines gzip_texts (10 ∷ 0 ∷ 0 ∷ 0 ∷ []) (wrong_encoding 5) refl (record {
  lines = ended false gzip_texts;
  are_lines = AllPass-from_list_all is_line (ended false gzip_texts) refl;
  spelled = refl;
  read = refl;
  filled = AllPass-from_list_all is_filled gzip_texts refl;
  short = omega arith;
}) refl)

-- ---- causes that are easily mistaken

-- a header's last line, behind the other fields
abbrev last_line : List ℕ → Option GridFault
last_line text = lines_fault (plain ++ text ∷ [])

-- a second field is repeated whatever its value is; names are taken as they are spelled; an empty value is none of a skip, and a data file is refused
-- whatever its value is
last_lines : map last_line (codes "type: nothing" ∷ codes "line  skip: 9" ∷ codes "byteskip:" ∷ codes "datafile:" ∷ codes "endian: middle" ∷ codes "LINESKIP: 1" ∷ codes "spacings: x" ∷ codes "\r" ∷ [])
    ≡ Some (repeated_field 6) ∷ None ∷ Some (wrong_skip 6) ∷ Some (detached_data 6) ∷ Some (wrong_endian 6) ∷ Some (wrong_skip 6) ∷ None
    ∷ Some (unreadable_line 6) ∷ []
unfolding lines_fault
last_lines = refl

-- numbers of any length
abbrev of_sizes : List ℕ → Option GridFault
of_sizes text = lines_fault (ending 3 (text ∷ codes "encoding: raw" ∷ []))

long_numbers : map of_sizes (codes "sizes: 0000000000000000000000002 2" ∷ codes "sizes: 4294967295 4294967295" ∷ codes "sizes: 4294967296 1" ∷ codes "sizes: 18446744073709551617 2" ∷ codes "sizes: 1 2 3 4 5" ∷ codes "sizes:" ∷ codes "sizes: 2, 2" ∷ [])
    ≡ None ∷ None ∷ Some (wrong_sizes 4) ∷ Some (wrong_sizes 4) ∷ Some (wrong_sizes 4) ∷ Some (wrong_sizes 4) ∷ Some (wrong_sizes 4) ∷ []
unfolding lines_fault
long_numbers = refl

-- two blanks within a name of a sample type, and a CR that stays at the end of a value
spelled_types : lines_fault (codes "NRRD0001" ∷ codes "type: unsigned  char" ∷ drop 2 plain) ∷ lines_fault (ending 4 (codes "encoding: raw\r" ∷ [])) ∷ []
    ≡ Some (wrong_type 2) ∷ Some (wrong_encoding 5) ∷ []
unfolding lines_fault
spelled_types = refl

-- the first missing field, in the order type, dimension, sizes, encoding, endian
missing_fields : map lines_fault ((codes "NRRD0001" ∷ []) ∷ take 2 plain ∷ take 3 plain ∷ take 4 plain ∷ [])
    ≡ Some (missing_field SampleType) ∷ Some (missing_field Dimension) ∷ Some (missing_field Sizes) ∷ Some (missing_field Encoding) ∷ []
unfolding lines_fault
missing_fields = refl

-- sizes of which the product passes the limit, and sizes at the limit without data bytes
abbrev large : ℕ → Header
large n = record { sizes = 16384 ∷ n ∷ []; width = 1; signed = false; big = false }

too_large : HasSampleFault (large 16384) [] (sizes_too_large 268435456)
too_large = too_many (omega arith)

no_data : HasSampleFault (large 8192) [] (data_too_short 0)
no_data = cut_off (omega arith) (omega arith)

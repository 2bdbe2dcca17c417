-- Lines, blanks, sample names and sample values at their ends.
use Rattle.std.specs.Prelude.{◌≡◌, ℕ, pos, negsuc, [], ◌∷◌, map, codes, Some, None, Option, true, false}
use Rattle.std.proofs.Common.{refl}
use Rattle.iso_formats.specs.HeaderLines.{Sample, is_line, begins_right, trimmed, sample_of, content, named_field, passed_over, unreadable}
use Rattle.iso_formats.specs.GridFile.{sample_value}

-- ---- line ends: one CR before LF belongs to the end, a second one to the text

crcrlf : is_line (record { text = 13 ∷ []; has_return = true }) ≡ true
crcrlf = refl

crlf_not_plain : is_line (record { text = 13 ∷ []; has_return = false }) ≡ false
crlf_not_plain = refl

lf_inside : is_line (record { text = 10 ∷ []; has_return = true }) ≡ false
lf_inside = refl

cr_inside : is_line (record { text = 13 ∷ 65 ∷ []; has_return = false }) ≡ true
cr_inside = refl

magic_crcrlf : begins_right (codes "NRRD0001\r\r\n") ≡ false
magic_crcrlf = refl

magic_cr : begins_right (codes "NRRD0001\r") ≡ false
magic_cr = refl

magic_zero : begins_right (codes "NRRD0000\n") ≡ false
magic_zero = refl

magic_blank : begins_right (codes "NRRD0001 \n") ≡ false
magic_blank = refl

magic_low : begins_right (codes "nrrd0001\n") ≡ false
magic_low = refl

-- ---- blanks

trim_all : trimmed (codes " \t ") ≡ []
trim_all = refl

trim_mid : trimmed (codes "\t a \t b\t ") ≡ codes "a \t b"
trim_mid = refl

trim_one : trimmed (codes "a") ≡ codes "a"
trim_one = refl

-- the first colon makes a pair or a field; the colon is looked for in the whole line
contents : map content (codes "encoding: a:=b" ∷ codes ":=" ∷ codes " # x: y" ∷ codes " # x" ∷ codes "#x: y" ∷ codes "datafile:" ∷ [])
    ≡ named_field (codes "encoding") (codes "a:=b") ∷ passed_over ∷ named_field (codes "# x") (codes "y") ∷ unreadable ∷ passed_over ∷ named_field (codes "datafile") [] ∷ []
contents = refl

-- ---- samples

abbrev sample : ℕ → Option Sample
sample width = Some (record { width = width; signed = true })

signed_names : map sample_of (codes "sIgNeD ChAr" ∷ codes "int8_t" ∷ codes "sHoRt iNt" ∷ codes "sIgNeD ShOrT InT" ∷ codes "int16" ∷ codes "sIgNeD InT" ∷ codes "int32_T" ∷ [])
    ≡ sample 1 ∷ sample 1 ∷ sample 2 ∷ sample 2 ∷ sample 2 ∷ sample 4 ∷ sample 4 ∷ []
signed_names = refl

no_names : map sample_of (codes "char" ∷ codes "unsigned" ∷ codes "long" ∷ codes "float" ∷ codes "uint8 " ∷ codes "short  int" ∷ codes "unsigned short int8" ∷ [] ∷ [])
    ≡ None ∷ None ∷ None ∷ None ∷ None ∷ None ∷ None ∷ None ∷ []
no_names = refl

least_byte : sample_value (record { sizes = []; width = 1; signed = true; big = false }) (128 ∷ []) ≡ negsuc 127
least_byte = refl

least_pair : sample_value (record { sizes = []; width = 2; signed = true; big = false }) (0 ∷ 128 ∷ []) ≡ negsuc 32767
least_pair = refl

greatest_pair : sample_value (record { sizes = []; width = 2; signed = true; big = true }) (127 ∷ 255 ∷ []) ≡ pos 32767
greatest_pair = refl

minus_one : sample_value (record { sizes = []; width = 4; signed = true; big = false }) (255 ∷ 255 ∷ 255 ∷ 255 ∷ []) ≡ negsuc 0
minus_one = refl

greatest_unsigned : sample_value (record { sizes = []; width = 4; signed = false; big = true }) (255 ∷ 255 ∷ 255 ∷ 255 ∷ []) ≡ pos 4294967295
greatest_unsigned = refl

least_signed : sample_value (record { sizes = []; width = 4; signed = true; big = true }) (128 ∷ 0 ∷ 0 ∷ 0 ∷ []) ≡ negsuc 2147483647
least_signed = refl

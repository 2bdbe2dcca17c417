-- Files found by name, place by place.
use Rattle.std.proofs.Common.{◌≡◌, ℕ, ◌+◌, ◌<◌, List, [], ◌∷◌, length, get_or, drop, Option, Some, None, true, false, ap, sym, ◌∙◌, add-one}
use Rattle.std.proofs.Common.{drop-cons, cond, suc}
use Rattle.std.proofs.Math.Seq.{drop-nil}
use Rattle.std.proofs.lemmas.List.{drop-drop, get_or_default}
use Rattle.std.specs.Str.{bytes_eq}
use Rattle.iso_base.specs.Files.{Files, file_bytes}
use Rattle.iso_base.specs.Places.{bytes_at, rest_from}

-- the files from a place on, where the first of them is known
first_of : (files : Files) (place : ℕ) (file : List ℕ × List ℕ) → file ≡ get_or files place file → place < length files
    → drop place files ≡ file ∷ drop (place + 1) files
first_of files place file read h = rw add-one (drop-cons files place file h ∙ ap (λ first. first ∷ drop (suc place) files) (sym read))

-- the file at this place has the name
pub file_bytes-here : (files : Files) (place : ℕ) (file : List ℕ × List ℕ) (name : List ℕ) → file ≡ get_or files place file → place < length files
    → bytes_eq file.0 name ≡ true → file_bytes (drop place files) name ≡ Some (bytes_at files place)
file_bytes-here files place file name read h same =
    ap (λ rest. file_bytes rest name) (first_of files place file read h)
    ∙ ap (λ test. cond test (Some file.1) (file_bytes (drop (place + 1) files) name)) same
    ∙ ap (λ at. Some at.1) (read ∙ get_or_default files place file ([], []) h)

-- the file at this place has another name
pub file_bytes-next : (files : Files) (place : ℕ) (file : List ℕ × List ℕ) (name : List ℕ) → file ≡ get_or files place file → place < length files
    → bytes_eq file.0 name ≡ false → file_bytes (drop place files) name ≡ file_bytes (drop (place + 1) files) name
file_bytes-next files place file name read h other =
    ap (λ rest. file_bytes rest name) (first_of files place file read h) ∙ ap (λ test. cond test (Some file.1) (file_bytes (drop (place + 1) files) name)) other

-- what is left after some more bytes
pub rest_from_more : (files : Files) (begun : Option ℕ) (start count : ℕ) → rest_from files begun (start + count) ≡ drop count (rest_from files begun start)
rest_from_more files None start count = sym (drop-nil count)
rest_from_more files (Some place) start count = sym (drop-drop count start (bytes_at files place))

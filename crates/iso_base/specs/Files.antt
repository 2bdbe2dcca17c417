-- Files by name, and what is left of one that was begun.
use Rattle.std.specs.Prelude.{◌≡◌, ℕ, List, [], ◌∷◌, Option, Some, None, IsSome, Result, Ok, Err, ⊤, if◌then◌else◌}
use Rattle.std.specs.Str.{bytes_eq}

-- files with their names and bytes
abbrev pub Files : Type 0
Files = List (List ℕ × List ℕ)

-- the bytes of the file of this name, where there is one
abbrev pub file_bytes : Files → List ℕ → Option (List ℕ)
file_bytes [] name = None
file_bytes (file ∷ files) name = if bytes_eq file.0 name then Some file.1 else file_bytes files name

-- the same, where the files are told
abbrev pub bytes_of : Option Files → List ℕ → Option (List ℕ)
bytes_of None name = None
bytes_of (Some files) name = file_bytes files name

-- where the files are told: a file that was begun is there, and all its bytes are left; after a failure no file is begun
abbrev pub BeginsFile : {E : Type 0} → Option Files → Option (List ℕ) → List ℕ → Result (Unit {0}) E → Type 0
BeginsFile None rest name result = ⊤
BeginsFile (Some files) rest name (Ok u) = (rest ≡ file_bytes files name) × IsSome rest
BeginsFile (Some files) rest name (Err e) = rest ≡ Some []

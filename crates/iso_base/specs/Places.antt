-- Where in a list of files a shelf stands.
use Rattle.std.specs.Prelude.{◌≡◌, ℕ, ◌<◌, ◌≤◌, List, [], length, Option, Some, None, ⊤, drop, slice_index_or}
use Rattle.iso_base.specs.Files.{Files, file_bytes}

-- the bytes of the file at this place of the list
abbrev pub bytes_at : Files → ℕ → List ℕ
bytes_at files place = (slice_index_or files place ([], [])).1

-- the file of this name is the one at this place, or there is none
abbrev pub TellsFile : Files → List ℕ → Option ℕ → Type 0
TellsFile files name None = file_bytes files name ≡ None
TellsFile files name (Some place) = (place < length files) × (file_bytes files name ≡ Some (bytes_at files place))

-- what is left of the file that was begun, where one was, from this byte on
abbrev pub rest_from : Files → Option ℕ → ℕ → List ℕ
rest_from files None start = []
rest_from files (Some place) start = drop start (bytes_at files place)

-- the file that was begun, where one was, is there and has the byte, or ends before it
abbrev pub IsWithin : Files → Option ℕ → ℕ → Type 0
IsWithin files None start = ⊤
IsWithin files (Some place) start = (place < length files) × (start ≤ length (bytes_at files place))

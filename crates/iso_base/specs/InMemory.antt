-- What shelves and sinks in memory are.
use Rattle.std.specs.Prelude.{ℕ, ◌-◌, ◌&&◌, ◌||◌, List, [], ◌∷◌, ◌++◌, length, take, drop, min, Result, Bool, true, not, is_ok, is_none, nat_lt, nat_le, unwrap_or, if◌then◌else◌}
use Rattle.std.specs.List.{list_all}
use Rattle.std.specs.Str.{bytes_eq}
use Rattle.iso_base.specs.Calls.{NumberedCalls, after_call, is_to_fail, no_calls}
use Rattle.iso_base.specs.Files.{Files, file_bytes}

-- the names of these files differ from each other
abbrev pub names_differ : Files → Bool
names_differ [] = true
names_differ (file ∷ files) = list_all (λ other. not (bytes_eq file.0 other.0)) files && names_differ files

-- files, what is left of the file that was begun, how many bytes a call gives at most, and the calls
pub record ShelfInMemory : Type 0 where
  pub files : Files
  pub rest : List ℕ
  pub step : ℕ
  pub calls : NumberedCalls

-- a shelf over these files, of which none is begun, and before its first call
abbrev pub new_shelf : Files → List ℕ → ℕ → ShelfInMemory
new_shelf files fail step = record { files = files; rest = []; step = step; calls = no_calls fail }

-- to begin a file fails where the call is to fail, and where no file has the name
abbrev pub begin_fails : ShelfInMemory → List ℕ → Bool
begin_fails shelf name = is_to_fail shelf.calls || is_none (file_bytes shelf.files name)

-- what is left after a file was begun: all its bytes, or nothing after a failure
abbrev pub rest_begun : {E : Type 0} → ShelfInMemory → List ℕ → Result (Unit {0}) E → List ℕ
rest_begun shelf name result = if is_ok result then unwrap_or (file_bytes shelf.files name) [] else []

-- the shelf after a file was begun, or was not
abbrev pub after_begin : {E : Type 0} → ShelfInMemory → List ℕ → Result (Unit {0}) E → ShelfInMemory
after_begin shelf name result = record shelf { rest = rest_begun shelf name result; calls = after_call shelf.calls result }

-- the shelf after a call that gave so many bytes
abbrev pub after_take : {T E : Type 0} → ShelfInMemory → Result T E → ℕ → ShelfInMemory
after_take shelf result count = record shelf { rest = drop count shelf.rest; calls = after_call shelf.calls result }

-- how many bytes a call that does not fail gives into this much room
abbrev pub taken_count : ShelfInMemory → ℕ → ℕ
taken_count shelf room = min (length shelf.rest) (min shelf.step room)

-- the bytes that were put, how many there is room for, how many a call takes at most, and the calls
pub record SinkInMemory : Type 0 where
  pub bytes : List ℕ
  pub room : ℕ
  pub step : ℕ
  pub calls : NumberedCalls

-- an empty sink before its first call
abbrev pub new_sink : ℕ → List ℕ → ℕ → SinkInMemory
new_sink room fail step = record { bytes = []; room = room; step = step; calls = no_calls fail }

-- to put a piece fails where the call is to fail, and where the piece is not empty and the room is full
abbrev pub put_fails : SinkInMemory → List ℕ → Bool
put_fails sink piece = is_to_fail sink.calls || (nat_lt 0 (length piece) && nat_le sink.room (length sink.bytes))

-- how many bytes of a piece a call that does not fail takes
abbrev pub put_count : SinkInMemory → List ℕ → ℕ
put_count sink piece = min (length piece) (min sink.step (sink.room - length sink.bytes))

-- the sink after a call that took so many bytes of a piece
abbrev pub after_put : {T E : Type 0} → SinkInMemory → List ℕ → Result T E → ℕ → SinkInMemory
after_put sink piece result count = record sink { bytes = sink.bytes ++ take count piece; calls = after_call sink.calls result }

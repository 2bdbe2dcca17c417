-- What was read of a body in a file of version 2.
use Rattle.std.specs.Prelude.{◌≡◌, ℕ, ◌+◌, ◌*◌, ◌^◌, ◌<◌, ◌≤◌, true, List, length}
use Rattle.iso_model.specs.declared.Kind.{Kind}
use Rattle.iso_formats.specs.TableFile2.{HasHeadOf, NoneFailsBefore, body_place, body_count, count_at, fails, index_end, offset_at, stated}
use Rattle.table_file.specs.HeldEntries.{IsEntryAt}

-- the index is right, and so is each body before the one of this number, which is to stand at the place
pub record IsNextBody (kind : Kind) (d : ℕ) (bytes : List ℕ) (number place : ℕ) : Type 0 where
  pub head : HasHeadOf 2 bytes kind d
  pub few : stated bytes ≤ 65536
  pub counted : number < stated bytes
  pub index : index_end (stated bytes) ≤ length bytes
  pub at : body_place bytes d number ≡ place
  pub offset : offset_at bytes number ≡ place
  pub inside : place ≤ length bytes
  pub before : NoneFailsBefore kind d bytes place

-- the count of the body is whole and right
pub record HasRightCount (kind : Kind) (d : ℕ) (bytes : List ℕ) (number place : ℕ) : Type 0 where
  pub whole : place + 4 ≤ length bytes
  pub some : 1 ≤ count_at bytes d number
  pub few : count_at bytes d number ≤ 2 ^ 28
  pub right : ¬ (fails kind d bytes (body_count number) ≡ true)
  pub next : number + 1 < stated bytes → offset_at bytes (number + 1) ≡ place + 4 + d * count_at bytes d number

-- the entry is that of the body
pub record IsBodyRead (kind : Kind) (d : ℕ) (bytes : List ℕ) (number place : ℕ) (tuples : List (List ℕ)) : Type 0 where
  pub entry : IsEntryAt kind d bytes place tuples
  pub some : 1 ≤ length tuples
  pub next : number + 1 < stated bytes → offset_at bytes (number + 1) ≡ place + 4 + d * length tuples
  pub before : NoneFailsBefore kind d bytes (place + 4 + d * length tuples)

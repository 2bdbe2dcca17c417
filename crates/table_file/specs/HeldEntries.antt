-- What stands at the place of an entry: the entry, or why there is none.
use Rattle.std.specs.Prelude.{◌≡◌, ◌⊎◌, ⊤, ℕ, ◌+◌, ◌*◌, ◌^◌, ◌<◌, ◌≤◌, List, ◌∷◌, ◌++◌, length, take, drop, All}
use Rattle.iso_model.specs.declared.Kind.{Kind}
use Rattle.iso_model.specs.Cells.{edge_count}
use Rattle.iso_model.specs.Tables.{IsEntry}
use Rattle.iso_formats.specs.TableFile.{big_endian, entry_bytes}
use Rattle.table_file.specs.declared.faults.TableFault.{TableFault}
use Rattle.table_file.specs.declared.faults.TableFault.TheVariants.{Magic, Kind as KindFault, EdgeNumber, Short, Extra, Index, Count, Memory}

-- the bytes begin with a count of tuples that is whole and at most 2^28
abbrev pub BeginsWithCount : List ℕ → ℕ → Type 0
BeginsWithCount bytes count = (count ≤ 2 ^ 28) × (take 4 bytes ≡ big_endian 4 count)

-- the entry stands at the place
pub record IsEntryAt (kind : Kind) (d : ℕ) (bytes : List ℕ) (place : ℕ) (tuples : List (List ℕ)) : Type 0 where
  pub sound : IsEntry kind d tuples
  pub inside : place + 4 + length tuples * d ≤ length bytes
  pub split : drop place bytes ≡ entry_bytes tuples ++ drop (place + 4 + length tuples * d) bytes

-- behind a count, the byte so far from it is one of a tuple and no edge's number
pub record HasWrongEdge (kind : Kind) (d : ℕ) (bytes : List ℕ) (distance : ℕ) : Type 0 where
  pub count : ℕ
  pub before : List ℕ
  pub byte : ℕ
  pub rest : List ℕ
  pub few : count ≤ 2 ^ 28
  pub in_tuple : length before < count * d
  pub right : All (λ e. e < edge_count kind d) before
  pub wrong : edge_count kind d ≤ byte
  pub split : bytes ≡ big_endian 4 count ++ before ++ byte ∷ rest
  pub at : distance ≡ length before

-- behind a count, the bytes end within the tuples
pub record IsCutOff (kind : Kind) (d : ℕ) (bytes : List ℕ) : Type 0 where
  pub count : ℕ
  pub before : List ℕ
  pub few : count ≤ 2 ^ 28
  pub in_tuple : length before < count * d
  pub right : All (λ e. e < edge_count kind d) before
  pub split : bytes ≡ big_endian 4 count ++ before

-- why no entry stands at the place
abbrev pub IsEntryFault : Kind → ℕ → List ℕ → ℕ → TableFault → Type 0
IsEntryFault kind d bytes place (Magic p) = ⊥
IsEntryFault kind d bytes place (KindFault p) = ⊥
IsEntryFault kind d bytes place (EdgeNumber p) = (distance : ℕ) × (p ≡ place + 4 + distance) × HasWrongEdge kind d (drop place bytes) distance
IsEntryFault kind d bytes place (Short p) =
    (p ≡ length bytes) × (((count : ℕ) → ¬ BeginsWithCount (drop place bytes) count) ⊎ IsCutOff kind d (drop place bytes))
IsEntryFault kind d bytes place (Extra p) = ⊥
IsEntryFault kind d bytes place (Index p) = ⊥
IsEntryFault kind d bytes place (Count p) = ⊥
IsEntryFault kind d bytes place Memory = ⊤

-- The table file, version 1: the bytes of a table, and the fault of bytes that spell no table.
use Rattle.std.specs.Prelude.{◌≡◌, ◌⊎◌, ℕ, ◌+◌, ◌*◌, ◌^◌, ◌<◌, ◌≤◌, List, ◌∷◌, ◌++◌, flat_map, length, take, All, codes}
use Rattle.std.specs.Int.{bytes_high_first}
use Rattle.iso_model.specs.declared.Kind.{Kind}
use Rattle.iso_model.specs.declared.Kind.TheVariants.{Cube, Simplex, Pyramid}
use Rattle.iso_model.specs.Cells.{HasDimension, corner_count, edge_count, label_count}
use Rattle.iso_model.specs.Tables.{Table, IsTable, IsEntry}

-- a table file has at most 2^30 bytes
abbrev pub table_limit : ℕ
table_limit = 2 ^ 30

-- the byte of a kind
abbrev pub kind_byte : Kind → ℕ
kind_byte Cube = 0
kind_byte Simplex = 1
kind_byte Pyramid = 2

-- a number in so many bytes, the high byte first
abbrev pub big_endian : ℕ → ℕ → List ℕ
big_endian width n = bytes_high_first width n

-- the head of sixteen bytes: HULLTAB and the version as a digit, the kind, D, the numbers of corners and of edges, and in four bytes the number of labels
abbrev pub head_bytes : ℕ → Kind → ℕ → List ℕ
head_bytes version kind d =
    codes "HULLTAB" ++ (48 + version) ∷ kind_byte kind ∷ d ∷ corner_count kind d ∷ edge_count kind d ∷ big_endian 4 (label_count kind d)

-- the bytes of an entry: the number of tuples in four bytes, and the tuples, a byte for each edge number
abbrev pub entry_bytes : List (List ℕ) → List ℕ
entry_bytes ws = big_endian 4 (length ws) ++ flat_map (λ w. w) ws

-- the bytes of a table: the head, and the entry of each label from 0; nothing follows
unfoldable pub table_bytes : Table → List ℕ
table_bytes t = head_bytes 1 t.kind t.dimension ++ flat_map entry_bytes t.entries

-- the bytes are those of the table
abbrev pub SpellsTable : List ℕ → Table → Type 0
SpellsTable bytes t = IsTable t × (bytes ≡ table_bytes t)

-- ---- the fault of bytes that spell no table

-- the bytes begin those of some table
abbrev pub BeginsTable : List ℕ → Type 0
BeginsTable bytes = (t : Table) × (rest : List ℕ) × SpellsTable (bytes ++ rest) t

-- the bytes are those of some table
abbrev pub IsWholeTable : List ℕ → Type 0
IsWholeTable bytes = (t : Table) × SpellsTable bytes t

-- no table goes on at the place, and it is the first such place: the bytes before it begin some table, and with the byte there they begin none
pub record StopsAt (bytes : List ℕ) (place : ℕ) : Type 0 where
  pub inside : place < length bytes
  pub begun : BeginsTable (take place bytes)
  pub stopped : ¬ BeginsTable (take (place + 1) bytes)

-- a count passes 2^28: the bytes before it are a head and whole entries, and the four bytes of the count, or as many of them as there are before the
-- end, begin no count of at most 2^28
pub record CountPasses (bytes : List ℕ) : Type 0 where
  pub kind : Kind
  pub dimension : ℕ
  pub entries : List (List (List ℕ))
  pub rest : List ℕ
  pub fits : HasDimension kind dimension
  pub room : length entries < label_count kind dimension
  pub sound : All (IsEntry kind dimension) entries
  pub split : bytes ≡ table_bytes (record { kind = kind; dimension = dimension; entries = entries }) ++ rest
  pub passes : (count : ℕ) → count ≤ 2 ^ 28 → ¬ (take 4 rest ≡ take (length rest) (big_endian 4 count))

-- the byte at the place is no edge's number: it stands behind a head, whole entries, a count of at most 2^28 and right bytes of tuples, where a byte
-- of a tuple should stand
pub record IsWrongEdge (bytes : List ℕ) (place : ℕ) : Type 0 where
  pub kind : Kind
  pub dimension : ℕ
  pub entries : List (List (List ℕ))
  pub count : ℕ
  pub before : List ℕ
  pub byte : ℕ
  pub rest : List ℕ
  pub fits : HasDimension kind dimension
  pub room : length entries < label_count kind dimension
  pub sound : All (IsEntry kind dimension) entries
  pub few : count ≤ 2 ^ 28
  pub in_tuple : length before < count * dimension
  pub right : All (λ e. e < edge_count kind dimension) before
  pub wrong : edge_count kind dimension ≤ byte
  pub split : bytes ≡ table_bytes (record { kind = kind; dimension = dimension; entries = entries }) ++ big_endian 4 count ++ before ++ byte ∷ rest
  pub at : place + length rest + 1 ≡ length bytes

-- the faults of a table file, each with its place, counted from 0
pub data TableFault : Type 0 where
  magic_fault : ℕ → TableFault
  kind_fault : ℕ → TableFault
  edge_fault : ℕ → TableFault
  short_fault : ℕ → TableFault
  extra_fault : ℕ → TableFault

-- the bytes have the fault: its place is the first at which no table goes on, and there is a wrong byte of the first eight, or of the next eight, or
-- a tuple's byte that is no edge's number;
-- or the bytes end there; or a whole table ended just before it. A count that passes 2^28 is the fault short too, at the length of the bytes
abbrev pub HasTableFault : List ℕ → TableFault → Type 0
HasTableFault bytes (magic_fault p) = StopsAt bytes p × (p < 8)
HasTableFault bytes (kind_fault p) = StopsAt bytes p × (8 ≤ p) × (p < 16)
HasTableFault bytes (edge_fault p) = IsWrongEdge bytes p
HasTableFault bytes (short_fault p) = (p ≡ length bytes) × (CountPasses bytes ⊎ (BeginsTable bytes × ¬ IsWholeTable bytes))
HasTableFault bytes (extra_fault p) = (p < length bytes) × IsWholeTable (take p bytes)

-- at a byte that is no edge's number no table goes on, no whole table ends just before it, and no count passes 2^28
abbrev pub WrongEdgeStops : List ℕ → ℕ → Type 0
WrongEdgeStops bytes place = IsWrongEdge bytes place → StopsAt bytes place × ¬ IsWholeTable (take place bytes) × ¬ CountPasses bytes

-- bytes that are no table have exactly one fault
abbrev pub HasOneFault : List ℕ → Type 0
HasOneFault bytes = ¬ IsWholeTable bytes → (fault : TableFault) × HasTableFault bytes fault × ((other : TableFault) → HasTableFault bytes other → other ≡ fault)

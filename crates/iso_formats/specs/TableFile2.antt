-- The table file of version 2, which has an index of offsets and leaves empty entries out; and the table file of either version, with its fault.
use Rattle.std.specs.Prelude.{codes, nat_eq, ◌≡◌, ◌⊎◌, ℕ, zero, suc, ◌+◌, ◌-◌, ◌*◌, ◌%◌, ◌^◌, ◌<◌, ◌≤◌, Bool, true, false, not, ◌&&◌, ◌==◌}
use Rattle.std.specs.Prelude.{nat_lt, nat_le, List, [], ◌∷◌, ◌++◌, filter, flat_map, length, slice_index, take, drop, All, if◌then◌else◌}
use Rattle.std.specs.List.{starts_with}
use Rattle.std.specs.Int.{Width, w32, w64, byte_len, from_be_bytes}
use Rattle.iso_model.specs.declared.Kind.{Kind}
use Rattle.iso_model.specs.Cells.{HasDimension, edge_count, label_count}
use Rattle.iso_model.specs.Tables.{Table, IsTable}
use Rattle.iso_formats.specs.TableFile.{head_bytes, big_endian, entry_bytes, table_limit, SpellsTable, TableFault, HasTableFault}
use Rattle.iso_formats.specs.TableFile.{magic_fault, kind_fault, edge_fault, short_fault, extra_fault}

-- ---- the bytes of a table

-- the entry is not empty
abbrev pub is_filled : List (List ℕ) → Bool
is_filled [] = false
is_filled (w ∷ ws) = true

-- the record of a label's entry whose body stands at a place: the label in four bytes and the place in eight; an empty entry has none
abbrev pub record_bytes : ℕ → ℕ → List (List ℕ) → List ℕ
record_bytes label place [] = []
record_bytes label place (w ∷ ws) = big_endian 4 label ++ big_endian 8 place

-- the body of an entry: the number of its tuples in four bytes, and the tuples; an empty entry has none
abbrev pub body_bytes : List (List ℕ) → List ℕ
body_bytes [] = []
body_bytes (w ∷ ws) = entry_bytes (w ∷ ws)

-- the records of the entries of the labels from one on, ascending, whose bodies stand one behind the other from a place on
abbrev pub index_bytes : ℕ → ℕ → List (List (List ℕ)) → List ℕ
index_bytes label place [] = []
index_bytes label place (ws ∷ es) = record_bytes label place ws ++ index_bytes (label + 1) (place + length (body_bytes ws)) es

-- where the index of n records ends
abbrev pub index_end : ℕ → ℕ
index_end n = 20 + 12 * n

-- the number of labels whose entries are not empty
abbrev pub filled_count : List (List (List ℕ)) → ℕ
filled_count es = length (filter is_filled es)

-- the bytes of a table in version 2: the head; the number of labels whose entries are not empty, in four bytes; their records, the first body standing
-- at the end of the index; and their bodies, in this order; nothing follows
unfoldable pub table_bytes2 : Table → List ℕ
table_bytes2 t =
    head_bytes 2 t.kind t.dimension
    ++ big_endian 4 (filled_count t.entries)
    ++ index_bytes 0 (index_end (filled_count t.entries)) t.entries
    ++ flat_map body_bytes t.entries

-- the bytes are those of the table in version 2
abbrev pub SpellsTable2 : List ℕ → Table → Type 0
SpellsTable2 bytes t = IsTable t × (bytes ≡ table_bytes2 t)

-- ---- the fields behind the head

-- the number in the bytes from a place on, so many as its width has, the high byte first; where the bytes end before, it means nothing
abbrev pub number_at : Width → List ℕ → ℕ → ℕ
number_at w bytes place = from_be_bytes w (take (byte_len w) (drop place bytes))

-- the number of records that the file states
abbrev pub stated : List ℕ → ℕ
stated bytes = number_at w32 bytes 16

-- the label of record k, and its offset
abbrev pub label_at : List ℕ → ℕ → ℕ
label_at bytes k = number_at w32 bytes (20 + 12 * k)

abbrev pub offset_at : List ℕ → ℕ → ℕ
offset_at bytes k = number_at w64 bytes (24 + 12 * k)

-- the place of body k: the bodies stand behind the index one behind the other, each as long as its own count says. Where no field before fails, the
-- offset of record k says the same
abbrev pub body_place : List ℕ → ℕ → ℕ → ℕ
body_place bytes d zero = index_end (stated bytes)
body_place bytes d (suc k) = body_place bytes d k + 4 + d * number_at w32 bytes (body_place bytes d k)

-- the count of body k
abbrev pub count_at : List ℕ → ℕ → ℕ → ℕ
count_at bytes d k = number_at w32 bytes (body_place bytes d k)

-- a field: the number of records; the label or the offset of record k; the count of body k, or byte j of its tuples
pub data Field : Type 0 where
  record_count : Field
  record_label : ℕ → Field
  record_offset : ℕ → Field
  body_count : ℕ → Field
  body_byte : ℕ → ℕ → Field

-- the fields of the file
abbrev pub IsField : List ℕ → ℕ → Field → Type 0
IsField bytes d record_count = Unit {0}
IsField bytes d (record_label k) = k < stated bytes
IsField bytes d (record_offset k) = k < stated bytes
IsField bytes d (body_count k) = k < stated bytes
IsField bytes d (body_byte k j) = (k < stated bytes) × (j < d * count_at bytes d k)

-- the first place of a field; in file order fields ascend in it
abbrev pub place_of : List ℕ → ℕ → Field → ℕ
place_of bytes d record_count = 16
place_of bytes d (record_label k) = 20 + 12 * k
place_of bytes d (record_offset k) = 24 + 12 * k
place_of bytes d (body_count k) = body_place bytes d k
place_of bytes d (body_byte k j) = body_place bytes d k + 4 + j

-- the number of bytes of a field
abbrev pub width_of : Field → ℕ
width_of record_count = 4
width_of (record_label k) = 4
width_of (record_offset k) = 8
width_of (body_count k) = 4
width_of (body_byte k j) = 1

-- the bytes do not end before the field is whole
abbrev pub is_uncut : List ℕ → ℕ → Field → Bool
is_uncut bytes d f = nat_le (place_of bytes d f + width_of f) (length bytes)

-- a number of tuples that a body may have: from 1 to 2^28
abbrev pub is_filled_count : ℕ → Bool
is_filled_count count = nat_le 1 count && nat_le count (2 ^ 28)

-- the later offset is the one before plus 4 plus d times a number from 1 to 2^28
abbrev pub has_room_for_body : ℕ → ℕ → ℕ → Bool
has_room_for_body d here next = nat_le (here + 4 + d) next && nat_le next (here + 4 + d * 2 ^ 28) && ((next - (here + 4)) % d == 0)

-- what is asked of a label: it is above the one before
abbrev pub ascends_at : List ℕ → ℕ → Bool
ascends_at bytes zero = true
ascends_at bytes (suc k) = nat_lt (label_at bytes k) (label_at bytes (suc k))

-- what is asked of an offset: the first is the end of the index, and each later one leaves room for the body before
abbrev pub is_offset_right : List ℕ → ℕ → ℕ → Bool
is_offset_right bytes d zero = offset_at bytes 0 == index_end (stated bytes)
is_offset_right bytes d (suc k) = has_room_for_body d (offset_at bytes k) (offset_at bytes (suc k))

-- what is asked of a count: before the last body it is the one that the offsets give, and that of the last body is from 1 to 2^28
abbrev pub is_count_right : List ℕ → ℕ → ℕ → Bool
is_count_right bytes d k =
    if k + 1 == stated bytes then is_filled_count (count_at bytes d k)
    else offset_at bytes k + 4 + d * count_at bytes d k == offset_at bytes (k + 1)

-- what is asked of the number in a field that is whole: that of records is at most that of labels, a label ascends and is one, an offset and a count
-- are right, and a byte of a tuple is below the number of edges
abbrev pub is_right : Kind → ℕ → List ℕ → Field → Bool
is_right kind d bytes record_count = nat_le (stated bytes) (label_count kind d)
is_right kind d bytes (record_label k) = ascends_at bytes k && nat_lt (label_at bytes k) (label_count kind d)
is_right kind d bytes (record_offset k) = is_offset_right bytes d k
is_right kind d bytes (body_count k) = is_count_right bytes d k
is_right kind d bytes (body_byte k j) = nat_lt (slice_index bytes (body_place bytes d k + 4 + j)) (edge_count kind d)

-- a field fails where the bytes end before it is whole, or its number is wrong
abbrev pub fails : Kind → ℕ → List ℕ → Field → Bool
fails kind d bytes f = not (is_uncut bytes d f && is_right kind d bytes f)

-- ---- the fault of a file

-- the faults of a table file of either version, each with its place, counted from 0
pub data FileFault : Type 0 where
  at_magic : ℕ → FileFault
  at_kind : ℕ → FileFault
  at_edge : ℕ → FileFault
  at_short : ℕ → FileFault
  at_extra : ℕ → FileFault
  at_index : ℕ → FileFault
  at_count : ℕ → FileFault

-- the fault of a wrong number in a field at a place
abbrev pub fault_in : Field → ℕ → FileFault
fault_in record_count place = at_index place
fault_in (record_label k) place = at_index place
fault_in (record_offset k) place = at_index place
fault_in (body_count k) place = at_count place
fault_in (body_byte k j) place = at_edge place

-- the fault of a field that fails: it is cut off by the end, or else its number is wrong
abbrev pub fault_of : List ℕ → ℕ → Field → FileFault
fault_of bytes d f = if is_uncut bytes d f then fault_in f (place_of bytes d f) else at_short (length bytes)

-- the first field in file order that fails
pub record IsFirstFailed (kind : Kind) (d : ℕ) (bytes : List ℕ) (f : Field) : Type 0 where
  pub is_field : IsField bytes d f
  pub failed : fails kind d bytes f ≡ true
  pub first : (other : Field) → IsField bytes d other → place_of bytes d other < place_of bytes d f → ¬ (fails kind d bytes other ≡ true)

-- no field fails
abbrev pub NoneFails : Kind → ℕ → List ℕ → Type 0
NoneFails kind d bytes = (f : Field) → IsField bytes d f → ¬ (fails kind d bytes f ≡ true)

-- no field that begins before the place fails
abbrev pub NoneFailsBefore : Kind → ℕ → List ℕ → ℕ → Type 0
NoneFailsBefore kind d bytes place = (f : Field) → IsField bytes d f → place_of bytes d f < place → ¬ (fails kind d bytes f ≡ true)

-- the place behind the last body, or behind the index where there is none
abbrev pub file_end : List ℕ → ℕ → ℕ
file_end bytes d = body_place bytes d (stated bytes)

-- the fault behind a right head of version 2: that of the first field that fails; or no field fails, and a byte follows
abbrev pub HasBodyFault : Kind → ℕ → List ℕ → FileFault → Type 0
HasBodyFault kind d bytes fault =
    ((f : Field) × IsFirstFailed kind d bytes f × (fault ≡ fault_of bytes d f))
    ⊎ (NoneFails kind d bytes × (file_end bytes d < length bytes) × (fault ≡ at_extra (file_end bytes d)))

-- the first bytes, so many, are those of a head of version 1 or 2
pub record BeginsSomeHead (bytes : List ℕ) (places : ℕ) : Type 0 where
  pub version : ℕ
  pub kind : Kind
  pub dimension : ℕ
  pub one_or_two : (version ≡ 1) ⊎ (version ≡ 2)
  pub fits : HasDimension kind dimension
  pub same : take places bytes ≡ take places (head_bytes version kind dimension)

-- no head of version 1 or 2 goes on at the place, and it is the first such place
pub record StopsInSomeHead (bytes : List ℕ) (place : ℕ) : Type 0 where
  pub inside_head : place < 16
  pub inside : place < length bytes
  pub begun : BeginsSomeHead bytes place
  pub stopped : ¬ BeginsSomeHead bytes (place + 1)

-- the fault among the first sixteen bytes: no head goes on in the first eight or in the next eight, or the bytes end within a head
abbrev pub HasHeadFault : List ℕ → FileFault → Type 0
HasHeadFault bytes (at_magic place) = StopsInSomeHead bytes place × (place < 8)
HasHeadFault bytes (at_kind place) = StopsInSomeHead bytes place × (8 ≤ place)
HasHeadFault bytes (at_short place) = (place ≡ length bytes) × (place < 16) × BeginsSomeHead bytes place
HasHeadFault bytes (at_edge place) = ⊥
HasHeadFault bytes (at_extra place) = ⊥
HasHeadFault bytes (at_index place) = ⊥
HasHeadFault bytes (at_count place) = ⊥

-- the first sixteen bytes are the head of the version for a kind and a dimension
pub record HasHeadOf (version : ℕ) (bytes : List ℕ) (kind : Kind) (d : ℕ) : Type 0 where
  pub fits : HasDimension kind d
  pub whole : 16 ≤ length bytes
  pub same : take 16 bytes ≡ head_bytes version kind d

-- the fault of a file of version 1 as one of either version
abbrev pub as_file_fault : TableFault → FileFault
as_file_fault (magic_fault place) = at_magic place
as_file_fault (kind_fault place) = at_kind place
as_file_fault (edge_fault place) = at_edge place
as_file_fault (short_fault place) = at_short place
as_file_fault (extra_fault place) = at_extra place

-- the bytes have the fault: there is no right head; or behind one of version 1 it is the fault of that version; or behind one of version 2 it is the
-- fault of that
abbrev pub HasFileFault : List ℕ → FileFault → Type 0
HasFileFault bytes fault =
    HasHeadFault bytes fault
    ⊎ ((kind : Kind) × (d : ℕ) × (f : TableFault) × HasHeadOf 1 bytes kind d × HasTableFault bytes f × (fault ≡ as_file_fault f))
    ⊎ ((kind : Kind) × (d : ℕ) × HasHeadOf 2 bytes kind d × HasBodyFault kind d bytes fault)

-- ---- the file of either version

-- a table file of version 2 has at most 2^20 bytes more than one of version 1
abbrev pub table_limit2 : ℕ
table_limit2 = table_limit + 2 ^ 20

-- the limit of a file: that of version 2 where it begins with HULLTAB2, else that of version 1
abbrev pub limit_of : List ℕ → ℕ
limit_of bytes = if starts_with nat_eq bytes (codes "HULLTAB2") then table_limit2 else table_limit

-- a table file is too long: it has more bytes than its limit
abbrev pub IsFileTooLong : List ℕ → Type 0
IsFileTooLong bytes = limit_of bytes < length bytes

-- the bytes are those of the table in version 1 or in version 2
abbrev pub IsTableFile : List ℕ → Table → Type 0
IsTableFile bytes t = SpellsTable bytes t ⊎ SpellsTable2 bytes t

-- the bytes are the file of some table
abbrev pub IsWholeFile : List ℕ → Type 0
IsWholeFile bytes = (t : Table) × IsTableFile bytes t

-- ---- laws

-- no two tables have these bytes
abbrev pub HasOneTable : List ℕ → Type 0
HasOneTable bytes = (t u : Table) → IsTableFile bytes t → IsTableFile bytes u → u ≡ t

-- a file with a fault is no file of a table
abbrev pub FaultsExclude : List ℕ → Type 0
FaultsExclude bytes = (fault : FileFault) → HasFileFault bytes fault → ¬ IsWholeFile bytes

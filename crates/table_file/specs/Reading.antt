-- What was read, and why nothing was.
use Rattle.std.specs.Prelude.{◌≡◌, ⊤, ℕ, List}
use Rattle.iso_model.specs.declared.Kind.{Kind as CellKind}
use Rattle.iso_model.specs.Tables.{Table}
use Rattle.iso_formats.specs.TableFile.{HasTableFault, magic_fault, kind_fault, edge_fault, short_fault, extra_fault}
use Rattle.table_file.specs.declared.faults.TableFault.{TableFault}
use Rattle.table_file.specs.declared.faults.TableFault.TheVariants.{Magic, Kind, EdgeNumber, Short, Extra, Index, Count, Memory}
use Rattle.iso_formats.specs.TableFile2.{FileFault, at_magic, at_kind, at_edge, at_short, at_extra, at_index, at_count, HasFileFault, HasBodyFault}
use Rattle.table_file.specs.declared.tables.AnyTable.{AnyTable}
use Rattle.table_file.specs.declared.tables.AnyTable.TheVariants.{T2, T3, T4}

-- the table, of whichever dimension
abbrev pub table_in : AnyTable → Table
table_in (T2 t) = t
table_in (T3 t) = t
table_in (T4 t) = t

-- the table is of the dimension that its variant names
abbrev pub HasOwnDimension : AnyTable → Type 0
HasOwnDimension (T2 t) = t.dimension ≡ 2
HasOwnDimension (T3 t) = t.dimension ≡ 3
HasOwnDimension (T4 t) = t.dimension ≡ 4

-- the fault is one of those; memory may be refused at any bytes
abbrev pub IsOneOf : (FileFault → Type 0) → TableFault → Type 0
IsOneOf Among (Magic place) = Among (at_magic place)
IsOneOf Among (Kind place) = Among (at_kind place)
IsOneOf Among (EdgeNumber place) = Among (at_edge place)
IsOneOf Among (Short place) = Among (at_short place)
IsOneOf Among (Extra place) = Among (at_extra place)
IsOneOf Among (Index place) = Among (at_index place)
IsOneOf Among (Count place) = Among (at_count place)
IsOneOf Among Memory = ⊤

-- the bytes have this fault
abbrev pub HasCause : List ℕ → TableFault → Type 0
HasCause bytes fault = IsOneOf (HasFileFault bytes) fault

-- behind a head of version 2 the bytes have this fault
abbrev pub HasBodyCause : CellKind → ℕ → List ℕ → TableFault → Type 0
HasBodyCause kind d bytes fault = IsOneOf (HasBodyFault kind d bytes) fault

-- the bytes have this fault of a file of version 1
abbrev pub HasFirstCause : List ℕ → TableFault → Type 0
HasFirstCause bytes (Magic place) = HasTableFault bytes (magic_fault place)
HasFirstCause bytes (Kind place) = HasTableFault bytes (kind_fault place)
HasFirstCause bytes (EdgeNumber place) = HasTableFault bytes (edge_fault place)
HasFirstCause bytes (Short place) = HasTableFault bytes (short_fault place)
HasFirstCause bytes (Extra place) = HasTableFault bytes (extra_fault place)
HasFirstCause bytes (Index place) = ⊥
HasFirstCause bytes (Count place) = ⊥
HasFirstCause bytes Memory = ⊤

-- That reading and writing table files are inverse to each other.
use Rattle.std.specs.Prelude.{◌≡◌, ℕ, List}
use Rattle.iso_model.specs.Tables.{Table, IsTable}
use Rattle.iso_formats.specs.TableFile.{table_bytes}
use Rattle.iso_formats.specs.TableFile2.{HasHeadOf, IsFileTooLong, IsTableFile, table_bytes2}
use Rattle.table_file.specs.declared.heads.Version.{Version}
use Rattle.table_file.specs.declared.heads.Version.TheVariants.{One, Two}
use Rattle.table_file.specs.Heads.{version_number}

-- the bytes that are written of a table in a version
abbrev pub written : Version → Table → List ℕ
written One t = table_bytes t
written Two t = table_bytes2 t

-- what is written of a table is read as that table, and as no other
abbrev pub IsReadBack : Version → Table → Type 0
IsReadBack version t = IsTable t → IsTableFile (written version t) t × ((u : Table) → IsTableFile (written version t) u → u ≡ t)

-- where a file that begins with the head of a version is read as a table, these very bytes are written of it
abbrev pub IsWrittenBack : Version → List ℕ → Table → Type 0
IsWrittenBack version bytes t = HasHeadOf (version_number version) bytes t.kind t.dimension → IsTableFile bytes t → bytes ≡ written version t

-- where a file that is not too long holds the table, version 2 of the table is not too long either
abbrev pub KeepsLimit : List ℕ → Table → Type 0
KeepsLimit bytes t = ¬ IsFileTooLong bytes → IsTableFile bytes t → ¬ IsFileTooLong (table_bytes2 t)

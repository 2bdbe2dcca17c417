-- The exit code and the line of each status.
use Rattle.std.specs.Prelude.{ℕ, ℤ, List, [], ◌∷◌, ◌++◌, codes}
use Rattle.std.specs.Fmt.{decimal, signed_decimal}
use Rattle.iso_formats.specs.declared.Field.{Field}
use Rattle.iso_formats.specs.declared.Field.TheVariants as Fields
use Rattle.mesh_audit.specs.declared.findings.Finding.{Finding}
use Rattle.mesh_audit.specs.declared.findings.Finding.TheVariants as Findings
use Rattle.iso_cli.specs.declared.status.Status.{Status}
use Rattle.iso_cli.specs.declared.status.Status.TheVariants as Statuses
use Rattle.iso_cli.specs.declared.status.TableForm.{TableForm}
use Rattle.iso_cli.specs.declared.status.TableForm.TheVariants as Forms
use Rattle.iso_cli.specs.declared.status.TableCause.{TableCause}
use Rattle.iso_cli.specs.declared.status.TableCause.TheVariants as TableCauses
use Rattle.iso_cli.specs.declared.status.GridCause.{GridCause}
use Rattle.iso_cli.specs.declared.status.GridCause.TheVariants as GridCauses
use Rattle.iso_cli.specs.declared.status.OffCause.{OffCause}
use Rattle.iso_cli.specs.declared.status.OffCause.TheVariants as OffCauses

-- the exit code
abbrev pub status_code : Status → ℕ
status_code Statuses.Done = 0
status_code Statuses.Memory = 1
status_code (Statuses.Usage word) = 2
status_code (Statuses.ShelfFault count) = 3
status_code (Statuses.WriteFault count) = 4
status_code (Statuses.TableForm form) = 5
status_code (Statuses.TableRefused label r) = 6
status_code (Statuses.GridForm cause) = 7
status_code (Statuses.GridLarge count) = 8
status_code (Statuses.Unfit table grid) = 9
status_code (Statuses.AuditFault finding) = 13
status_code (Statuses.MeshForm cause) = 14

-- a text, and LF
abbrev pub ended : List ℕ → List ℕ
ended text = text ++ 10 ∷ []

-- a text, a number, and LF
abbrev pub counted : List ℕ → ℕ → List ℕ
counted text n = text ++ decimal n ++ 10 ∷ []

-- what is wrong at a place of a table file
abbrev pub table_cause_name : TableCause → List ℕ
table_cause_name TableCauses.Magic = codes "magic"
table_cause_name TableCauses.Kind = codes "kind"
table_cause_name TableCauses.EdgeNumber = codes "edge number"
table_cause_name TableCauses.Short = codes "short"
table_cause_name TableCauses.Extra = codes "extra"
table_cause_name TableCauses.Index = codes "index"
table_cause_name TableCauses.Count = codes "count"

-- the line of a file that is no table
abbrev pub table_line : TableForm → List ℕ
table_line Forms.Long = ended (codes "table form: long")
table_line (Forms.Fault place cause) = codes "table form: " ++ table_cause_name cause ++ codes " " ++ decimal place ++ 10 ∷ []

-- the name of a field of a grid file's header
abbrev pub field_name : Field → List ℕ
field_name Fields.SampleType = codes "type"
field_name Fields.Dimension = codes "dimension"
field_name Fields.Sizes = codes "sizes"
field_name Fields.Encoding = codes "encoding"
field_name Fields.Endian = codes "endian"

-- the line of a file that is no grid
abbrev pub grid_line : GridCause → List ℕ
grid_line GridCauses.Magic = ended (codes "grid form: magic")
grid_line GridCauses.HeaderLong = ended (codes "grid form: header long")
grid_line GridCauses.HeaderEnd = ended (codes "grid form: header end")
grid_line (GridCauses.Line line) = counted (codes "grid form: line ") line
grid_line (GridCauses.Repeated line) = counted (codes "grid form: repeated ") line
grid_line (GridCauses.SampleType line) = counted (codes "grid form: type ") line
grid_line (GridCauses.Dimension line) = counted (codes "grid form: dimension ") line
grid_line (GridCauses.Sizes line) = counted (codes "grid form: sizes ") line
grid_line (GridCauses.Encoding line) = counted (codes "grid form: encoding ") line
grid_line (GridCauses.Endian line) = counted (codes "grid form: endian ") line
grid_line (GridCauses.Skip line) = counted (codes "grid form: skip ") line
grid_line (GridCauses.Detached line) = counted (codes "grid form: detached ") line
grid_line (GridCauses.Missing field) = ended (codes "grid form: missing " ++ field_name field)
grid_line (GridCauses.DataShort count) = counted (codes "grid form: short ") count
grid_line GridCauses.Trailing = ended (codes "grid form: trailing")

-- the line of a file that is no mesh
abbrev pub mesh_line : OffCause → List ℕ
mesh_line OffCauses.Long = ended (codes "mesh form: long")
mesh_line (OffCauses.Header line) = counted (codes "mesh form: header ") line
mesh_line (OffCauses.Count line) = counted (codes "mesh form: count ") line
mesh_line (OffCauses.Coordinate line) = counted (codes "mesh form: coordinate ") line
mesh_line (OffCauses.FaceSize line) = counted (codes "mesh form: face size ") line
mesh_line (OffCauses.Index line) = counted (codes "mesh form: index ") line
mesh_line (OffCauses.Extra line) = counted (codes "mesh form: extra ") line
mesh_line (OffCauses.Short lines) = counted (codes "mesh form: short ") lines

-- the line of a face that is not glued: of simplex i without a place, with its count and its sum
abbrev pub face_line : ℕ → ℕ → ℕ → ℤ → List ℕ
face_line i place count sum =
    codes "audit fault: face simplex " ++ decimal i ++ codes " place " ++ decimal place ++ codes " count " ++ decimal count ++ codes " sum "
    ++ signed_decimal sum ++ 10 ∷ []

-- the line of what is found in a mesh. The first is of no refusal, and is never put
abbrev pub audit_line : Finding → List ℕ
audit_line (Findings.Clean boundary) = counted (codes "audit fault: clean ") boundary
audit_line (Findings.Repeat i) = counted (codes "audit fault: repeat simplex ") i
audit_line (Findings.Face i place count sum) = face_line i place count sum
audit_line (Findings.Link vertex) = counted (codes "audit fault: link vertex ") vertex

-- the line on standard error, which ends with LF; after success there is none
abbrev pub status_line : Status → List ℕ
status_line Statuses.Done = []
status_line Statuses.Memory = ended (codes "out of memory")
status_line (Statuses.Usage word) = counted (codes "usage: word ") word
status_line (Statuses.ShelfFault count) = counted (codes "shelf fault: ") count
status_line (Statuses.WriteFault count) = counted (codes "write fault: ") count
status_line (Statuses.TableForm form) = table_line form
status_line (Statuses.TableRefused label r) = codes "table refused: label " ++ decimal label ++ codes " rule " ++ decimal r ++ 10 ∷ []
status_line (Statuses.GridForm cause) = grid_line cause
status_line (Statuses.GridLarge count) = counted (codes "grid large: ") count
status_line (Statuses.Unfit table grid) = codes "unfit: table " ++ decimal table ++ codes " grid " ++ decimal grid ++ 10 ∷ []
status_line (Statuses.MeshForm cause) = mesh_line cause
status_line (Statuses.AuditFault finding) = audit_line finding

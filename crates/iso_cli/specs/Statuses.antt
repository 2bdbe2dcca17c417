-- Kinds of statuses.
use Rattle.std.specs.Prelude.{Result, IfErr, ⊤}
use Rattle.iso_cli.specs.declared.status.Status.{Status}
use Rattle.iso_cli.specs.declared.status.Status.TheVariants as Statuses

-- a run that ends so puts nothing to its output
abbrev pub IsRefusal : Status → Type 0
IsRefusal Statuses.Done = ⊥
IsRefusal (Statuses.WriteFault count) = ⊥
IsRefusal status = ⊤

-- the words are refused
abbrev pub IsUsage : Status → Type 0
IsUsage (Statuses.Usage place) = ⊤
IsUsage status = ⊥

-- the shelf is blamed
abbrev pub IsShelfFault : Status → Type 0
IsShelfFault (Statuses.ShelfFault count) = ⊤
IsShelfFault status = ⊥

-- a refusal that the bytes of the files decide
abbrev pub IsDecided : Status → Type 0
IsDecided (Statuses.TableForm form) = ⊤
IsDecided (Statuses.TableRefused label r) = ⊤
IsDecided (Statuses.GridForm cause) = ⊤
IsDecided (Statuses.Unfit table grid) = ⊤
IsDecided (Statuses.GridLarge count) = ⊤
IsDecided (Statuses.MeshForm cause) = ⊤
IsDecided (Statuses.AuditFault finding) = ⊤
IsDecided status = ⊥

-- where the error is a refusal that the bytes of the files decide, this holds of it
abbrev pub IfDecided : {T : Type 0} → Result T Status → (Status → Type 0) → Type 0
IfDecided result P = IfErr result (λ status. IsDecided status → P status)

-- the whole output was put, or memory was refused
abbrev pub IsDoneOrMemory : Status → Type 0
IsDoneOrMemory Statuses.Done = ⊤
IsDoneOrMemory Statuses.Memory = ⊤
IsDoneOrMemory status = ⊥

-- a refusal that taking bytes of a file may end with
abbrev pub IsOfReading : Status → Type 0
IsOfReading Statuses.Memory = ⊤
IsOfReading (Statuses.ShelfFault count) = ⊤
IsOfReading status = ⊥

-- a refusal that reading the form of the table may end with
abbrev pub IsOfForm : Status → Type 0
IsOfForm Statuses.Memory = ⊤
IsOfForm (Statuses.ShelfFault count) = ⊤
IsOfForm (Statuses.TableForm form) = ⊤
IsOfForm status = ⊥

-- a refusal that reading the table may end with
abbrev pub IsOfTable : Status → Type 0
IsOfTable Statuses.Memory = ⊤
IsOfTable (Statuses.ShelfFault count) = ⊤
IsOfTable (Statuses.TableForm form) = ⊤
IsOfTable (Statuses.TableRefused label r) = ⊤
IsOfTable status = ⊥

-- a refusal that reading the grid may end with
abbrev pub IsOfGrid : Status → Type 0
IsOfGrid Statuses.Memory = ⊤
IsOfGrid (Statuses.ShelfFault count) = ⊤
IsOfGrid (Statuses.GridForm cause) = ⊤
IsOfGrid (Statuses.GridLarge count) = ⊤
IsOfGrid (Statuses.Unfit table grid) = ⊤
IsOfGrid status = ⊥

-- a refusal that reading both files may end with
abbrev pub IsOfFiles : Status → Type 0
IsOfFiles Statuses.Done = ⊥
IsOfFiles (Statuses.Usage place) = ⊥
IsOfFiles (Statuses.WriteFault count) = ⊥
IsOfFiles (Statuses.MeshForm cause) = ⊥
IsOfFiles (Statuses.AuditFault finding) = ⊥
IsOfFiles status = ⊤

-- a refusal that reading a mesh may end with
abbrev pub IsOfMesh : Status → Type 0
IsOfMesh Statuses.Memory = ⊤
IsOfMesh (Statuses.ShelfFault count) = ⊤
IsOfMesh (Statuses.MeshForm cause) = ⊤
IsOfMesh status = ⊥

-- a refusal that the audit of a mesh may end with
abbrev pub IsOfAudit : Status → Type 0
IsOfAudit Statuses.Memory = ⊤
IsOfAudit (Statuses.ShelfFault count) = ⊤
IsOfAudit (Statuses.MeshForm cause) = ⊤
IsOfAudit (Statuses.AuditFault finding) = ⊤
IsOfAudit status = ⊥

-- a refusal that making and checking a table may end with
abbrev pub IsOfMaking : Status → Type 0
IsOfMaking Statuses.Memory = ⊤
IsOfMaking (Statuses.TableRefused label r) = ⊤
IsOfMaking status = ⊥

-- how the demonstration may end
abbrev pub IsOfDemonstration : Status → Type 0
IsOfDemonstration Statuses.Done = ⊤
IsOfDemonstration Statuses.Memory = ⊤
IsOfDemonstration (Statuses.WriteFault count) = ⊤
IsOfDemonstration (Statuses.TableRefused label r) = ⊤
IsOfDemonstration status = ⊥

-- how putting the output may end
abbrev pub IsOfPutting : Status → Type 0
IsOfPutting Statuses.Done = ⊤
IsOfPutting Statuses.Memory = ⊤
IsOfPutting (Statuses.WriteFault count) = ⊤
IsOfPutting status = ⊥

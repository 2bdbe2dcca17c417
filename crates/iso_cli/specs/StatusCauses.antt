-- The statuses that stand for faults of tables, grids and meshes.
use Rattle.iso_cli.specs.declared.status.Status.{Status}
use Rattle.iso_cli.specs.declared.status.Status.TheVariants as Statuses
use Rattle.iso_cli.specs.declared.status.TableForm.TheVariants as Forms
use Rattle.iso_cli.specs.declared.status.TableCause.TheVariants as TableCauses
use Rattle.iso_cli.specs.declared.status.GridCause.TheVariants as GridCauses
use Rattle.iso_cli.specs.declared.status.OffCause.TheVariants as OffCauses
use Rattle.nrrd_raw.specs.declared.faults.GridFault.{GridFault}
use Rattle.nrrd_raw.specs.declared.faults.GridFault.TheVariants as GridFaults
use Rattle.off_read.specs.declared.faults.OffFault.{OffFault}
use Rattle.off_read.specs.declared.faults.OffFault.TheVariants as OffFaults
use Rattle.table_file.specs.declared.faults.TableFault.{TableFault}
use Rattle.table_file.specs.declared.faults.TableFault.TheVariants as TableFaults

-- the status of a fault of a table's bytes
abbrev pub table_status : TableFault → Status
table_status (TableFaults.Magic place) = Statuses.TableForm (Forms.Fault place TableCauses.Magic)
table_status (TableFaults.Kind place) = Statuses.TableForm (Forms.Fault place TableCauses.Kind)
table_status (TableFaults.EdgeNumber place) = Statuses.TableForm (Forms.Fault place TableCauses.EdgeNumber)
table_status (TableFaults.Short place) = Statuses.TableForm (Forms.Fault place TableCauses.Short)
table_status (TableFaults.Extra place) = Statuses.TableForm (Forms.Fault place TableCauses.Extra)
table_status (TableFaults.Index place) = Statuses.TableForm (Forms.Fault place TableCauses.Index)
table_status (TableFaults.Count place) = Statuses.TableForm (Forms.Fault place TableCauses.Count)
table_status TableFaults.Memory = Statuses.Memory

-- the status of a fault of a grid file
abbrev pub grid_status : GridFault → Status
grid_status GridFaults.Magic = Statuses.GridForm GridCauses.Magic
grid_status GridFaults.HeaderLong = Statuses.GridForm GridCauses.HeaderLong
grid_status GridFaults.HeaderEnd = Statuses.GridForm GridCauses.HeaderEnd
grid_status (GridFaults.Line line) = Statuses.GridForm (GridCauses.Line line)
grid_status (GridFaults.Repeated line) = Statuses.GridForm (GridCauses.Repeated line)
grid_status (GridFaults.SampleType line) = Statuses.GridForm (GridCauses.SampleType line)
grid_status (GridFaults.Dimension line) = Statuses.GridForm (GridCauses.Dimension line)
grid_status (GridFaults.Sizes line) = Statuses.GridForm (GridCauses.Sizes line)
grid_status (GridFaults.Encoding line) = Statuses.GridForm (GridCauses.Encoding line)
grid_status (GridFaults.Endian line) = Statuses.GridForm (GridCauses.Endian line)
grid_status (GridFaults.Skip line) = Statuses.GridForm (GridCauses.Skip line)
grid_status (GridFaults.Detached line) = Statuses.GridForm (GridCauses.Detached line)
grid_status (GridFaults.Missing field) = Statuses.GridForm (GridCauses.Missing field)
grid_status (GridFaults.TooLarge count) = Statuses.GridLarge count
grid_status (GridFaults.DataShort count) = Statuses.GridForm (GridCauses.DataShort count)
grid_status GridFaults.Trailing = Statuses.GridForm GridCauses.Trailing
grid_status (GridFaults.Shelf count) = Statuses.ShelfFault count
grid_status GridFaults.Memory = Statuses.Memory

-- the status of a fault of a mesh file
abbrev pub off_status : OffFault → Status
off_status OffFaults.Long = Statuses.MeshForm OffCauses.Long
off_status (OffFaults.Header line) = Statuses.MeshForm (OffCauses.Header line)
off_status (OffFaults.Count line) = Statuses.MeshForm (OffCauses.Count line)
off_status (OffFaults.Coordinate line) = Statuses.MeshForm (OffCauses.Coordinate line)
off_status (OffFaults.FaceSize line) = Statuses.MeshForm (OffCauses.FaceSize line)
off_status (OffFaults.Index line) = Statuses.MeshForm (OffCauses.Index line)
off_status (OffFaults.Extra line) = Statuses.MeshForm (OffCauses.Extra line)
off_status (OffFaults.Short lines) = Statuses.MeshForm (OffCauses.Short lines)
off_status (OffFaults.Shelf count) = Statuses.ShelfFault count
off_status OffFaults.Memory = Statuses.Memory

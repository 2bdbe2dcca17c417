-- Tables of the seven kinds that the check accepts, and why a table is not among them.
use Rattle.std.specs.Prelude.{⊤}
use Rattle.iso_model.specs.Acceptance.{IsRefusedAt}
use Rattle.iso_model.specs.Tables.{Table}
use Rattle.iso_cli.specs.declared.checked.CheckedTable.{CheckedTable}
use Rattle.iso_cli.specs.declared.checked.CheckedTable.TheVariants.{Squares, Triangles, Cubes, Tetrahedra, Pyramids, Hypercubes, Pentachora}
use Rattle.iso_cli.specs.declared.status.Status.{Status}
use Rattle.iso_cli.specs.declared.status.Status.TheVariants as Statuses

-- the table, of whichever kind
abbrev pub checked_in : CheckedTable → Table
checked_in (Squares t) = t
checked_in (Triangles t) = t
checked_in (Cubes t) = t
checked_in (Tetrahedra t) = t
checked_in (Pyramids t) = t
checked_in (Hypercubes t) = t
checked_in (Pentachora t) = t

-- the table is refused at the label and the rule that the status says, or memory was refused
abbrev pub IsRefusalOf : Table → Status → Type 0
IsRefusalOf t Statuses.Memory = ⊤
IsRefusalOf t (Statuses.TableRefused label r) = IsRefusedAt t label r
IsRefusalOf t status = ⊥

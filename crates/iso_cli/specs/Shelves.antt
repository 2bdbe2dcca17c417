-- When a status may blame the shelf, and what stands at the front of a file.
use Rattle.std.specs.Prelude.{◌≡◌, ◌<◌, ℕ, List, length, take, Option, Some, None, Result, IfErr, IfSome}
use Rattle.iso_base.specs.Shelves.{IsFairBlame}
use Rattle.nrrd_raw.specs.Undecided.{TakesSuch}
use Rattle.iso_cli.specs.declared.status.Status.{Status}
use Rattle.iso_cli.specs.declared.status.Status.TheVariants.{ShelfFault}
use Rattle.iso_cli.specs.Statuses.{IsShelfFault}

-- the count with which a status blames the shelf
abbrev pub blame_of : Status → Option ℕ
blame_of (ShelfFault count) = Some count
blame_of status = None

-- a fault of the shelf is answered only where its count rose, and with the count after it
abbrev pub BlamesShelf : Status → ℕ → ℕ → Type 0
BlamesShelf status before now = IsFairBlame before now (blame_of status)

-- where the shelf was sound, a fault of it is answered only for this
abbrev pub FailsOnlyFor : {T : Type 0} → Type 0 → Type 0 → Result T Status → Type 0
FailsOnlyFor Lacks sound result = sound → IfErr result (λ status. IsShelfFault status → Lacks)

-- a fault of the shelf is answered only where this holds of the bytes that were taken
abbrev pub BlamesWhile : (List ℕ → Type 0) → Option (List ℕ) → Option (List ℕ) → Status → Type 0
BlamesWhile P old new status = IsShelfFault status → TakesSuch P old new

-- a fault of the shelf is answered only where fewer bytes than these were taken
abbrev pub BlamesBefore : ℕ → Option (List ℕ) → Option (List ℕ) → Status → Type 0
BlamesBefore most old new status = BlamesWhile (λ bytes. length bytes < most) old new status

-- these are all known bytes, or the first so many of them
abbrev pub AreFrontOf : ℕ → Option (List ℕ) → List ℕ → Type 0
AreFrontOf most known bytes = IfSome known (λ rest. bytes ≡ take most rest)

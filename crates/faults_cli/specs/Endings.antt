-- How a run ends: with a verdict on a table, or with a status of `iso`.
use Rattle.std.specs.Prelude.{ℕ, ◌+◌, Result, Ok, Err, ⊤}
use Rattle.iso_base.specs.declared.outside.Failed.{Failed}
use Rattle.iso_cli.specs.declared.status.Status.{Status}
use Rattle.iso_cli.specs.declared.status.Status.TheVariants as Statuses
use Rattle.iso_cli.specs.StatusLines.{status_code}
use Rattle.faults_cli.specs.declared.verdict.Verdict.{Verdict}
use Rattle.faults_cli.specs.declared.verdict.Verdict.TheVariants as Verdicts

-- the status of an ending: where the whole output was put it is done, whatever the verdict
abbrev pub status_of : Result Verdict Status → Status
status_of (Ok verdict) = Statuses.Done
status_of (Err status) = status

-- the same status where the words are counted from one in front of them
abbrev pub as_of_convert : Status → Status
as_of_convert (Statuses.Usage place) = Statuses.Usage (place + 1)
as_of_convert status = status

-- the exit code: that of a table that `check` refuses, where a table is faulty
abbrev pub code_of : Result Verdict Status → ℕ
code_of (Ok Verdicts.Accepted) = status_code Statuses.Done
code_of (Ok Verdicts.Faulty) = 6
code_of (Err status) = status_code status

-- why the text of faults is not put whole
abbrev pub IsOfWriting : Status → Type 0
IsOfWriting Statuses.Memory = ⊤
IsOfWriting (Statuses.WriteFault count) = ⊤
IsOfWriting status = ⊥

-- why the faults of a table's file are not listed
abbrev pub IsOfFile : Status → Type 0
IsOfFile Statuses.Memory = ⊤
IsOfFile (Statuses.ShelfFault count) = ⊤
IsOfFile (Statuses.WriteFault count) = ⊤
IsOfFile (Statuses.TableForm form) = ⊤
IsOfFile status = ⊥

-- why a run does not put its whole output
abbrev pub IsOfListing : Status → Type 0
IsOfListing (Statuses.Usage place) = ⊤
IsOfListing status = IsOfFile status

-- the output failed
abbrev pub IsWriteFault : Status → Type 0
IsWriteFault (Statuses.WriteFault count) = ⊤
IsWriteFault status = ⊥

-- the ending with a verdict, where a text was put, and else with the fault of the output
abbrev pub ending : Result (Unit {0}) Failed → Verdict → Result Verdict Status
ending (Ok u) verdict = Ok verdict
ending (Err failed) verdict = Err (Statuses.WriteFault failed.count)

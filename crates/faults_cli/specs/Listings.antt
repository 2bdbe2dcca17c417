-- The text of all faults of a table, and the words that ask for it.
use Rattle.std.specs.Prelude.{◌≡◌, ℕ, List, [], ◌∷◌, Option, Result, IfOk, codes}
use Rattle.iso_base.specs.Files.{Files}
use Rattle.iso_commands.specs.Commands.{Say, convert_command}
use Rattle.iso_model.specs.Acceptance.{IsAccepted}
use Rattle.iso_model.specs.Tables.{Table}
use Rattle.table_faults.specs.declared.faults.Fault.{Fault}
use Rattle.table_faults.specs.Faults.{AreFaults}
use Rattle.table_faults.specs.FaultText.{faults_text}
use Rattle.iso_cli.specs.declared.status.Status.{Status}
use Rattle.iso_cli.specs.Outputs.{accepted_line}
use Rattle.iso_cli.specs.Refusals.{HoldsTable}
use Rattle.faults_cli.specs.declared.verdict.Verdict.{Verdict}
use Rattle.faults_cli.specs.declared.verdict.Verdict.TheVariants.{Accepted, Faulty}

-- ---- the words

-- the words with which `iso` is asked for a table's file and refuses it for the same causes: those of its command `convert`
abbrev pub as_convert : List (List ℕ) → List (List ℕ)
as_convert words = codes "convert" ∷ words

-- the words name this file of a table
abbrev pub NameTable : List (List ℕ) → List ℕ → Type 0
NameTable words name = Say (as_convert words) (convert_command name)

-- ---- the text

-- the verdict on a table: accepted where it is, and else faulty
abbrev pub IsVerdictOn : Table → Verdict → Type 0
IsVerdictOn t Accepted = IsAccepted t
IsVerdictOn t Faulty = ¬ IsAccepted t

-- the text of these faults of a table: where there is none the line for an accepted table, and else their lines and how many there are
abbrev pub listing_text : List Fault → List ℕ
listing_text [] = accepted_line
listing_text (fault ∷ faults) = faults_text (fault ∷ faults)

-- the text is that of all faults of the table, and the verdict, where a run ends with one, is on this table
pub record IsListingOf (t : Table) (ended : Result Verdict Status) (text : List ℕ) : Type 0 where
  pub faults : List Fault
  pub are_faults : AreFaults t faults
  pub spelled : text ≡ listing_text faults
  pub verdict : IfOk ended (IsVerdictOn t)

-- the same of the table that the file of this name holds, whether or not it is accepted
abbrev pub IsListing : Option Files → List ℕ → Result Verdict Status → List ℕ → Type 0
IsListing files name ended text = (t : Table) × HoldsTable files name t × IsListingOf t ended text

-- the same of the file that the words name
abbrev pub IsNamedListing : Option Files → List (List ℕ) → Result Verdict Status → List ℕ → Type 0
IsNamedListing files words ended text = (name : List ℕ) × NameTable words name × IsListing files name ended text

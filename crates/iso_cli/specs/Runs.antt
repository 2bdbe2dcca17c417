-- What a run of the program promises: its answer, what it leaves of the shelf, what it puts to the output, and the line.
use Rattle.std.specs.Prelude.{◌≡◌, ◌≤◌, ◌⊎◌, ℕ, List, [], Option, IsSome, IsTrue}
use Rattle.std.specs.List.{AllByRecursion}
use Rattle.std.specs.Io.KnownBytes.{Appends}
use Rattle.iso_base.specs.Faults.{Rose}
use Rattle.iso_base.specs.Files.{Files, bytes_of}
use Rattle.iso_base.specs.Fronts.{AppendsFront}
use Rattle.iso_commands.specs.Commands.{Command, Say, AreRight, IsWrongWord}
use Rattle.iso_words.specs.Built.{EachSaid, is_built}
use Rattle.iso_cli.specs.declared.status.Status.{Status}
use Rattle.iso_cli.specs.declared.status.Status.TheVariants as Statuses
use Rattle.iso_base.specs.Shelves.{IsSameShelf}
use Rattle.iso_cli.specs.Meanings.{meaning}
use Rattle.iso_cli.specs.Shelves.{BlamesShelf}
use Rattle.iso_cli.specs.Statuses.{IsDecided, IsOfPutting, IsShelfFault, IsUsage}
use Rattle.iso_cli.specs.StatusLines.{status_line}

-- the words say a command that is built, and this holds of it
abbrev pub SayBuilt : List (List ℕ) → (Command → Type 0) → Type 0
SayBuilt words P = (command : Command) × IsTrue (is_built command) × Say words command × P command

-- ---- the answer

-- the files of a command are refused with this status
abbrev pub AreRefused : Option Files → Status → Command → Type 0
AreRefused files status command = (meaning command).refuses files status

-- where the status is a refusal that the files decide, it is the one that they decide for the command
abbrev pub IsTrueOf : Option Files → Status → Command → Type 0
IsTrueOf files status command = IsDecided status → AreRefused files status command

-- the answer is true of the words and of the files: the words are refused at the first wrong one, and else they say a command, and the files are
-- refused as the status says
abbrev pub IsTrueAnswer : Option Files → List (List ℕ) → Status → Type 0
IsTrueAnswer files words (Statuses.Usage place) = IsWrongWord is_built words place
IsTrueAnswer files words status = SayBuilt words (IsTrueOf files status)

-- the words are right, and no refusal holds of them and the files
abbrev pub IsAnswerable : Option Files → List (List ℕ) → Type 0
IsAnswerable files words = AreRight is_built words × ((status : Status) → IsDecided status → ¬ IsTrueAnswer files words status)

-- the files hold what a command needs
abbrev pub HoldNeeded : Option Files → Command → Type 0
HoldNeeded files command = (meaning command).needs files

-- ---- the shelf

-- the names of the files that a command reads
abbrev pub files_named : Command → List (List ℕ)
files_named command = (meaning command).reads

-- each file that the words name is there
abbrev pub HasNamedFiles : Option Files → List (List ℕ) → Type 0
HasNamedFiles files words = (command : Command) → Say words command → AllByRecursion (λ name. IsSome (bytes_of files name)) (files_named command)

-- a file that a command names is not there, and no file that is read before it is refused
abbrev pub LacksFile : Option Files → Command → Type 0
LacksFile files command = (meaning command).lacks files

-- the shelf is as it was but for its count of faults and what was taken of its files; it is blamed only where its count rose, and with the count
-- after the run; where it was sound, only for a file that is lacking; and for wrong words it is not touched at all
pub record LeavesShelf {S : Type 0} (faults : S → ℕ) (files : S → Option Files) (sound : S → Type 0) (Lacks : Type 0) (status : Status) (old new : S)
    : Type 0 where
  pub same : IsSameShelf faults files sound old new
  pub blamed : BlamesShelf status (faults old) (faults new)
  pub missing : sound old → IsShelfFault status → Lacks
  pub untouched : IsUsage status → new ≡ old

-- the shelf did not fail, or was sound and has the files that the words name
abbrev pub ServesWell : {S : Type 0} → (S → ℕ) → (S → Option Files) → (S → Type 0) → List (List ℕ) → S → S → Type 0
ServesWell faults files sound words old new = ¬ Rose (faults old) (faults new) ⊎ (sound old × HasNamedFiles (files old) words)

-- what is left, after a command was refused, of the file that was read last
abbrev pub LeavesRest : Option Files → Status → Option (List ℕ) → Command → Type 0
LeavesRest files status rest command = (meaning command).leaves files status rest

-- ---- the output

-- the whole output of a command
abbrev pub IsOutput : Option Files → List ℕ → Command → Type 0
IsOutput files text command = (meaning command).puts files text

-- ---- commands without files

-- for a command that reads no file, as for a generated table, the shelf is not touched, and the run ends with the whole output, with a fault of it,
-- without memory, or with a refusal that holds of the command
abbrev pub NeedsNoFile : {S : Type 0} → Option Files → List (List ℕ) → Status → S → S → Type 0
NeedsNoFile files words status old new =
    EachSaid words (λ command. files_named command ≡ [] → (IsOfPutting status ⊎ AreRefused files status command) × (new ≡ old))

-- ---- the line

-- the line of the status was put where that did not fail, and else a front of it; after success nothing was
pub record PutsLine {E : Type 0} (faults : E → ℕ) (bytes : E → Option (List ℕ)) (status : Status) (old new : E) : Type 0 where
  pub later : faults old ≤ faults new
  pub whole : ¬ Rose (faults old) (faults new) → Appends (bytes old) (bytes new) (status_line status)
  pub front : AppendsFront (bytes old) (bytes new) (status_line status)
  pub silent : status ≡ Statuses.Done → new ≡ old

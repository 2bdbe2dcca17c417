-- What the work on a mesh answers, as an answer of a run.
use Rattle.std.proofs.Common.{◌≡◌, ◌≤◌, ℕ, length, List, Option, Some, None, IsSome, sym, subst, inl, inr, drop, take-append-drop, arith}
use Rattle.std.specs.Prelude.{IsTrue, Result, Ok, Err, OnOk, OnErr}
use Rattle.std.proofs.lemmas.List.{take_all}
use Rattle.std.specs.List.{AllByRecursion}
use Rattle.std.specs.Io.KnownBytes.{Appends}
use Rattle.iso_base.specs.Faults.{CountsFaults, Rose}
use Rattle.iso_base.specs.declared.outside.Failed.{Failed}
use Rattle.iso_base.specs.Files.{Files, bytes_of}
use Rattle.iso_base.specs.Fronts.{AppendsFront}
use Rattle.iso_commands.specs.Commands.{AreRight, Command, IsWrongWord, Say, generate_command, check_command, extract_command, demo_command}
use Rattle.iso_commands.specs.Commands.{convert_command, audit_command, spectrum_command}
use Rattle.iso_words.specs.Built.{is_built}
use Rattle.iso_words.proofs.WrongLemmas.{Say-one}
use Rattle.iso_cli.specs.declared.status.Status.{Status}
use Rattle.iso_cli.specs.declared.status.Status.TheVariants as Statuses
use Rattle.iso_cli.specs.Refusals.{FileHas}
use Rattle.iso_cli.specs.Runs.{AreRefused, HoldNeeded, IsAnswerable, IsTrueAnswer, IsTrueOf, LacksFile, LeavesShelf, PutsLine, SayBuilt, ServesWell}
use Rattle.iso_cli.specs.Runs.{files_named}
use Rattle.iso_cli.specs.Outputs.{BlamesOutput}
use Rattle.iso_cli.specs.Statuses.{IsDecided, IsDoneOrMemory, IsUsage}
use Rattle.iso_cli.specs.StatusLines.{status_line}
use Rattle.iso_cli.proofs.Auditing.{not_refused_audit}
use Rattle.iso_cli.proofs.Demonstrating.{not_refused_made}
use Rattle.iso_cli.proofs.Excluding.{not_refused_check, not_refused_file, not_refused_mesh}
use Rattle.iso_cli.proofs.Counting.{not_refused_spectrum}

-- ---- the files

-- what the files of a shelf have, they have where they stayed
pub file_stays : (now files : Option Files) (name : List ℕ) (P : List ℕ → Type 0) → now ≡ files → FileHas now name P → FileHas files name P
file_stays now files name P same has = subst (λ (fs : Option Files). FileHas fs name P) same has

-- ---- the words

-- what is true for the command that the words say is true for the words
pub said_answer : (files : Option Files) (words : List (List ℕ)) (status : Status) (command : Command) → (IsUsage status → ⊥)
    → IsTrue (is_built command) → Say words command
    → IsTrueOf files status command → IsTrueAnswer files words status
said_answer files words (Statuses.Usage place) command known built said true_of = absurd (known tt)
said_answer files words _ command known built said true_of = (command, built, said, true_of)

-- what a command leaves of the shelf, the words leave
pub said_shelf :
    {S : Type 0} (faults : S → ℕ) (files : S → Option Files) (sound : S → Type 0) (words : List (List ℕ)) (status : Status) (old new : S)
    (command : Command)
    → IsTrue (is_built command) → Say words command → LeavesShelf faults files sound (LacksFile (files old) command) status old new
    → LeavesShelf faults files sound (SayBuilt words (LacksFile (files old))) status old new
said_shelf faults files sound words status old new command built said leaves = record {
  same = leaves.same;
  blamed = leaves.blamed;
  missing = λ is_sound fault. (command, built, said, leaves.missing is_sound fault);
  untouched = leaves.untouched;
}

-- ---- the line

-- a line that was put
pub puts_line : {E : Type 0} (faults : E → ℕ) (bytes : E → Option (List ℕ)) (status : Status) (old new : E) (text : List ℕ) (result : Result (Unit {0}) Failed)
    → CountsFaults (faults old) (faults new) result → OnOk result (Appends (bytes old) (bytes new) text)
    → OnErr result (AppendsFront (bytes old) (bytes new) text)
    → text ≡ status_line status → (status ≡ Statuses.Done → new ≡ old) → PutsLine faults bytes status old new
puts_line faults bytes status old new text (Ok u) counts all front is silent =
    let put : Appends (bytes old) (bytes new) (status_line status) = subst (λ (xs : List ℕ). Appends (bytes old) (bytes new) xs) is all in
    let most : length (status_line status) ≤ length (status_line status) = omega arith in
    record {
      later = counts.later;
      whole = λ never. put;
      front = (
        length (status_line status),
        most,
        subst (λ (xs : List ℕ). Appends (bytes old) (bytes new) xs) (sym (take_all (length (status_line status)) (status_line status) most)) put,
      );
      silent = silent;
    }
puts_line faults bytes status old new text (Err e) counts all front is silent = record {
  later = counts.later;
  whole = λ never. absurd (never counts.rose);
  front = subst (λ (xs : List ℕ). AppendsFront (bytes old) (bytes new) xs) is front;
  silent = silent;
}

-- ---- completeness

some_none : (files : Option Files) (name : List ℕ) → IsSome (bytes_of files name) → bytes_of files name ≡ None → ⊥
some_none files name some none = let none_some : IsSome {T = List ℕ} None = subst (λ (o : Option (List ℕ)). IsSome o) none some in cc

-- right words have no wrong one
not_wrong : (words : List (List ℕ)) (place : ℕ) → AreRight is_built words → IsWrongWord is_built words place → ⊥
not_wrong words place right wrong =
    elim (wrong.wrong) [
      | inl early ↦ early.1 (drop place words, subst (λ (ws : List (List ℕ)). AreRight is_built ws) (sym (take-append-drop place words)) right)
      | inr late ↦ late.1 right
    ]

all_there : (files : Option Files) (command : Command) → AllByRecursion (λ name. IsSome (bytes_of files name)) (files_named command)
    → LacksFile files command → ⊥
all_there files (generate_command kind d) there lacks = lacks
all_there files (check_command table) there lacks = some_none files table there.0 lacks
all_there files (extract_command table grid iso) there (inl lacks) = some_none files table there.0 lacks
all_there files (extract_command table grid iso) there (inr lacks) = some_none files grid there.1.0 lacks.2
all_there files (demo_command kind d size seed) there lacks = lacks
all_there files (convert_command table) there lacks = some_none files table there.0 lacks
all_there files (audit_command mesh) there lacks = some_none files mesh there.0 lacks
all_there files (spectrum_command kind grid from to) there lacks = some_none files grid there.0 lacks

-- a shelf that serves well is not blamed
not_blamed : {S : Type 0} (faults : S → ℕ) (files : S → Option Files) (sound : S → Type 0) (words : List (List ℕ)) (count : ℕ) (old new : S)
    → LeavesShelf faults files sound (SayBuilt words (LacksFile (files old))) (Statuses.ShelfFault count) old new
    → ServesWell faults files sound words old new → ⊥
not_blamed faults files sound words count old new leaves (inl never) = never leaves.blamed.0
not_blamed faults files sound words count old new leaves (inr serves) =
    let lacks = leaves.missing serves.0 tt in
    all_there (files old) lacks.0 (serves.1 lacks.0 lacks.2) lacks.3

-- where the outside serves well and no refusal holds, the output is whole, or memory was refused
pub complete :
    {S : Type 0} (faults : S → ℕ) (files : S → Option Files) (sound : S → Type 0) (words : List (List ℕ)) (status : Status) (old new : S)
    (before now : ℕ)
    → IsTrueAnswer (files old) words status → LeavesShelf faults files sound (SayBuilt words (LacksFile (files old))) status old new
    → BlamesOutput status before now
    → ¬ Rose before now → ServesWell faults files sound words old new → IsAnswerable (files old) words → IsDoneOrMemory status
complete faults files sound words Statuses.Done old new before now true_of leaves blames never serves may = tt
complete faults files sound words Statuses.Memory old new before now true_of leaves blames never serves may = tt
complete faults files sound words (Statuses.WriteFault count) old new before now true_of leaves blames never serves may = absurd (never blames.0)
complete faults files sound words (Statuses.ShelfFault count) old new before now true_of leaves blames never serves may =
    absurd (not_blamed faults files sound words count old new leaves serves)
complete faults files sound words (Statuses.Usage place) old new before now true_of leaves blames never serves may =
    absurd (not_wrong words place may.0 true_of)
complete faults files sound words (Statuses.TableForm form) old new before now true_of leaves blames never serves may =
    absurd (may.1 (Statuses.TableForm form) tt true_of)
complete faults files sound words (Statuses.TableRefused label r) old new before now true_of leaves blames never serves may =
    absurd (may.1 (Statuses.TableRefused label r) tt true_of)
complete faults files sound words (Statuses.GridForm cause) old new before now true_of leaves blames never serves may =
    absurd (may.1 (Statuses.GridForm cause) tt true_of)
complete faults files sound words (Statuses.GridLarge count) old new before now true_of leaves blames never serves may =
    absurd (may.1 (Statuses.GridLarge count) tt true_of)
complete faults files sound words (Statuses.Unfit table grid) old new before now true_of leaves blames never serves may =
    absurd (may.1 (Statuses.Unfit table grid) tt true_of)
complete faults files sound words (Statuses.MeshForm cause) old new before now true_of leaves blames never serves may =
    absurd (may.1 (Statuses.MeshForm cause) tt true_of)
complete faults files sound words (Statuses.AuditFault finding) old new before now true_of leaves blames never serves may =
    absurd (may.1 (Statuses.AuditFault finding) tt true_of)

-- files that hold what a command needs are not refused
not_refused : (files : Option Files) (command : Command) (status : Status) → IsSome files → HoldNeeded files command
    → AreRefused files status command → ⊥
not_refused None command status told holds refused = let none : IsSome {T = Files} None = told in cc
not_refused (Some files) (generate_command kind d) status told holds refused = refused
not_refused (Some files) (check_command table) status told holds refused = not_refused_check files table holds.0 status holds.1 refused
not_refused (Some files) (extract_command table grid iso) status told holds refused =
    not_refused_mesh files table grid holds.0 holds.1 status holds.2 refused
not_refused (Some files) (demo_command kind d size seed) status told holds refused = not_refused_made kind d holds.0 status holds.1 holds.2 refused
not_refused (Some files) (convert_command table) status told holds refused = not_refused_file files table holds.0 status holds.1 refused
not_refused (Some files) (audit_command mesh) status told holds refused = not_refused_audit files mesh holds.0 status holds.1 refused
not_refused (Some files) (spectrum_command kind grid from to) status told holds refused =
    not_refused_spectrum files grid kind holds.0 status holds.1 refused

pub decided_answer : (files : Option Files) (words : List (List ℕ)) (status : Status) → IsDecided status → IsTrueAnswer files words status
    → SayBuilt words (IsTrueOf files status)
decided_answer files words (Statuses.Usage place) decided true_of = absurd decided
decided_answer files words _ decided true_of = true_of

-- where the files hold what the command needs, no refusal holds
pub answerable : (files : Option Files) (words : List (List ℕ)) → IsSome files → SayBuilt words (HoldNeeded files) → IsAnswerable files words
answerable files words told said = (
  (said.0, said.1, said.2),
  λ status decided true_of.
      let other = decided_answer files words status decided true_of in
      not_refused files said.0 status told said.3
      (subst (λ (c : Command). AreRefused files status c) (Say-one words other.0 said.0 other.1 said.1 other.2 said.2) (other.3 decided)),
)

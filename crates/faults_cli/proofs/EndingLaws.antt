-- What holds of an ending, as of a status of `iso`.
use Rattle.std.specs.Prelude.{◌≡◌, ◌↔◌, ℕ, List, [], ◌∷◌, length, ◌<◌, Option, Result, Ok, Err, IfOk, IfErr, OnOk, OnErr, IsTrue}
use Rattle.std.proofs.Common.{refl, subst, arith}
use Rattle.std.specs.Io.KnownBytes.{Appends}
use Rattle.iso_base.specs.declared.outside.Failed.{Failed}
use Rattle.iso_base.specs.Faults.{CountsFaults}
use Rattle.iso_base.specs.Files.{Files}
use Rattle.iso_base.specs.Fronts.{AppendsFront}
use Rattle.iso_base.specs.Shelves.{IsSameShelf}
use Rattle.iso_commands.specs.Commands.{Command, Say}
use Rattle.iso_model.specs.Tables.{Table}
use Rattle.iso_words.specs.Built.{EachSaid, is_built}
use Rattle.iso_words.proofs.WrongLemmas.{Say-one}
use Rattle.table_faults.specs.declared.faults.Fault.{Fault}
use Rattle.table_faults.specs.Faults.{AreFaults}
use Rattle.table_faults.specs.FaultText.{faults_text}
use Rattle.table_faults.proofs.FaultLists.{accepted_none, none_accepted}
use Rattle.iso_cli.specs.declared.status.Status.{Status}
use Rattle.iso_cli.specs.declared.status.Status.TheVariants as Statuses
use Rattle.iso_cli.specs.Outputs.{BlamesOutput, LeavesOutput, accepted_line}
use Rattle.iso_cli.specs.Runs.{IsTrueAnswer, IsTrueOf, LeavesShelf}
use Rattle.iso_cli.specs.Rests.{LeavesTableFile}
use Rattle.iso_cli.specs.Statuses.{IsDecided, IsDoneOrMemory, IsOfForm, IsUsage}
use Rattle.iso_cli.proofs.Answering.{said_answer}
use Rattle.iso_cli.proofs.Putting.{output_map}
use Rattle.faults_cli.specs.declared.verdict.Verdict.{Verdict}
use Rattle.faults_cli.specs.declared.verdict.Verdict.TheVariants.{Accepted, Faulty}
use Rattle.faults_cli.specs.Endings.{IsOfFile, IsOfListing, IsOfWriting, IsWriteFault, as_of_convert, ending, status_of}
use Rattle.faults_cli.specs.Listings.{IsListingOf, IsVerdictOn, listing_text}

-- ---- statuses behind `convert`

pub shelf_as_convert :
    {S : Type 0} (faults : S → ℕ) (files : S → Option Files) (sound : S → Type 0) (Lacks : Type 0) (status : Status) (old new : S)
    → LeavesShelf faults files sound Lacks status old new → LeavesShelf faults files sound Lacks (as_of_convert status) old new
shelf_as_convert faults files sound Lacks (Statuses.Usage place) old new leaves =
    record { same = leaves.same; blamed = tt; missing = λ is_sound fault. absurd fault; untouched = leaves.untouched }
shelf_as_convert faults files sound Lacks _ old new leaves = leaves

pub blames_as_convert : (status : Status) (before now : ℕ) → BlamesOutput status before now → BlamesOutput (as_of_convert status) before now
blames_as_convert (Statuses.Usage place) before now blames = tt
blames_as_convert _ before now blames = blames

pub done_of_convert : (status : Status) → IsDoneOrMemory (as_of_convert status) → IsDoneOrMemory status
done_of_convert (Statuses.Usage place) done = absurd done
done_of_convert _ done = done

-- what is true for the command that the words say is true for the words
pub answer_as_convert : (files : Option Files) (words : List (List ℕ)) (status : Status) (command : Command) → (IsUsage status → ⊥)
    → IsTrue (is_built command) → Say words command → IsTrueOf files status command → IsTrueAnswer files words (as_of_convert status)
answer_as_convert files words (Statuses.Usage place) command known built said true_of = absurd (known tt)
answer_as_convert files words _ command known built said true_of = said_answer files words _ command known built said true_of

-- what holds of the command that the words say holds of each that they say
pub each_said : (words : List (List ℕ)) (command : Command) (P : Command → Type 0) → IsTrue (is_built command) → Say words command → P command
    → EachSaid words P
each_said words command P built said holds = λ other built' said'. subst P (Say-one words command other built built' said said') holds

-- ---- kinds of statuses

pub form_file : (status : Status) → IsOfForm status → IsOfFile status
form_file Statuses.Memory form = tt
form_file (Statuses.ShelfFault count) form = tt
form_file (Statuses.TableForm cause) form = tt
form_file _ form = absurd form

pub file_listing : (ended : Result Verdict Status) → IfErr ended IsOfFile → IfErr ended IsOfListing
file_listing (Ok verdict) file = tt
file_listing (Err (Statuses.Usage place)) file = tt
file_listing (Err _) file = file

pub file_known : (ended : Result Verdict Status) → IfErr ended IsOfFile → IsUsage (status_of ended) → ⊥
file_known (Ok verdict) file usage = usage
file_known (Err (Statuses.Usage place)) file usage = file
file_known (Err _) file usage = usage

pub writing_file : (ended : Result Verdict Status) → IfErr ended IsOfWriting → IfErr ended IsOfFile
writing_file (Ok verdict) writing = tt
writing_file (Err Statuses.Memory) writing = tt
writing_file (Err (Statuses.WriteFault count)) writing = tt
writing_file (Err _) writing = absurd writing

pub fault_writing : (ended : Result Verdict Status) → IfErr ended IsWriteFault → IfErr ended IsOfWriting
fault_writing (Ok verdict) fault = tt
fault_writing (Err (Statuses.WriteFault count)) fault = tt
fault_writing (Err _) fault = absurd fault

pub ending_fault : (put : Result (Unit {0}) Failed) (verdict : Verdict) → IfErr (ending put verdict) IsWriteFault
ending_fault (Ok u) verdict = tt
ending_fault (Err e) verdict = tt

-- once the text is begun, the shelf is past
pub writing_shelf :
    {S : Type 0} (faults : S → ℕ) (files : S → Option Files) (sound : S → Type 0) (Lacks : Type 0) (ended : Result Verdict Status) (old new : S)
    → IfErr ended IsOfWriting → IsSameShelf faults files sound old new → LeavesShelf faults files sound Lacks (status_of ended) old new
writing_shelf faults files sound Lacks (Ok verdict) old new writing same =
    record { same = same; blamed = tt; missing = λ is_sound fault. absurd fault; untouched = λ usage. absurd usage }
writing_shelf faults files sound Lacks (Err Statuses.Memory) old new writing same =
    record { same = same; blamed = tt; missing = λ is_sound fault. absurd fault; untouched = λ usage. absurd usage }
writing_shelf faults files sound Lacks (Err (Statuses.WriteFault count)) old new writing same =
    record { same = same; blamed = tt; missing = λ is_sound fault. absurd fault; untouched = λ usage. absurd usage }
writing_shelf faults files sound Lacks (Err _) old new writing same = absurd writing

-- and no refusal of the file's bytes comes
pub writing_undecided : (ended : Result Verdict Status) → IfErr ended IsOfWriting → IsDecided (status_of ended) → ⊥
writing_undecided (Ok verdict) writing decided = decided
writing_undecided (Err Statuses.Memory) writing decided = decided
writing_undecided (Err (Statuses.WriteFault count)) writing decided = decided
writing_undecided (Err _) writing decided = writing

pub writing_leaves : (files : Option Files) (name : List ℕ) (rest : Option (List ℕ)) (ended : Result Verdict Status) → IfErr ended IsOfWriting
    → LeavesTableFile files name rest (status_of ended)
writing_leaves files name rest (Ok verdict) writing = record { long = tt; undecided = λ fault. absurd fault }
writing_leaves files name rest (Err Statuses.Memory) writing = record { long = tt; undecided = λ fault. absurd fault }
writing_leaves files name rest (Err (Statuses.WriteFault count)) writing = record { long = tt; undecided = λ fault. absurd fault }
writing_leaves files name rest (Err _) writing = absurd writing

-- where the file was not read, nothing was put
pub form_output : {O : Type 0} (faults : O → ℕ) (bytes : O → Option (List ℕ)) (IsText : List ℕ → Type 0) (status : Status) (out : O) → IsOfForm status
    → LeavesOutput faults bytes IsText status out out
form_output faults bytes IsText Statuses.Memory out form = record { later = omega arith; blamed = tt; refused = λ refusal. refl; put = tt }
form_output faults bytes IsText (Statuses.ShelfFault count) out form = record { later = omega arith; blamed = tt; refused = λ refusal. refl; put = tt }
form_output faults bytes IsText (Statuses.TableForm cause) out form = record { later = omega arith; blamed = tt; refused = λ refusal. refl; put = tt }
form_output faults bytes IsText _ out form = absurd form

pub form_known : (status : Status) → IsOfForm status → IsUsage status → ⊥
form_known (Statuses.Usage place) form usage = form
form_known _ form usage = usage

-- ---- what was put

pub put_leaves :
    {O : Type 0} (faults : O → ℕ) (bytes : O → Option (List ℕ)) (old new : O) (put : Result (Unit {0}) Failed) (verdict : Verdict) (text : List ℕ)
    → CountsFaults (faults old) (faults new) put → OnOk put (Appends (bytes old) (bytes new) text) → OnErr put (AppendsFront (bytes old) (bytes new) text)
    → LeavesOutput faults bytes (λ other. other ≡ text) (status_of (ending put verdict)) old new
put_leaves faults bytes old new (Ok u) verdict text counts all front =
    record { later = counts.later; blamed = tt; refused = λ refusal. absurd refusal; put = (text, refl, all) }
put_leaves faults bytes old new (Err e) verdict text counts all front =
    record { later = counts.later; blamed = (counts.rose, counts.counted); refused = λ refusal. absurd refusal; put = (text, refl, front) }

pub none_listed : (faults : List Fault) → length faults ≡ 0 → listing_text faults ≡ accepted_line
none_listed [] none = refl
none_listed (fault ∷ faults) none = absurd (omega (arith, none))

pub some_listed : (faults : List Fault) → 0 < length faults → listing_text faults ≡ faults_text faults
some_listed [] some = absurd (omega (arith, some))
some_listed (fault ∷ faults) some = refl

-- ---- the verdict

-- a table without a fault is accepted, and one with a fault is not
pub verdict_on : (t : Table) (faults : List Fault) (ended : Result Verdict Status) → AreFaults t faults
    → IfOk ended (λ verdict. (verdict ≡ Accepted) ↔ (faults ≡ [])) → IfOk ended (IsVerdictOn t)
verdict_on t faults (Ok Accepted) are says = none_accepted t faults are (says.0 refl)
verdict_on t faults (Ok Faulty) are says = λ accepted. let e : Faulty ≡ Accepted = says.1 (accepted_none t faults are accepted) in cc
verdict_on t faults (Err status) are says = tt

-- the text of all faults of a table, with the verdict on it
pub listed : {O : Type 0} (faults : O → ℕ) (bytes : O → Option (List ℕ)) (t : Table) (fs : List Fault) (ended : Result Verdict Status) (old new : O)
    → AreFaults t fs → IfOk ended (λ verdict. (verdict ≡ Accepted) ↔ (fs ≡ []))
    → LeavesOutput faults bytes (λ text. text ≡ listing_text fs) (status_of ended) old new
    → LeavesOutput faults bytes (IsListingOf t ended) (status_of ended) old new
listed faults bytes t fs ended old new are says leaves =
    output_map faults bytes (λ text. text ≡ listing_text fs) (IsListingOf t ended)
    (λ text spelled. record { faults = fs; are_faults = are; spelled = spelled; verdict = verdict_on t fs ended are says })
    (status_of ended) old new leaves

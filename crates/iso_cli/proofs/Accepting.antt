-- Tables that the check accepts or refuses.
use Rattle.std.proofs.Common.{◌≡◌, ℕ, List, Option, sym, subst}
use Rattle.std.specs.Prelude.{Result, Ok, Err, IfOk, IfErr}
use Rattle.iso_base.specs.Files.{Files}
use Rattle.iso_model.specs.Acceptance.{IsAccepted, IsRefusedAt}
use Rattle.iso_model.specs.Tables.{Table}
use Rattle.iso_cli.specs.declared.checked.CheckedTable.{CheckedTable}
use Rattle.iso_cli.specs.declared.status.Status.{Status}
use Rattle.iso_cli.specs.declared.status.Status.TheVariants as Statuses
use Rattle.iso_cli.specs.Checked.{IsRefusalOf, checked_in}
use Rattle.iso_cli.specs.Refusals.{FileHas, HoldsAccepted, HoldsTable, IsFileOf, IsRefusedTable, by_rule, not_accepted}
use Rattle.iso_cli.specs.Shelves.{BlamesShelf}
use Rattle.iso_cli.specs.Statuses.{IsDecided, IsOfTable, IsShelfFault}
use Rattle.iso_cli.proofs.Refusing.{file_map}

-- what holds where memory was refused and where the table was, holds of the error
pub of_refusal : {T : Type 0} (P : Status → Type 0) (t : Table) (result : Result T Status) → P Statuses.Memory
    → ((label r : ℕ) → IsRefusedAt t label r → P (Statuses.TableRefused label r)) → IfErr result (IsRefusalOf t) → IfErr result P
of_refusal P t (Ok x) memory refused is = tt
of_refusal P t (Err Statuses.Memory) memory refused is = memory
of_refusal P t (Err (Statuses.TableRefused label r)) memory refused is = refused label r is
of_refusal P t (Err _) memory refused is = absurd is

-- a table that is not accepted is refused where the file holds it
pub table_refused : {T : Type 0} (files : Option Files) (name : List ℕ) (t : Table) (result : Result T Status)
    → FileHas files name (λ bytes. IsFileOf bytes t) → IfErr result (IsRefusalOf t)
    → IfErr result (λ status. IsDecided status → FileHas files name (λ bytes. IsRefusedTable bytes status))
table_refused files name t result held is =
    of_refusal (λ status. IsDecided status → FileHas files name (λ bytes. IsRefusedTable bytes status)) t result (λ decided. absurd decided)
    (λ label r refused decided.
    file_map files name (λ bytes. IsFileOf bytes t) (λ bytes. IsRefusedTable bytes (Statuses.TableRefused label r))
    (λ bytes hold. by_rule (not_accepted t label r hold refused)) held)
    is

pub table_kinds : {T : Type 0} (t : Table) (result : Result T Status) → IfErr result (IsRefusalOf t) → IfErr result IsOfTable
table_kinds t result is = of_refusal IsOfTable t result tt (λ label r refused. tt) is

pub table_blames : {T : Type 0} (t : Table) (result : Result T Status) (before now : ℕ) → IfErr result (IsRefusalOf t)
    → IfErr result (λ status. BlamesShelf status before now)
table_blames t result before now is = of_refusal (λ status. BlamesShelf status before now) t result tt (λ label r refused. tt) is

pub table_missing : {T : Type 0} (t : Table) (result : Result T Status) (P : Type 0) → IfErr result (IsRefusalOf t)
    → IfErr result (λ status. IsShelfFault status → P)
table_missing t result P is = of_refusal (λ status. IsShelfFault status → P) t result (λ fault. absurd fault) (λ label r refused fault. absurd fault) is

-- a table that is accepted, where the file holds it
pub table_held : (files : Option Files) (name : List ℕ) (t : Table) (result : Result CheckedTable Status) → HoldsTable files name t
    → IfOk result (λ checked. checked_in checked ≡ t) → IfOk result (λ checked. IsAccepted (checked_in checked))
    → IfOk result (λ checked. HoldsAccepted files name (checked_in checked))
table_held files name t (Err e) held same accepted = tt
table_held files name t (Ok checked) held same accepted = record {
  table = subst (λ (u : Table). HoldsTable files name u) (sym same) held;
  accepted = accepted;
}

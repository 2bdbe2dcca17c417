use Rattle.std.proofs.Common.{◌≡◌, List, ℕ, Option, subst, sym}
use Rattle.off_read.specs.AnyOffs.{IsRefusal}
use Rattle.iso_cli.specs.declared.status.Status.{Status}
use Rattle.iso_cli.specs.StatusCauses.{off_status}
use Rattle.iso_cli.specs.Audits.{IsRefusedOff, LeavesOff}
use Rattle.iso_cli.specs.Refusals.{IsRefusedFile}
use Rattle.iso_cli.specs.Statuses.{IsDecided}
use Rattle.iso_cli.proofs.Auditing.{off_leaves, off_refused}
use Rattle.iso_cli.proofs.Refusing.{IfErr-more, file_has}
use Rattle.iso_cli.proofs.audits.read_mesh.Goals as goal

pub returns-in_err-read_off-clause-refused : goal.returns-in_err-read_off-clause-refused
returns-in_err-read_off-clause-refused g c =
    let files = g.S.Shelf.files c.args.shelf.now in
    let fault = c.in_err-read_off.field-0.0 in
    let new = g.S.Shelf.rest c.read_off.new.shelf in
    let refused : IsDecided (off_status fault) → IsRefusedFile files c.args.name.now IsRefusedOff (off_status fault) =
    λ decided.
    file_has files c.args.name.now (g.S.Shelf.rest c.begin.new.self) (λ bytes. IsRefusedOff bytes (off_status fault)) c.in_ok-begin.ensures.begun
    (λ bytes there rest.
    off_refused fault bytes new (subst (λ (o : Option (List ℕ)). IsRefusal o new fault) rest c.in_err-read_off.ensures.refused) decided) in
    IfErr-more c.from_residual-in_err-read_off.result (λ status. status ≡ off_status fault)
    (λ status. IsDecided status → IsRefusedFile files c.args.name.now IsRefusedOff status) c.from_residual-in_err-read_off.ensures.1
    (λ status is. subst (λ (s : Status). IsDecided s → IsRefusedFile files c.args.name.now IsRefusedOff s) (sym is) refused)

pub returns-in_err-read_off-clause-left : goal.returns-in_err-read_off-clause-left
returns-in_err-read_off-clause-left g c =
    let fault = c.in_err-read_off.field-0.0 in
    let left = LeavesOff (g.S.Shelf.files c.args.shelf.now) c.args.name.now (g.S.Shelf.rest c.read_off.new.shelf) in
    IfErr-more c.from_residual-in_err-read_off.result (λ status. status ≡ off_status fault) left c.from_residual-in_err-read_off.ensures.1
    (λ status is.
    subst (λ (s : Status). left s) (sym is)
    (off_leaves (g.S.Shelf.files c.args.shelf.now) c.args.name.now (g.S.Shelf.rest c.begin.new.self) (g.S.Shelf.rest c.read_off.new.shelf) fault
    c.in_ok-begin.ensures.begun c.in_err-read_off.ensures.refused))

use Rattle.std.proofs.Common.{◌≡◌, ℕ, Option, None, subst, sym, inr, ◌∙◌}
use Rattle.iso_base.specs.Files.{Files, bytes_of}
use Rattle.iso_formats.specs.GridFile.{SpellsGrid}
use Rattle.iso_cli.specs.declared.status.Status.{Status}
use Rattle.iso_cli.specs.Checked.{checked_in}
use Rattle.iso_cli.specs.Refusals.{FileHas, IsRefusedGrid, IsRefusedMesh, LacksMeshFile, by_grid}
use Rattle.iso_cli.specs.Statuses.{IsDecided, IsShelfFault}
use Rattle.iso_cli.specs.Rests.{LeavesGridFile, LeavesMeshFile}
use Rattle.iso_cli.proofs.Answering.{file_stays}
use Rattle.iso_cli.proofs.Interrupting.{grid_leaves, table_leaves}
use Rattle.iso_cli.proofs.Refusing.{IfErr-more}
use Rattle.iso_cli.proofs.files.read_both.Goals as goal

pub returns-in_err-grid-clause-refused : goal.returns-in_err-grid-clause-refused
returns-in_err-grid-clause-refused g c =
    let refused : IsDecided c.in_err-grid.field-0.0
    → IsRefusedMesh (g.S.Shelf.files c.args.shelf.now) c.args.table.now c.args.grid.now c.in_err-grid.field-0.0 =
    λ decided. by_grid (checked_in c.in_ok-table.table) c.in_ok-table.ensures.held
    (file_stays (g.S.Shelf.files c.read_checked.new.shelf) (g.S.Shelf.files c.args.shelf.now) c.args.grid.now
    (λ bytes. IsRefusedGrid (λ n. (checked_in c.in_ok-table.table).dimension) bytes c.in_err-grid.field-0.0) c.in_ok-table.ensures.shelf.stay
    (subst (λ (d : ℕ). FileHas (g.S.Shelf.files c.read_checked.new.shelf) c.args.grid.now (λ bytes. IsRefusedGrid (λ n. d) bytes c.in_err-grid.field-0.0))
    c.dimension.ensures (c.in_err-grid.ensures.refused decided))) in
    IfErr-more c.from_residual-in_err-grid.result (λ status. status ≡ c.in_err-grid.field-0.0) _ c.from_residual-in_err-grid.ensures.1
    (λ status is. subst (λ (s : Status). IsDecided s → IsRefusedMesh (g.S.Shelf.files c.args.shelf.now) c.args.table.now c.args.grid.now s) (sym is) refused)

pub returns-in_err-grid-clause-missing : goal.returns-in_err-grid-clause-missing
returns-in_err-grid-clause-missing g c = λ sound.
    let lacks : IsShelfFault c.in_err-grid.field-0.0 → LacksMeshFile (g.S.Shelf.files c.args.shelf.now) c.args.table.now c.args.grid.now =
    λ fault. inr (
      checked_in c.in_ok-table.table,
      c.in_ok-table.ensures.held,
      subst (λ (fs : Option Files). bytes_of fs c.args.grid.now ≡ None) c.in_ok-table.ensures.shelf.stay
          (c.in_err-grid.ensures.missing (c.in_ok-table.ensures.shelf.sound_stays sound) fault),
    ) in
    IfErr-more c.from_residual-in_err-grid.result (λ status. status ≡ c.in_err-grid.field-0.0) _ c.from_residual-in_err-grid.ensures.1
    (λ status is. subst (λ (s : Status). IsShelfFault s → LacksMeshFile (g.S.Shelf.files c.args.shelf.now) c.args.table.now c.args.grid.now) (sym is) lacks)

pub returns-clause-held : goal.returns-clause-held
returns-clause-held g c = record {
  table = c.in_ok-table.ensures.held;
  grid =
      file_stays (g.S.Shelf.files c.read_checked.new.shelf) (g.S.Shelf.files c.args.shelf.now) c.args.grid.now
      (λ bytes. SpellsGrid bytes c.in_ok-grid.grid) c.in_ok-table.ensures.shelf.stay c.in_ok-grid.ensures.held;
  fits = sym c.dimension.ensures ∙ c.in_ok-grid.ensures.fits;
}

pub returns-in_err-table-clause-left : goal.returns-in_err-table-clause-left
returns-in_err-table-clause-left g c =
    IfErr-more c.from_residual.result (λ status. status ≡ c.in_err-table.field-0.0) _ c.from_residual.ensures.1
    (λ status is.
    subst
    (λ (s : Status).
    LeavesMeshFile (g.S.Shelf.files c.args.shelf.now) c.args.table.now c.args.grid.now (g.S.Shelf.rest c.read_checked.new.shelf) s)
    (sym is)
    (table_leaves (g.S.Shelf.files c.args.shelf.now) c.args.table.now c.args.grid.now (g.S.Shelf.rest c.read_checked.new.shelf)
    c.in_err-table.field-0.0 c.in_err-table.ensures.kinds c.in_err-table.ensures.left))

pub returns-in_err-grid-clause-left : goal.returns-in_err-grid-clause-left
returns-in_err-grid-clause-left g c =
    let leaves : LeavesGridFile (g.S.Shelf.files c.read_checked.new.shelf) c.args.grid.now (λ n. (checked_in c.in_ok-table.table).dimension)
    (g.S.Shelf.rest c.read_grid.new.shelf) c.in_err-grid.field-0.0 =
    subst
    (λ (d : ℕ).
    LeavesGridFile (g.S.Shelf.files c.read_checked.new.shelf) c.args.grid.now (λ n. d) (g.S.Shelf.rest c.read_grid.new.shelf) c.in_err-grid.field-0.0)
    c.dimension.ensures c.in_err-grid.ensures.left in
    IfErr-more c.from_residual-in_err-grid.result (λ status. status ≡ c.in_err-grid.field-0.0) _ c.from_residual-in_err-grid.ensures.1
    (λ status is.
    subst
    (λ (s : Status).
    LeavesMeshFile (g.S.Shelf.files c.args.shelf.now) c.args.table.now c.args.grid.now (g.S.Shelf.rest c.read_grid.new.shelf) s)
    (sym is)
    (grid_leaves (g.S.Shelf.files c.read_checked.new.shelf) (g.S.Shelf.files c.args.shelf.now) c.args.table.now c.args.grid.now
    (checked_in c.in_ok-table.table) (g.S.Shelf.rest c.read_grid.new.shelf) c.in_err-grid.field-0.0 c.in_err-grid.ensures.kinds
    c.in_ok-table.ensures.shelf.stay c.in_ok-table.ensures.held leaves))

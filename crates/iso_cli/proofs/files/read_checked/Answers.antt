use Rattle.std.proofs.Common.{◌≡◌, None}
use Rattle.iso_base.specs.Files.{bytes_of}
use Rattle.table_file.specs.Reading.{table_in}
use Rattle.iso_cli.proofs.Accepting.{table_blames, table_held, table_kinds, table_missing, table_refused}
use Rattle.iso_cli.proofs.files.read_checked.Goals as goal

pub returns-clause-held : goal.returns-clause-held
returns-clause-held g c =
    table_held (g.S.Shelf.files c.args.shelf.now) c.args.name.now (table_in c.in_ok-table.table) c.certify_any.result c.in_ok-table.ensures.held
    c.certify_any.ensures.same c.certify_any.ensures.accepted

pub returns-clause-refused : goal.returns-clause-refused
returns-clause-refused g c =
    table_refused (g.S.Shelf.files c.args.shelf.now) c.args.name.now (table_in c.in_ok-table.table) c.certify_any.result c.in_ok-table.ensures.held.held
    c.certify_any.ensures.refused

pub returns-clause-kinds : goal.returns-clause-kinds
returns-clause-kinds g c = table_kinds (table_in c.in_ok-table.table) c.certify_any.result c.certify_any.ensures.refused

pub returns-clause-blamed : goal.returns-clause-blamed
returns-clause-blamed g c = table_blames (table_in c.in_ok-table.table) c.certify_any.result _ _ c.certify_any.ensures.refused

pub returns-clause-missing : goal.returns-clause-missing
returns-clause-missing g c = λ sound.
    table_missing (table_in c.in_ok-table.table) c.certify_any.result (bytes_of (g.S.Shelf.files c.args.shelf.now) c.args.name.now ≡ None)
    c.certify_any.ensures.refused

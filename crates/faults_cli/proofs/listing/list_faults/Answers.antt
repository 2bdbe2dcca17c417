use Rattle.std.proofs.Common.{List, ℕ}
use Rattle.table_file.specs.Reading.{table_in}
use Rattle.iso_cli.proofs.Putting.{output_map}
use Rattle.faults_cli.specs.Endings.{status_of}
use Rattle.faults_cli.specs.Listings.{IsListing, IsListingOf}
use Rattle.faults_cli.proofs.EndingLaws.{form_file, form_known, form_output, writing_file, writing_leaves, writing_shelf, writing_undecided}
use Rattle.faults_cli.proofs.listing.list_faults.Goals as goal

pub returns-in-Ok-clause-kinds : goal.returns-in-Ok-clause-kinds
returns-in-Ok-clause-kinds g c = writing_file c.put_faults_of.result c.put_faults_of.ensures.kinds

pub returns-in-Ok-clause-answer : goal.returns-in-Ok-clause-answer
returns-in-Ok-clause-answer g c = λ decided. absurd (writing_undecided c.put_faults_of.result c.put_faults_of.ensures.kinds decided)

pub returns-in-Ok-clause-shelf : goal.returns-in-Ok-clause-shelf
returns-in-Ok-clause-shelf g c =
    writing_shelf g.S.Shelf.faults g.S.Shelf.files g.S.Shelf.sound _ c.put_faults_of.result c.args.shelf.now c.read_table.new.shelf
    c.put_faults_of.ensures.kinds c.in-Ok.ensures.shelf

pub returns-in-Ok-clause-output : goal.returns-in-Ok-clause-output
returns-in-Ok-clause-output g c =
    output_map g.O.Sink.faults g.O.Sink.bytes (IsListingOf (table_in c.in-Ok.table) c.put_faults_of.result)
    (IsListing (g.S.Shelf.files c.args.shelf.now) c.args.name.now c.put_faults_of.result)
    (λ text is. (table_in c.in-Ok.table, c.in-Ok.ensures.held, is)) (status_of c.put_faults_of.result) c.args.out.now c.put_faults_of.new.out
    c.put_faults_of.ensures.output

pub returns-in-Ok-clause-left : goal.returns-in-Ok-clause-left
returns-in-Ok-clause-left g c =
    writing_leaves (g.S.Shelf.files c.args.shelf.now) c.args.name.now (g.S.Shelf.rest c.read_table.new.shelf) c.put_faults_of.result
    c.put_faults_of.ensures.kinds

pub returns-in-Err-clause-kinds : goal.returns-in-Err-clause-kinds
returns-in-Err-clause-kinds g c = form_file c.in-Err.status c.in-Err.ensures.kinds

pub returns-in-Err-clause-shelf : goal.returns-in-Err-clause-shelf
returns-in-Err-clause-shelf g c = record {
  same = c.in-Err.ensures.shelf;
  blamed = c.in-Err.ensures.blamed;
  missing = c.in-Err.ensures.missing;
  untouched = λ usage. absurd (form_known c.in-Err.status c.in-Err.ensures.kinds usage);
}

pub returns-in-Err-clause-output : goal.returns-in-Err-clause-output
returns-in-Err-clause-output g c = form_output g.O.Sink.faults g.O.Sink.bytes _ c.in-Err.status c.args.out.now c.in-Err.ensures.kinds

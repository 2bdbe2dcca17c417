use Rattle.iso_words.specs.Built.{texts}
use Rattle.iso_cli.proofs.Answering.{answerable, complete}
use Rattle.faults_cli.specs.Endings.{as_of_convert, status_of}
use Rattle.faults_cli.specs.Listings.{as_convert}
use Rattle.faults_cli.proofs.EndingLaws.{blames_as_convert, done_of_convert, shelf_as_convert}
use Rattle.faults_cli.proofs.program.run.Goals as goal

pub returns-in-Err-clause-complete : goal.returns-in-Err-clause-complete
returns-in-Err-clause-complete g c = λ never serves may.
    let words = as_convert (texts c.args.words.now) in
    let ended = c.perform-ended.result in
    done_of_convert (status_of ended)
    (complete g.S.Shelf.faults g.S.Shelf.files g.S.Shelf.sound words (as_of_convert (status_of ended)) c.args.shelf.now
    c.perform-ended.new.shelf (g.O.Sink.faults c.args.out.now) (g.O.Sink.faults c.perform-ended.new.out) c.perform-ended.ensures.answer
    (shelf_as_convert g.S.Shelf.faults g.S.Shelf.files g.S.Shelf.sound _ (status_of ended) c.args.shelf.now c.perform-ended.new.shelf
    c.perform-ended.ensures.shelf)
    (blames_as_convert (status_of ended) (g.O.Sink.faults c.args.out.now) (g.O.Sink.faults c.perform-ended.new.out)
    c.perform-ended.ensures.output.blamed)
    never serves may)

pub returns-in-Err-clause-served : goal.returns-in-Err-clause-served
returns-in-Err-clause-served g c = λ never serves told holds.
    returns-in-Err-clause-complete g c never serves
    (answerable (g.S.Shelf.files c.args.shelf.now) (as_convert (texts c.args.words.now)) told holds)

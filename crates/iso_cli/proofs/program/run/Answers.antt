use Rattle.std.proofs.Common.{rules, ◌≡◌}
use Rattle.iso_words.specs.Built.{texts}
use Rattle.iso_cli.specs.StatusLines.{status_line}
use Rattle.iso_cli.proofs.Answering.{answerable, complete, puts_line}
use Rattle.iso_cli.proofs.program.run.Goals as goal

pub returns-then-ne-clause-complete : goal.returns-then-ne-clause-complete
returns-then-ne-clause-complete g c = λ never serves may.
    complete g.S.Shelf.faults g.S.Shelf.files g.S.Shelf.sound (texts c.args.words.now) c.perform-status.result c.args.shelf.now
    c.perform-status.new.shelf (g.O.Sink.faults c.args.out.now) (g.O.Sink.faults c.perform-status.new.out)
    c.perform-status.ensures.answer c.perform-status.ensures.shelf c.perform-status.ensures.output.blamed never serves may

pub returns-then-ne-clause-served : goal.returns-then-ne-clause-served
returns-then-ne-clause-served g c = λ never serves told holds.
    complete g.S.Shelf.faults g.S.Shelf.files g.S.Shelf.sound (texts c.args.words.now) c.perform-status.result c.args.shelf.now
    c.perform-status.new.shelf (g.O.Sink.faults c.args.out.now) (g.O.Sink.faults c.perform-status.new.out)
    c.perform-status.ensures.answer c.perform-status.ensures.shelf c.perform-status.ensures.output.blamed never serves
    (answerable (g.S.Shelf.files c.args.shelf.now) (texts c.args.words.now) told holds)

pub returns-then-ne-clause-line : goal.returns-then-ne-clause-line
returns-then-ne-clause-line g c =
    let is : c.as_bytes.result.now ≡ status_line c.perform-status.result = cc in
    puts_line g.E.Sink.faults g.E.Sink.bytes c.perform-status.result c.args.err.now c.put_all.new.out c.as_bytes.result.now c.put_all.result
    c.put_all.ensures.faults c.put_all.ensures.all c.put_all.ensures.front is (search rules)

use Rattle.std.proofs.Common.{refl, List, ℕ, ◌+◌}
use Rattle.iso_commands.specs.Commands.{Command, convert_command}
use Rattle.iso_words.specs.Built.{texts}
use Rattle.iso_words.proofs.WrongLemmas.{never_said}
use Rattle.iso_cli.specs.Runs.{LeavesRest}
use Rattle.iso_cli.proofs.Answering.{said_shelf}
use Rattle.iso_cli.proofs.Putting.{output_map}
use Rattle.faults_cli.specs.Endings.{status_of}
use Rattle.faults_cli.specs.Listings.{IsListing, IsNamedListing, as_convert}
use Rattle.faults_cli.proofs.EndingLaws.{answer_as_convert, each_said, file_known, file_listing}
use Rattle.faults_cli.proofs.program.perform.Goals as goal

pub returns-in-Ok-clause-kinds : goal.returns-in-Ok-clause-kinds
returns-in-Ok-clause-kinds g c = file_listing c.list_faults.result c.list_faults.ensures.kinds

pub returns-in-Ok-clause-answer : goal.returns-in-Ok-clause-answer
returns-in-Ok-clause-answer g c =
    answer_as_convert (g.S.Shelf.files c.args.shelf.now) (as_convert (texts c.args.words.now)) (status_of c.list_faults.result)
    (convert_command c.in-Ok.name.now) (file_known c.list_faults.result c.list_faults.ensures.kinds) refl c.in-Ok.ensures.said
    c.list_faults.ensures.answer

pub returns-in-Ok-clause-shelf : goal.returns-in-Ok-clause-shelf
returns-in-Ok-clause-shelf g c =
    said_shelf g.S.Shelf.faults g.S.Shelf.files g.S.Shelf.sound (as_convert (texts c.args.words.now)) (status_of c.list_faults.result)
    c.args.shelf.now c.list_faults.new.shelf (convert_command c.in-Ok.name.now) refl c.in-Ok.ensures.said c.list_faults.ensures.shelf

pub returns-in-Ok-clause-output : goal.returns-in-Ok-clause-output
returns-in-Ok-clause-output g c =
    output_map g.O.Sink.faults g.O.Sink.bytes (IsListing (g.S.Shelf.files c.args.shelf.now) c.in-Ok.name.now c.list_faults.result)
    (IsNamedListing (g.S.Shelf.files c.args.shelf.now) (texts c.args.words.now) c.list_faults.result)
    (λ text is. (c.in-Ok.name.now, c.in-Ok.ensures.said, is)) (status_of c.list_faults.result) c.args.out.now c.list_faults.new.out
    c.list_faults.ensures.output

pub returns-in-Ok-clause-left : goal.returns-in-Ok-clause-left
returns-in-Ok-clause-left g c =
    each_said (as_convert (texts c.args.words.now)) (convert_command c.in-Ok.name.now)
    (λ (command : Command).
    LeavesRest (g.S.Shelf.files c.args.shelf.now) (status_of c.list_faults.result) (g.S.Shelf.rest c.list_faults.new.shelf) command)
    refl c.in-Ok.ensures.said c.list_faults.ensures.left

-- wrong words say no command
pub returns-in-Err-clause-left : goal.returns-in-Err-clause-left
returns-in-Err-clause-left g c = λ command built said.
    absurd (never_said (as_convert (texts c.args.words.now)) (c.in-Err.wrong.0 + 1) c.in-Err.ensures.place command built said)

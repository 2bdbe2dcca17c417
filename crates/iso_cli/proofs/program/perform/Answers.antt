use Rattle.std.proofs.Common.{rules, FitsSigned, ◌≡◌, ℤ, refl, subst, w64, to_z, of_z}
use Rattle.std.proofs.lemmas.Int.{to_z-of_z}
use Rattle.std.specs.Prelude.{◌⊎◌}
use Rattle.iso_commands.specs.Commands.{Command, demo_command, extract_command, spectrum_command}
use Rattle.iso_words.specs.Built.{texts}
use Rattle.iso_cli.specs.Runs.{AreRefused, IsOutput, SayBuilt}
use Rattle.iso_cli.specs.Statuses.{IsOfPutting}
use Rattle.iso_cli.proofs.Answering.{said_answer}
use Rattle.iso_cli.proofs.Demonstrating.{ends_or_refused, not_usage}
use Rattle.iso_cli.proofs.Putting.{output_map}
use Rattle.iso_cli.proofs.program.perform.Goals as goal

pub returns-in-Ok-Extract-clause-answer : goal.returns-in-Ok-Extract-clause-answer
returns-in-Ok-Extract-clause-answer g c =
    let said = rw c.in-Ok-Extract.field-0-is at c.in-Ok-Extract.ensures.said in
    said_answer (g.S.Shelf.files c.args.shelf.now) (texts c.args.words.now) c.extract.result
    (extract_command c.in-Ok-Extract.table.now c.in-Ok-Extract.grid.now c.in-Ok-Extract.iso)
    c.extract.ensures.known refl said c.extract.ensures.answer

pub returns-in-Ok-Demo-clause-answer : goal.returns-in-Ok-Demo-clause-answer
returns-in-Ok-Demo-clause-answer g c =
    let said = rw c.in-Ok-Demo.field-0-is at c.in-Ok-Demo.ensures.said in
    said_answer (g.S.Shelf.files c.args.shelf.now) (texts c.args.words.now) c.put_demonstration.result
    (demo_command c.in-Ok-Demo.kind c.in-Ok-Demo.dim c.in-Ok-Demo.size c.in-Ok-Demo.seed)
    (not_usage c.put_demonstration.result c.put_demonstration.ensures.kinds) refl said c.put_demonstration.ensures.refused

pub returns-in-Ok-Demo-clause-generated : goal.returns-in-Ok-Demo-clause-generated
returns-in-Ok-Demo-clause-generated g c = λ command built said none.
    let exact = rw c.in-Ok-Demo.field-0-is at c.in-Ok-Demo.ensures.exact in
    let same : demo_command c.in-Ok-Demo.kind c.in-Ok-Demo.dim c.in-Ok-Demo.size c.in-Ok-Demo.seed ≡ command = exact command built said in
    let status = c.put_demonstration.result in
    let ends =
    ends_or_refused c.in-Ok-Demo.kind c.in-Ok-Demo.dim status c.put_demonstration.ensures.kinds c.put_demonstration.ensures.refused in
    (subst (λ (x : Command). IsOfPutting status ⊎ AreRefused (g.S.Shelf.files c.args.shelf.now) status x) same ends, refl)

pub returns-in-Ok-Spectrum-clause-answer : goal.returns-in-Ok-Spectrum-clause-answer
returns-in-Ok-Spectrum-clause-answer g c =
    let said = rw c.in-Ok-Spectrum.field-0-is at c.in-Ok-Spectrum.ensures.said in
    said_answer (g.S.Shelf.files c.args.shelf.now) (texts c.args.words.now) c.count.result
    (spectrum_command c.in-Ok-Spectrum.kind c.in-Ok-Spectrum.grid.now c.in-Ok-Spectrum.from c.in-Ok-Spectrum.to) c.count.ensures.known refl said
    c.count.ensures.answer

pub returns-in-Ok-Spectrum-clause-output : goal.returns-in-Ok-Spectrum-clause-output
returns-in-Ok-Spectrum-clause-output g c =
    let said = rw c.in-Ok-Spectrum.field-0-is at c.in-Ok-Spectrum.ensures.said in
    let files = g.S.Shelf.files c.args.shelf.now in
    let kind = c.in-Ok-Spectrum.kind in
    let grid = c.in-Ok-Spectrum.grid.now in
    let from = to_z w64 (of_z w64 c.in-Ok-Spectrum.from) in
    let to = to_z w64 (of_z w64 c.in-Ok-Spectrum.to) in
    let from_fits : FitsSigned w64 c.in-Ok-Spectrum.from = search rules in
    let to_fits : FitsSigned w64 c.in-Ok-Spectrum.to = search rules in
    let from_is : from ≡ c.in-Ok-Spectrum.from = to_z-of_z w64 c.in-Ok-Spectrum.from from_fits in
    let to_is : to ≡ c.in-Ok-Spectrum.to = to_z-of_z w64 c.in-Ok-Spectrum.to to_fits in
    output_map g.O.Sink.faults g.O.Sink.bytes (λ text. IsOutput files text (spectrum_command kind grid from to))
    (λ text. SayBuilt (texts c.args.words.now) (IsOutput files text)) (λ text is_put. (
      spectrum_command kind grid c.in-Ok-Spectrum.from c.in-Ok-Spectrum.to,
      refl,
      said,
      subst (λ (z : ℤ). IsOutput files text (spectrum_command kind grid c.in-Ok-Spectrum.from z)) to_is
          (subst (λ (z : ℤ). IsOutput files text (spectrum_command kind grid z to)) from_is is_put),
    )) c.count.result c.args.out.now c.count.new.out
    c.count.ensures.output

-- wrong words say no command
pub returns-in-Err-clause-generated : goal.returns-in-Err-clause-generated
returns-in-Err-clause-generated g c = λ command built said none. absurd (c.in-Err.ensures.exact command built said)

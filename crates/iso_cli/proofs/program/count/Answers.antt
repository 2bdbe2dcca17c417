use Rattle.std.proofs.Common.{◌≡◌, ℤ, sym, subst, w64, to_z, of_z}
use Rattle.iso_commands.specs.Commands.{IsRange, spectrum_command}
use Rattle.iso_cli.specs.Runs.{IsOutput}
use Rattle.iso_cli.specs.Spectra.{spectrum_text}
use Rattle.iso_cli.proofs.Counting.{isovalue_is, spectrum_text_at}
use Rattle.iso_cli.proofs.Putting.{output_map}
use Rattle.iso_cli.proofs.program.count.Goals as goal

pub returns-in-Ok-clause-output : goal.returns-in-Ok-clause-output
returns-in-Ok-clause-output g c =
    let files = g.S.Shelf.files c.args.shelf.now in
    let from = to_z w64 (of_z w64 c.args.from) in
    let to = to_z w64 (of_z w64 c.args.to) in
    output_map g.O.Sink.faults g.O.Sink.bytes (λ text. text ≡ spectrum_text c.args.kind c.in-Ok.grid from to)
    (λ text. IsOutput files text (spectrum_command c.args.kind c.args.grid.now c.args.from c.args.to))
    (spectrum_text_at files c.args.grid.now c.args.kind c.args.from c.args.to from to c.in-Ok.grid c.in-Ok.ensures.held c.in-Ok.ensures.regular
    (isovalue_is c.args.from c.requires.from) (isovalue_is c.args.to c.requires.to)) c.put_spectrum.result c.args.out.now c.put_spectrum.new.out
    c.put_spectrum.ensures.output

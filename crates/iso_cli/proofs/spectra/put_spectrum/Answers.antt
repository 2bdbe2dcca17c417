use Rattle.std.proofs.Common.{◌≡◌, ◌∙◌, ℤ, w64, to_z, of_z}
use Rattle.iso_cli.specs.Spectra.{spectrum_text}
use Rattle.iso_cli.proofs.Counting.{isovalue_is}
use Rattle.iso_cli.proofs.Putting.{output_map}
use Rattle.iso_cli.proofs.spectra.put_spectrum.Goals as goal

pub returns-in-Ok-clause-output : goal.returns-in-Ok-clause-output
returns-in-Ok-clause-output g c =
    let from = isovalue_is c.args.from c.requires.from in
    let to = isovalue_is c.args.to c.requires.to in
    let same : c.as_slice.result.now ≡ spectrum_text c.args.kind c.args.grid.now c.args.from c.args.to =
    c.as_slice.ensures.value ∙ c.in-Ok.ensures ∙ (λ i. spectrum_text c.args.kind c.args.grid.now (from i) (to i)) in
    output_map g.O.Sink.faults g.O.Sink.bytes (λ text. text ≡ c.as_slice.result.now)
    (λ text. text ≡ spectrum_text c.args.kind c.args.grid.now c.args.from c.args.to) (λ text is. is ∙ same) c.put_bytes.result c.args.out.now
    c.put_bytes.new.out c.put_bytes.ensures.output

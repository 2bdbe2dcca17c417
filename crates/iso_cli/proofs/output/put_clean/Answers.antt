use Rattle.std.proofs.Common.{◌≡◌, ◌∙◌}
use Rattle.iso_cli.specs.Audits.{clean_line}
use Rattle.iso_cli.proofs.Putting.{output_map}
use Rattle.iso_cli.proofs.output.put_clean.Goals as goal

pub returns-clause-output : goal.returns-clause-output
returns-clause-output g c =
    let same : c.as_bytes.result.now ≡ clean_line c.args.boundary = cc in
    output_map g.O.Sink.faults g.O.Sink.bytes (λ text. text ≡ c.as_bytes.result.now) (λ text. text ≡ clean_line c.args.boundary) (λ text is. is ∙ same)
    c.put_bytes.result c.args.out.now c.put_bytes.new.out c.put_bytes.ensures.output

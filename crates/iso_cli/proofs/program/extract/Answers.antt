use Rattle.std.proofs.Common.{rules, FitsSigned, ◌≡◌, w64, to_z, of_z}
use Rattle.std.proofs.lemmas.Int.{to_z-of_z}
use Rattle.iso_commands.specs.Commands.{extract_command}
use Rattle.iso_cli.specs.Checked.{checked_in}
use Rattle.iso_cli.specs.Outputs.{placed_text}
use Rattle.iso_cli.specs.Runs.{IsOutput}
use Rattle.iso_cli.proofs.Putting.{output_map}
use Rattle.iso_cli.proofs.TextSurfaces.{mesh_text_at}
use Rattle.iso_cli.proofs.program.extract.Goals as goal

pub returns-in-Ok-clause-output : goal.returns-in-Ok-clause-output
returns-in-Ok-clause-output g c =
    let files = g.S.Shelf.files c.args.shelf.now in
    let fits : FitsSigned w64 c.args.iso = search rules in
    let same : to_z w64 (of_z w64 c.args.iso) ≡ c.args.iso = to_z-of_z w64 c.args.iso fits in
    output_map g.O.Sink.faults g.O.Sink.bytes (λ text. text ≡ placed_text (checked_in c.in-Ok.table) c.in-Ok.grid (to_z w64 (of_z w64 c.args.iso)))
    (λ text. IsOutput files text (extract_command c.args.table.now c.args.grid.now c.args.iso))
    (mesh_text_at files c.args.table.now c.args.grid.now c.args.iso (to_z w64 (of_z w64 c.args.iso)) (checked_in c.in-Ok.table) c.in-Ok.grid
    c.in-Ok.ensures.held c.in-Ok.ensures.regular same)
    c.put_mesh.result c.args.out.now c.put_mesh.new.out c.put_mesh.ensures.output

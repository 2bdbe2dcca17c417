use Rattle.std.proofs.Common.{◌≡◌, ℕ, List, sym, subst}
use Rattle.demo_grid.specs.MeshCounts.{counts_text}
use Rattle.iso_cli.specs.Demonstrations.{IsDemonstration}
use Rattle.iso_cli.proofs.Putting.{output_map}
use Rattle.iso_cli.proofs.demo.put_demonstration.Goals as goal

pub returns-in-Ok-clause-output : goal.returns-in-Ok-clause-output
returns-in-Ok-clause-output g c =
    let IsText = IsDemonstration c.args.kind c.args.dim c.args.size c.args.seed in
    output_map g.O.Sink.faults g.O.Sink.bytes (λ text. text ≡ counts_text c.in-Ok.counts) IsText
    (λ text is. subst (λ (x : List ℕ). IsText x) (sym is) c.in-Ok.ensures.said) c.put_said.result c.args.out.now c.put_said.new.out
    c.put_said.ensures.output

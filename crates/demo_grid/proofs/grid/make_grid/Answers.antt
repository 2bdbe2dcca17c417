use Rattle.std.proofs.Common.{rules, ◌∙◌, sym}
use Rattle.demo_grid.proofs.DemoGrids.{demo_regular, are_demo}
use Rattle.demo_grid.proofs.grid.make_grid.Goals as goal

pub unreachable-requires : goal.unreachable-requires
unreachable-requires c =
    let same = are_demo c.args.dims c.args.size c.args.seed c.in_ok-samples.samples.items c.requires.four_axes (search rules) in
    let regular = demo_regular c.args.dims c.args.size c.args.seed c.requires.two_axes c.requires.four_axes c.requires.sized c.requires.few in
    let accepted = c.new.ensures.accepted (rw (c.from-2.ensures, ← same) regular) in
    search rules

pub returns-clause-grid : goal.returns-clause-grid
returns-clause-grid c =
    let same = are_demo c.args.dims c.args.size c.args.seed c.in_ok-samples.samples.items c.requires.four_axes (search rules) in
    c.in-Ok.ensures.grid ∙ rw (c.from-2.ensures) (sym same)

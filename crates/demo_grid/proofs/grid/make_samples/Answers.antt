use Rattle.std.proofs.Common.{rules, ◌≡◌, ◌/◌, ◌^◌, ◌++◌, ◌∷◌, [], pos}
use Rattle.iso_formats.specs.Demo.{next_number}
use Rattle.demo_grid.proofs.DemoGrids.{one_more}
use Rattle.demo_grid.proofs.grid.make_samples.Goals as goal

pub loop-preserved : goal.loop-preserved
loop-preserved c =
    let pushed : c.push.new.self.items ≡ c.loop.samples.items ++ pos (next_number c.loop.number / 2 ^ 24) ∷ [] = search rules in
    rw (pushed, c.next_number-next.ensures)
    (one_more c.loop.samples.items _ c.args.count c.loop.counter c.loop.number c.loop-test.true c.loop.invariant)

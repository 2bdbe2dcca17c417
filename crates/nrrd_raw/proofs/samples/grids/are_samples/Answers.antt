use Rattle.std.proofs.Common.{refl, rules, pos}
use Rattle.std.proofs.lemmas.List.Elements.{All-more}
use Rattle.nrrd_raw.specs.Shapes.{InRange}
use Rattle.nrrd_raw.proofs.GridLaws.{each-all}
use Rattle.nrrd_raw.proofs.samples.grids.are_samples.Goals as goal

pub loop-sample-preserved : goal.loop-sample-preserved
loop-sample-preserved c =
    All-more InRange c.args.samples.now c.loop-sample.sample-index (pos 0) c.loop-sample-test.true c.loop-sample.invariant (search rules, search rules)

pub returns : goal.returns
returns c = (λ _. each-all c.args.samples.now InRange c.loop-sample.sample-index c.loop-sample-test.false c.loop-sample.invariant, λ _. refl)

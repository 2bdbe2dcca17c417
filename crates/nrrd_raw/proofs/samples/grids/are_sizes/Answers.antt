use Rattle.std.proofs.Common.{◌≤◌, refl, rules}
use Rattle.std.proofs.lemmas.List.Elements.{All-more}
use Rattle.nrrd_raw.proofs.GridLaws.{each-all}
use Rattle.nrrd_raw.proofs.samples.grids.are_sizes.Goals as goal

pub loop-size-preserved : goal.loop-size-preserved
loop-size-preserved c =
    All-more (λ n. (1 ≤ n) × (n ≤ 4294967295)) c.args.sizes.now c.loop-size.size-index 0 c.loop-size-test.true c.loop-size.invariant (search rules, search rules)

pub returns : goal.returns
returns c = (λ _. each-all c.args.sizes.now (λ n. (1 ≤ n) × (n ≤ 4294967295)) c.loop-size.size-index c.loop-size-test.false c.loop-size.invariant, λ _. refl)

use Rattle.std.proofs.Common.{ap, arith, length, subst, ◌∙◌, ◌*◌, ◌+◌, ◌<◌}
use Rattle.lists.proofs.Contained.{any_default}
use Rattle.grid_rows.specs.Planes.{no_edge}
use Rattle.layer_scan.specs.CubeNumbers.{HasFewBefore, ranked}
use Rattle.layer_scan.proofs.RanksWritten.{keeps_on, ranks_more, two_here}
use Rattle.layer_scan.proofs.cubes.count_pairs.Goals as goal

pub count_two-requires-clause-few : goal.count_two-requires-clause-few
count_two-requires-clause-few c =
    let there : c.loop-k.k < length c.args.words.now = omega (arith, c.told-words, c.loop-k-test.true) in
    subst HasFewBefore (any_default c.args.words.now c.loop-k.k no_edge _ there) (c.requires.few c.loop-k.k (omega (arith, c.loop-k-test.true)))

pub loop-k-preserved : goal.loop-k-preserved
loop-k-preserved c =
    let there : c.loop-k.k < length c.args.words.now = omega (arith, c.told-words, c.loop-k-test.true) in (
      ranks_more c.loop-k.numbers c.count_two.new.numbers 27 2 c.args.words.now c.loop-k.k c.args.place c.loop-k.invariant.0 c.count_two.ensures.below
          (λ step low.
          two_here c.count_two.new.numbers (27 + 2 * c.loop-k.k) _ c.args.place c.count_two.ensures.first c.count_two.ensures.second step low
          ∙ ap (λ word. ranked word c.args.place step) (any_default c.args.words.now c.loop-k.k _ no_edge there)),
      keeps_on 27 (27 + 2 * c.loop-k.k) c.args.numbers.now c.loop-k.numbers c.count_two.new.numbers c.loop-k.invariant.1 c.count_two.ensures.below
          (omega arith),
    )

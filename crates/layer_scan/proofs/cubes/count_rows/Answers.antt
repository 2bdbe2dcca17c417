use Rattle.std.proofs.Common.{ap, arith, length, subst, ◌∙◌, ◌*◌, ◌+◌, ◌<◌}
use Rattle.lists.proofs.Contained.{any_default}
use Rattle.grid_rows.specs.Planes.{no_edge}
use Rattle.layer_scan.specs.CubeNumbers.{HasFewBefore, ranked}
use Rattle.layer_scan.proofs.RanksWritten.{keeps_on, ranks_more, three_here}
use Rattle.layer_scan.proofs.cubes.count_rows.Goals as goal

pub count_three-requires-clause-few : goal.count_three-requires-clause-few
count_three-requires-clause-few c =
    let there : c.loop-k.k < length c.args.words.now = omega (arith, c.told-words, c.loop-k-test.true, c.requires.count) in
    subst HasFewBefore (any_default c.args.words.now c.loop-k.k no_edge _ there)
    (c.requires.few c.loop-k.k (omega (arith, c.loop-k-test.true, c.requires.count)))

pub loop-k-preserved : goal.loop-k-preserved
loop-k-preserved c =
    let there : c.loop-k.k < length c.args.words.now = omega (arith, c.told-words, c.loop-k-test.true, c.requires.count) in (
      ranks_more c.loop-k.numbers c.count_three.new.numbers c.args.first 3 c.args.words.now c.loop-k.k c.args.place c.loop-k.invariant.0
          c.count_three.ensures.below
          (λ step low.
          three_here c.count_three.new.numbers (c.args.first + 3 * c.loop-k.k) _ c.args.place c.count_three.ensures.first c.count_three.ensures.second
          c.count_three.ensures.next step low
          ∙ ap (λ word. ranked word c.args.place step) (any_default c.args.words.now c.loop-k.k _ no_edge there)),
      keeps_on c.args.first (c.args.first + 3 * c.loop-k.k) c.args.numbers.now c.loop-k.numbers c.count_three.new.numbers c.loop-k.invariant.1
          c.count_three.ensures.below (omega arith),
    )

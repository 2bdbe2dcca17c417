use Rattle.std.proofs.Common.{◌<◌, get_or, arith, below_more, length, length-set, get_or-set_other, get_or-set_same, ◌≢◌, ◌∙◌}
use Rattle.cube_moves.proofs.ExchangeChecks.{fewer, flip_goes_on, few_flips}
use Rattle.cube_moves.proofs.words.by_flips.Goals as goal

pub bounds-axis : goal.bounds-axis
bounds-axis g c = (flip_goes_on g.row.D c.loop-flips.flips c.requires.dimension (omega arith) (omega arith)).axis

pub exchanged-requires-clause-by : goal.exchanged-requires-clause-by
exchanged-requires-clause-by g c = (flip_goes_on g.row.D c.loop-flips.flips c.requires.dimension (omega arith) (omega arith)).exchange

pub loop-flips-preserved : goal.loop-flips-preserved
loop-flips-preserved g c =
    let step = flip_goes_on g.row.D c.loop-flips.flips c.requires.dimension (omega arith) (omega arith) in
    let few = few_flips g.row.D c.requires.dimension in
    let inside : c.loop-flips.flips < length c.loop-flips.labels = omega (arith, c.loop-flips.invariant.room) in
    record {
      room = length-set _ _ _ ∙ c.loop-flips.invariant.room;
      carried = below_more _ _
          (λ f h. let ne : f ≢ c.loop-flips.flips = omega arith in rw get_or-set_other (c.loop-flips.invariant.carried f h))
          (rw get_or-set_same
          (step.carried c.args.label (get_or c.loop-flips.labels (fewer c.loop-flips.flips) 0) c.exchanged.result
          (record { below = c.exchanged.ensures.below; signs = c.exchanged.ensures.signs })
          (c.loop-flips.invariant.carried (fewer c.loop-flips.flips) step.earlier)));
    }

use Rattle.std.proofs.Common.{◌+◌, ◌*◌, ◌/◌, slice_index, arith}
use Rattle.layer_mesh.proofs.ListsPlaceByPlace.{all_made, one_more}
use Rattle.layer_mesh.proofs.crossings.corner_end.Goals as goal

pub loop-axis-preserved : goal.loop-axis-preserved
loop-axis-preserved g c =
    one_more (λ m. 2 * ((m + 1) / 4)) 0 c.args.middle.now c.loop-axis.end c.loop-axis.axis ((slice_index c.args.middle.now c.loop-axis.axis + 1) / 4 * 2)
    c.loop-axis.invariant.0 (omega (arith, c.loop-axis-test.true, c.told-middle)) c.loop-axis.invariant.1 (omega arith)

pub returns : goal.returns
returns g c =
    all_made (λ m. 2 * ((m + 1) / 4)) 0 c.args.middle.now c.loop-axis.end c.loop-axis.invariant.0 (λ i h. c.loop-axis.invariant.1 i (omega arith))

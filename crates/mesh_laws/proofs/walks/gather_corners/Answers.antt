use Rattle.mesh_laws.proofs.RoundWalks.{corners_more}
use Rattle.mesh_laws.proofs.walks.gather_corners.Goals as goal

pub loop-number-preserved : goal.loop-number-preserved
loop-number-preserved c =
    rw c.in_ok-add_corner.ensures
    (corners_more c.loop-number.number c.args.simplices.now c.args.vertex c.loop-number.corners.items c.loop-number-test.true c.loop-number.invariant)

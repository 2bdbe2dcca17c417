use Rattle.std.proofs.Common.{arith}
use Rattle.mesh_laws.proofs.RoundWalks.{few_corners}
use Rattle.mesh_laws.proofs.walks.walk.Goals as goal

pub walk_round-requires : goal.walk_round-requires
walk_round-requires c =
    rw c.deref.ensures.value
    (omega (arith, few_corners c.args.simplices.now c.args.vertex c.gather_corners.new.corners.items c.in_ok-gather_corners.ensures, c.requires))

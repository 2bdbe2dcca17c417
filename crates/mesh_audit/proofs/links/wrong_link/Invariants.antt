use Rattle.std.proofs.Common.{◌-◌, length}
use Rattle.mesh_audit.specs.VertexRuns.{AreRightBefore}
use Rattle.mesh_audit.proofs.links.wrong_link.Given as goal

abbrev pub invariant-loop-start : goal.invariant-loop-start
invariant-loop-start g l = AreRightBefore l.simplices l.incidences.items l.start

abbrev pub decreases-loop-start : goal.decreases-loop-start
decreases-loop-start g l = length l.incidences.items - l.start

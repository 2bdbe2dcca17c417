use Rattle.std.proofs.Common.{◌<◌, length}
use Rattle.mesh_audit.specs.VertexRuns.{AreGrouped}
use Rattle.mesh_audit.proofs.links.group_all_incidences.Given as goal

abbrev pub invariant-loop-number : goal.invariant-loop-number
invariant-loop-number g l = (0 < length l.groups.items) × AreGrouped l.number l.simplices l.groups.items

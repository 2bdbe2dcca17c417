use Rattle.std.proofs.Common.{◌≤◌, ℕ, length}
use Rattle.mesh_audit.specs.VertexRuns.{AreAt, AreFirstCorners}
use Rattle.mesh_audit.proofs.links.gather_corners.Given as goal

abbrev pub invariant-loop-incidence : goal.invariant-loop-incidence
invariant-loop-incidence g l =
    (length l.corners.items ≤ l.incidence-index)
    × ((k : ℕ) → AreAt l.simplices k l.run → AreFirstCorners l.incidence-index l.simplices k l.run l.corners.items)

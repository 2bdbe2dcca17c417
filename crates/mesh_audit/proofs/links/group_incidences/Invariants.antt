use Rattle.std.proofs.Common.{◌≡◌, ◌++◌, length, take}
use Rattle.std.specs.List.Sorted.{IsPermutation}
use Rattle.mesh_audit.specs.Groups.{members_of}
use Rattle.mesh_audit.specs.VertexRuns.{incidences_of}
use Rattle.mesh_audit.proofs.links.group_incidences.Given as goal

abbrev pub invariant-loop-vertex : goal.invariant-loop-vertex
invariant-loop-vertex g l =
    (length l.groups ≡ length l.initial.groups)
    × IsPermutation (members_of l.initial.groups ++ incidences_of l.triangle (take l.vertex-index l.simplex)) (members_of l.groups)

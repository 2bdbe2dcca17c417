use Rattle.std.proofs.Common.{◌++◌, length}
use Rattle.std.specs.List.Sorted.{IsPermutation}
use Rattle.mesh_audit.specs.Groups.{members_of}
use Rattle.mesh_audit.proofs.groups.gather.Given as goal

abbrev pub invariant-loop-group : goal.invariant-loop-group
invariant-loop-group g l =
    IsPermutation (l.initial.joined.items ++ members_of l.initial.groups.items) (l.joined.items ++ members_of l.groups.items)

abbrev pub decreases-loop-group : goal.decreases-loop-group
decreases-loop-group g l = length l.groups.items

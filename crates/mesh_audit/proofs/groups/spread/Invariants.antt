use Rattle.std.proofs.Common.{◌<◌, length, take}
use Rattle.std.specs.List.Sorted.{IsPermutation}
use Rattle.mesh_audit.specs.Groups.{members_of}
use Rattle.mesh_audit.proofs.groups.spread.Given as goal

abbrev pub invariant-loop-member : goal.invariant-loop-member
invariant-loop-member g l =
    (0 < length l.groups.items) × IsPermutation (take l.member-index l.fn.group.items) (members_of l.groups.items)

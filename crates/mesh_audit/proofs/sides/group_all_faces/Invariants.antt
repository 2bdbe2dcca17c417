use Rattle.std.proofs.Common.{◌<◌, length, take}
use Rattle.std.specs.List.Sorted.{IsPermutation}
use Rattle.mesh_audit.specs.Groups.{members_of}
use Rattle.mesh_audit.specs.SignedKeys.{all_signed_faces}
use Rattle.mesh_audit.proofs.sides.group_all_faces.Given as goal

abbrev pub invariant-loop-simplex : goal.invariant-loop-simplex
invariant-loop-simplex g l =
    (0 < length l.groups.items) × IsPermutation (all_signed_faces (take l.simplex-index l.simplices)) (members_of l.groups.items)

use Rattle.std.proofs.Common.{◌≡◌, ◌++◌, length, map}
use Rattle.std.specs.List.Sorted.{IsPermutation}
use Rattle.lists.specs.Orders.{numbers}
use Rattle.mesh_audit.specs.Groups.{members_of}
use Rattle.mesh_audit.specs.SignedKeys.{signed_face}
use Rattle.mesh_audit.proofs.sides.group_faces.Given as goal

abbrev pub invariant-loop-place : goal.invariant-loop-place
invariant-loop-place g l =
    (length l.groups ≡ length l.initial.groups)
    × IsPermutation (members_of l.initial.groups ++ map (signed_face l.simplex) (numbers l.place)) (members_of l.groups)

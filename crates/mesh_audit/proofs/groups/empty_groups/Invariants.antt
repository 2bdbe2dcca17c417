use Rattle.std.proofs.Common.{◌≡◌, [], length}
use Rattle.mesh_audit.specs.Groups.{members_of}
use Rattle.mesh_audit.proofs.groups.empty_groups.Given as goal

abbrev pub invariant-loop : goal.invariant-loop
invariant-loop g l = (length l.groups.items ≡ l.counter) × (members_of l.groups.items ≡ [])

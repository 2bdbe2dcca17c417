use Rattle.mesh_audit.proofs.GroupMembers.{none_more}
use Rattle.mesh_audit.proofs.groups.empty_groups.Goals as goal

pub loop-preserved : goal.loop-preserved
loop-preserved g c =
    none_more c.loop.groups.items c.push.new.items.items c.in-Ok-with_capacity.group c.loop.counter c.in_ok-push.ensures c.in-Ok-with_capacity.ensures.items
    c.loop.invariant

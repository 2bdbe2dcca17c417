use Rattle.mesh_laws.proofs.FaceGroupLaws.{empty_more}
use Rattle.mesh_laws.proofs.free.empty_groups.Goals as goal

pub loop-preserved : goal.loop-preserved
loop-preserved g c = empty_more c.loop.groups.items c.push.new.items.items c.new.result c.loop.counter c.in_ok-push.ensures c.new.ensures.items c.loop.invariant

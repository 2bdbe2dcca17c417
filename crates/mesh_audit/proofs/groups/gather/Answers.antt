use Rattle.std.proofs.Common.{arith, length, ◌≡◌}
use Rattle.mesh_audit.proofs.GroupMembers.{all_gathered, gathered}
use Rattle.mesh_audit.proofs.groups.gather.Goals as goal

pub loop-group-preserved : goal.loop-group-preserved
loop-group-preserved g c =
    gathered _ c.loop-group.joined.items c.append.new.self.items c.sort.new.members.items c.loop-group.groups.items c.pop.new.self.items c.in-Some.group
    c.in-Some.ensures.items c.sort.ensures c.in-Ok.ensures.items c.loop-group.invariant

pub returns : goal.returns
returns g c =
    let none : length c.loop-group.groups.items ≡ 0 = omega (arith, c.in_default.ensures.cases.0, c.loop-group.groups.ok) in
    all_gathered _ c.loop-group.joined.items c.loop-group.groups.items none c.loop-group.invariant

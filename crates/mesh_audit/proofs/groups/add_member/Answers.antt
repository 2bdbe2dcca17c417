use Rattle.std.proofs.Common.{ap, slice_index_or}
use Rattle.std.proofs.lemmas.Result.{on_ok_weaker}
use Rattle.mesh_audit.proofs.GroupMembers.{member_more}
use Rattle.mesh_audit.proofs.groups.add_member.Goals as goal

pub returns-clause-added : goal.returns-clause-added
returns-clause-added g c =
    let groups = c.args.groups.now in
    let at = c.group_of-at.result in
    on_ok_weaker c.push.result
    (member_more groups at (slice_index_or groups at c.index-groups-at.result) c.push.new.items c.args.member c.group_of-at.ensures
    (ap (slice_index_or groups at) c.index-groups-at.is)) c.push.ensures

use Rattle.std.proofs.Common.{ap, slice_index_or}
use Rattle.std.proofs.lemmas.Result.{on_ok_weaker}
use Rattle.mesh_laws.proofs.FaceGroupLaws.{face_taken}
use Rattle.mesh_laws.proofs.free.add_face.Goals as goal

pub returns : goal.returns
returns g c =
    let groups = c.args.groups.now in
    let at = c.group_of-at.result in
    on_ok_weaker c.push.result
    (face_taken groups c.args.key at (slice_index_or groups at c.index-groups-at.result) c.push.new.items c.group_of-at.ensures.value
    c.group_of-at.ensures.within (ap (slice_index_or groups at) c.index-groups-at.is)) c.push.ensures

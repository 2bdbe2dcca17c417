use Rattle.std.proofs.Common.{ap, ◌∙◌}
use Rattle.mesh_laws.specs.FaceGroups.{once_count}
use Rattle.mesh_laws.proofs.FaceGroupLaws.{once_moved}
use Rattle.mesh_laws.proofs.free.count_group.Goals as goal

pub returns : goal.returns
returns g c =
    c.count_once.ensures ∙ ap once_count c.deref.ensures.value
    ∙ once_moved c.args.group.items c.sort_unstable.new.self.items c.sort_unstable.ensures.permutation

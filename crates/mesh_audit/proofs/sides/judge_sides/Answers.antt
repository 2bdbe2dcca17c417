use Rattle.std.proofs.Common.{◌∙◌}
use Rattle.mesh_audit.proofs.FreeFaceKeys.{unsigned_free}
use Rattle.mesh_audit.proofs.SignedKeyLists.{distinct_all}
use Rattle.mesh_audit.proofs.sides.judge_sides.Goals as goal

pub returns-in-None-clause-sides : goal.returns-in-None-clause-sides
returns-in-None-clause-sides g c =
    let ws = c.args.simplices.now in
    let keys = c.in_ok-keys.keys.items in
    (c.in-None.ensures.none, c.count_unsigned.ensures ∙ unsigned_free ws keys (distinct_all ws c.requires) c.in_ok-keys.ensures.moved)

use Rattle.std.proofs.lemmas.List.Sorted.{IsPermutation-trans}
use Rattle.mesh_audit.specs.Groups.{members_of}
use Rattle.mesh_audit.proofs.VertexRunLists.{incidences_sorted}
use Rattle.mesh_audit.proofs.links.incidences.Goals as goal

pub returns : goal.returns
returns g c =
    let es = c.in_ok-groups.ensures.0 in
    let members = members_of c.in_ok-groups.groups.items in
    let joined = c.in_ok-incidences.incidences.items in
    let now = c.sort_incidences.new.incidences.items in
    incidences_sorted c.args.simplices.now es now c.in_ok-groups.ensures.1.0
    (IsPermutation-trans es members now c.in_ok-groups.ensures.1.1
    (IsPermutation-trans members joined now c.in_ok-incidences.ensures c.sort_incidences.ensures.reordered))
    c.sort_incidences.ensures.sorted

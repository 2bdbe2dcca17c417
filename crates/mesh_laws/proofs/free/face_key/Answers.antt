use Rattle.std.proofs.Common.{rules, ◌<◌, length}
use Rattle.std.proofs.lemmas.List.Sorted.{IsNonDecreasingBy-from_sort}
use Rattle.mesh_laws.proofs.FaceKeyLists.{key_is}
use Rattle.mesh_laws.proofs.free.face_key.Goals as goal

pub returns : goal.returns
returns g c =
    let inside : c.args.place < length c.args.simplex.now = search rules in
    key_is c.args.simplex.now c.args.place c.sort_unstable.new.self inside c.sort_unstable.ensures.permutation
    (IsNonDecreasingBy-from_sort (λ x. x) _ c.sort_unstable.ensures.sorted)

use Rattle.std.proofs.lemmas.List.Sorted.{IsPermutation-trans}
use Rattle.mesh_audit.specs.Groups.{members_of}
use Rattle.mesh_audit.specs.SignedKeys.{all_signed_faces}
use Rattle.mesh_audit.proofs.sides.signed_faces.Goals as goal

pub returns : goal.returns
returns g c =
    let all = all_signed_faces c.args.simplices.now in
    let members = members_of c.in_ok-groups.groups.items in
    let joined = c.in_ok-keys.keys.items in
    let now = c.sort_unstable.new.self.items in
    record {
      sorted = c.sort_unstable.ensures.sorted;
      moved = IsPermutation-trans all members now c.in_ok-groups.ensures
          (IsPermutation-trans members joined now c.in_ok-keys.ensures c.sort_unstable.ensures.permutation);
    }

use Rattle.std.proofs.Common.{subst, append-nil, refl, ◌∙◌, ◌≡◌, ◌++◌, ◌∷◌, [], length, map, rules, sym, List, ℕ}
use Rattle.std.specs.List.Sorted.{IsPermutation}
use Rattle.std.proofs.lemmas.List.Sorted.{IsPermutation-refl}
use Rattle.lists.specs.Orders.{numbers}
use Rattle.mesh_audit.specs.Groups.{members_of}
use Rattle.mesh_audit.specs.SignedKeys.{signed_face}
use Rattle.mesh_audit.proofs.GroupMembers.{moved_more}
use Rattle.mesh_audit.proofs.SignedKeyLists.{signed_more}
use Rattle.mesh_audit.proofs.sides.group_faces.Goals as goal

pub loop-place-init : goal.loop-place-init
loop-place-init g c =
    let all = members_of c.args.groups.now in
    (refl, subst (λ (l : List (List ℕ)). IsPermutation l all) (sym (append-nil all)) (IsPermutation-refl all))

pub loop-place-preserved : goal.loop-place-preserved
loop-place-preserved g c =
    let w = c.args.simplex.now in
    let n = c.loop-place.place in
    let old = members_of c.args.groups.now in
    let key = c.signed_face.result in (
      c.in_ok-add_member.ensures.count ∙ c.loop-place.invariant.0,
      subst (λ (l : List (List ℕ)). IsPermutation l (members_of c.add_member.new.groups)) (signed_more w n old key c.signed_face.ensures)
          (moved_more (old ++ map (signed_face w) (numbers n)) (members_of c.loop-place.groups) (key ∷ []) (members_of c.add_member.new.groups)
          c.loop-place.invariant.1 c.in_ok-add_member.ensures.added),
    )

pub returns-clause-added : goal.returns-clause-added
returns-clause-added g c =
    let all : c.loop-place.place ≡ length c.args.simplex.now = search rules in
    subst (λ (n : ℕ). IsPermutation (members_of c.args.groups.now ++ map (signed_face c.args.simplex.now) (numbers n)) (members_of c.loop-place.groups)) all
    c.loop-place.invariant.1

use Rattle.std.proofs.Common.{arith, rules, subst, sym, ap, ◌∙◌, ◌≡◌, ◌++◌, ◌+◌, [], length, take, take_all, drop, List, ℕ}
use Rattle.std.specs.List.Sorted.{IsPermutation}
use Rattle.std.proofs.lemmas.List.{take_at}
use Rattle.std.proofs.lemmas.List.Sorted.{IsPermutation-refl}
use Rattle.mesh_audit.specs.Groups.{members_of}
use Rattle.mesh_audit.specs.SignedKeys.{all_signed_faces, signed_faces_of}
use Rattle.mesh_audit.proofs.GroupMembers.{moved_more}
use Rattle.mesh_audit.proofs.SignedKeyLists.{all_signed_more}
use Rattle.mesh_audit.proofs.sides.group_all_faces.Goals as goal

pub loop-simplex-init : goal.loop-simplex-init
loop-simplex-init g c =
    (c.in_ok-groups.ensures.some, subst (IsPermutation []) (sym c.in_ok-groups.ensures.empty) (IsPermutation-refl []))

pub loop-simplex-preserved : goal.loop-simplex-preserved
loop-simplex-preserved g c =
    let ws = c.args.simplices.now in
    let old = c.loop-simplex.groups.items in
    let new = c.group_faces.new.groups in
    let held : length old ≡ c.loop-simplex.groups.len = omega (arith, c.deref_mut.ensures.len, ap length c.deref_mut.ensures.value) in
    let count : length new ≡ length old = rw c.deref_mut.ensures.value at c.in_ok-group_faces.ensures.count in
    let all = take_at new (drop (length new) old) c.loop-simplex.groups.len (count ∙ held) in
    let i = c.loop-simplex.simplex-index in
    let w = c.simplex-item.result in
    let added : IsPermutation (members_of old ++ signed_faces_of w) (members_of new) =
    rw c.deref_mut.ensures.value at c.in_ok-group_faces.ensures.added in
    let moved : IsPermutation (all_signed_faces (take (i + 1) ws)) (members_of new) =
    subst (λ (l : List (List ℕ)). IsPermutation l (members_of new)) (sym (all_signed_more ws i w c.loop-simplex-test.true c.simplex-item.is))
    (moved_more (all_signed_faces (take i ws)) (members_of old) (signed_faces_of w) (members_of new) c.loop-simplex.invariant.1 added) in
    (rw (all, count) c.loop-simplex.invariant.0, rw all moved)

pub returns : goal.returns
returns g c =
    let ws = c.args.simplices.now in
    let all : take c.loop-simplex.simplex-index ws ≡ ws = take_all c.loop-simplex.simplex-index ws (search rules) in
    subst (λ (vs : List (List ℕ)). IsPermutation (all_signed_faces vs) (members_of c.loop-simplex.groups.items)) all c.loop-simplex.invariant.1

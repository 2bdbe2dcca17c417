use Rattle.std.proofs.Common.{arith, ap, drop, length, rules, subst, sym, take_all, ◌++◌, ◌<◌, ◌≤◌, ◌∙◌, ◌∷◌, ◌≡◌, []}
use Rattle.std.specs.Prelude.{slice_index_or}
use Rattle.std.specs.List.Sorted.{IsPermutation}
use Rattle.std.proofs.lemmas.List.{take_at}
use Rattle.std.proofs.lemmas.List.Sorted.{IsPermutation-refl}
use Rattle.mesh_audit.specs.Groups.{members_of}
use Rattle.mesh_audit.proofs.GroupMembers.{put_more}
use Rattle.mesh_audit.proofs.groups.spread.Goals as goal

pub loop-member-init : goal.loop-member-init
loop-member-init g c =
    let some : 0 < length c.in_ok-groups.groups.items = omega (arith, c.in_ok-groups.ensures.count, c.small_groups-count.ensures) in
    (some, subst (IsPermutation []) (sym c.in_ok-groups.ensures.empty) (IsPermutation-refl []))

pub loop-member-preserved : goal.loop-member-preserved
loop-member-preserved g c =
    let old = c.loop-member.groups.items in
    let new = c.add_to_small.new.groups in
    let held : length old ≡ c.loop-member.groups.len = omega (arith, c.deref_mut.ensures.len, ap length c.deref_mut.ensures.value) in
    let count : length new ≡ length old = rw c.deref_mut.ensures.value at c.in_ok-add_to_small.ensures.count in
    let all = take_at new (drop (length new) old) c.loop-member.groups.len (count ∙ held) in
    let x = c.member-item.result in
    let added : IsPermutation (members_of old ++ x ∷ []) (members_of new) = rw c.deref_mut.ensures.value at c.in_ok-add_to_small.ensures.added in
    let xs = c.args.group.items in
    let i = c.loop-member.member-index in
    let inside : i < length xs = rw c.deref-member-items.ensures.value at c.loop-member-test.true in
    let at : x ≡ slice_index_or xs i x = rw c.deref-member-items.ensures.value at c.member-item.is in
    let moved = put_more xs old new i x inside at c.loop-member.invariant.1 added in
    (rw (all, count) c.loop-member.invariant.0, rw all moved)

pub returns : goal.returns
returns g c =
    let past : length c.args.group.items ≤ c.loop-member.member-index = search rules in
    subst (λ l. IsPermutation l (members_of c.loop-member.groups.items)) (take_all c.loop-member.member-index c.args.group.items past)
    c.loop-member.invariant.1

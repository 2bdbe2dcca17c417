use Rattle.mesh_audit.specs.Groups.{members_of}
use Rattle.mesh_audit.proofs.GroupMembers.{all_gathered, gathered_small}
use Rattle.std.proofs.Common.{arith, length, subst, sym, ◌++◌, ◌≡◌}
use Rattle.std.specs.List.Sorted.{IsPermutation}
use Rattle.std.proofs.lemmas.List.Sorted.{IsPermutation-refl}
use Rattle.mesh_audit.proofs.groups.join_groups.Goals as goal

pub loop-group-init : goal.loop-group-init
loop-group-init g c =
    let all = members_of c.args.groups.items in
    subst (λ l. IsPermutation all (l ++ all)) (sym c.in-Ok.ensures.items) (IsPermutation-refl all)

pub loop-group-preserved : goal.loop-group-preserved
loop-group-preserved g c =
    gathered_small _ c.loop-group.joined.items c.gather.new.joined.items c.loop-group.groups.items c.pop.new.self.items c.in_ok-small.small.items
    c.in-Some.group c.in-Some.ensures.items c.in_ok-small.ensures c.in_ok-gather.ensures c.loop-group.invariant

pub returns : goal.returns
returns g c =
    let none : length c.loop-group.groups.items ≡ 0 = omega (arith, c.in_default-pop.ensures.cases.0, c.loop-group.groups.ok) in
    all_gathered _ c.loop-group.joined.items c.loop-group.groups.items none c.loop-group.invariant

use Rattle.std.proofs.Common.{ap, arith, drop, length, refl, rules, subst, sym, true, ◌++◌, ◌+◌, ◌<◌, ◌∙◌, ◌≡◌, [], ℕ}
use Rattle.std.specs.List.Sorted.{IsPermutation}
use Rattle.std.proofs.lemmas.List.{get_or_read, take_at}
use Rattle.std.proofs.lemmas.List.Elements.{All-nil}
use Rattle.std.proofs.lemmas.List.Sorted.{IsPermutation-refl}
use Rattle.lists.specs.Orders.{is_distinct}
use Rattle.mesh_audit.specs.declared.links.Incidence.{Incidence}
use Rattle.mesh_audit.specs.Findings.{simplex_at}
use Rattle.mesh_audit.specs.Groups.{members_of}
use Rattle.mesh_audit.specs.VertexRuns.{AreGrouped, AreIncidencesBelow, incidences_of}
use Rattle.mesh_audit.proofs.GroupMembers.{moved_more}
use Rattle.mesh_audit.proofs.SignedKeyLists.{distinct_at}
use Rattle.mesh_audit.proofs.VertexRunLists.{incidences_more}
use Rattle.mesh_audit.proofs.links.group_all_incidences.Goals as goal

pub loop-number-init : goal.loop-number-init
loop-number-init g c =
    let ws = c.args.simplices.now in
    let none : AreIncidencesBelow 0 ws [] = record {
      inside = All-nil (λ (e : Incidence). e.triangle < length ws);
      few = omega arith;
      at_each = λ k. refl;
    } in
    (c.in_ok-groups.ensures.some, ([], (none, subst (IsPermutation []) (sym c.in_ok-groups.ensures.empty) (IsPermutation-refl []))))

pub loop-number-preserved : goal.loop-number-preserved
loop-number-preserved g c =
    let ws = c.args.simplices.now in
    let n = c.loop-number.number in
    let w = c.index-simplices-number.result in
    let old = c.loop-number.groups.items in
    let new = c.group_incidences.new.groups in
    let held : length old ≡ c.loop-number.groups.len = omega (arith, c.deref_mut.ensures.len, ap length c.deref_mut.ensures.value) in
    let count : length new ≡ length old = rw c.deref_mut.ensures.value at c.in_ok-group_incidences.ensures.count in
    let all = take_at new (drop (length new) old) c.loop-number.groups.len (count ∙ held) in
    let added : IsPermutation (members_of old ++ incidences_of n w) (members_of new) =
    rw c.deref_mut.ensures.value at c.in_ok-group_incidences.ensures.added in
    let es = c.loop-number.invariant.1.0 in
    let same : w ≡ simplex_at ws n = get_or_read ws n w c.loop-number-test.true c.index-simplices-number.is [] in
    let distinct : is_distinct w ≡ true = ap is_distinct same ∙ distinct_at ws c.requires.distinct n c.loop-number-test.true in
    let long : length w ≡ 3 = omega (arith, c.requires.dimension, c.in_ok-group_incidences.ensures.long) in
    let below = incidences_more n ws es w c.loop-number-test.true same long distinct c.loop-number.invariant.1.1.0 in
    let moved = moved_more es (members_of old) (incidences_of n w) (members_of new) c.loop-number.invariant.1.1.1 added in
    let grouped : AreGrouped (n + 1) ws new = (es ++ incidences_of n w, (below, moved)) in
    (rw (all, count) c.loop-number.invariant.0, rw all grouped)

pub returns : goal.returns
returns g c =
    let ws = c.args.simplices.now in
    let last : c.loop-number.number ≡ length ws = search rules in
    subst (λ (n : ℕ). AreGrouped n ws c.loop-number.groups.items) last c.loop-number.invariant.1

use Rattle.std.proofs.Common.{arith, rules, subst, ap, ◌∙◌, ◌≡◌, ◌*◌, ◌<◌, ◌≤◌, ◌^◌, true, length, map, take, take_all, drop, List, ℕ}
use Rattle.std.specs.Prelude.{sum_by}
use Rattle.std.proofs.lemmas.List.{length-map, take_at}
use Rattle.std.proofs.lemmas.List.Elements.{All-contains}
use Rattle.std.proofs.lemmas.List.Sums.{count_by-le-length}
use Rattle.lists.specs.Orders.{is_distinct}
use Rattle.lists.proofs.MemberLaws.{Contains_from}
use Rattle.iso_model.specs.Faces.{faces_of}
use Rattle.mesh_laws.specs.FaceKeys.{padded, all_faces, is_once}
use Rattle.mesh_laws.specs.FaceGroups.{AreGroups, once_count}
use Rattle.mesh_laws.proofs.FaceKeyLists.{once_is_free, few_more}
use Rattle.mesh_laws.proofs.FaceGroupLaws.{once_in_groups, groups_more}
use Rattle.mesh_laws.proofs.free.free_faces.Goals as goal

pub loop-simplex-preserved : goal.loop-simplex-preserved
loop-simplex-preserved g c =
    let old = c.loop-simplex.groups.items in
    let new = c.add_faces.new.groups in
    let held : length old ≡ c.loop-simplex.groups.len = omega (arith, c.deref_mut.ensures.len, ap length c.deref_mut.ensures.value) in
    let took = rw c.deref_mut.ensures.value at c.in_ok-add_faces.ensures.taken in
    let all = take_at new (drop (length new) old) c.loop-simplex.groups.len (took.count ∙ held) in
    let i = c.loop-simplex.simplex-index in
    let w = c.simplex-item.result in
    let few : length (faces_of w) ≤ g.row.D = c.in_ok-add_faces.ensures.few in
    record {
      some = rw (all, took.count) c.loop-simplex.invariant.some;
      groups = rw all (groups_more old new c.args.simplices.now i w c.loop-simplex-test.true c.simplex-item.is took c.loop-simplex.invariant.groups);
      few = few_more c.args.simplices.now i g.row.D w c.loop-simplex-test.true c.simplex-item.is c.loop-simplex.invariant.few few;
    }

pub count_groups-requires : goal.count_groups-requires
count_groups-requires g c =
    let simplices = c.args.simplices.now in
    let all : take c.loop-simplex.simplex-index simplices ≡ simplices = take_all c.loop-simplex.simplex-index simplices (search rules) in
    let keys = map padded (all_faces simplices) in
    let groups : AreGroups c.loop-simplex.groups.items keys =
    subst (λ (ws : List (List ℕ)). AreGroups c.loop-simplex.groups.items (map padded (all_faces ws))) all c.loop-simplex.invariant.groups in
    let total = ap (sum_by once_count) groups ∙ once_in_groups (length c.loop-simplex.groups.items) keys c.loop-simplex.invariant.some in
    let few : length (all_faces simplices) ≤ length simplices * g.row.D =
    (let last : c.loop-simplex.simplex-index ≡ length simplices = search rules in
    rw (← last) (subst (λ (ws : List (List ℕ)). length (all_faces ws) ≤ c.loop-simplex.simplex-index * g.row.D) all c.loop-simplex.invariant.few)) in
    let held : length simplices * (g.row.D * 4) < 2 ^ 63 = search rules in
    let most : once_count keys ≤ length simplices * g.row.D =
    omega (arith, count_by-le-length (is_once keys) keys, length-map (all_faces simplices) padded, few) in
    (search rules, fit (length simplices) g.row.D held (rw total most))
  where
    fit : (n d : ℕ) {k : ℕ} → n * (d * 4) < 2 ^ 63 → k ≤ n * d → k < 2 ^ 64
    fit n d held most = grind (arith, held, most)

pub returns : goal.returns
returns g c =
    let simplices = c.args.simplices.now in
    let all : take c.loop-simplex.simplex-index simplices ≡ simplices = take_all c.loop-simplex.simplex-index simplices (search rules) in
    let keys = map padded (all_faces simplices) in
    let groups : AreGroups c.loop-simplex.groups.items keys =
    subst (λ (ws : List (List ℕ)). AreGroups c.loop-simplex.groups.items (map padded (all_faces ws))) all c.loop-simplex.invariant.groups in
    c.count_groups.ensures ∙ ap (sum_by once_count) groups ∙ once_in_groups (length c.loop-simplex.groups.items) keys c.loop-simplex.invariant.some
    ∙ once_is_free simplices (λ w i. All-contains (λ v. is_distinct v ≡ true) simplices w c.requires.distinct (Contains_from simplices w i))

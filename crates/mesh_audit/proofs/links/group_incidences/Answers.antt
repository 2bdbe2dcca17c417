use Rattle.std.proofs.Common.{append-nil, arith, length, refl, rules, subst, sym, take, take_all, ◌++◌, ◌∙◌, ◌∷◌, ◌≤◌, ◌<◌, [], List, ℕ}
use Rattle.std.specs.Prelude.{slice_index_or}
use Rattle.std.specs.List.Sorted.{IsPermutation}
use Rattle.std.proofs.lemmas.List.Sorted.{IsPermutation-refl}
use Rattle.mesh_audit.specs.declared.links.Incidence.{Incidence}
use Rattle.mesh_audit.specs.Groups.{members_of}
use Rattle.mesh_audit.specs.VertexRuns.{incidences_of}
use Rattle.mesh_audit.proofs.GroupMembers.{moved_more}
use Rattle.mesh_audit.proofs.VertexRunLists.{incidence_more}
use Rattle.mesh_audit.proofs.links.group_incidences.Goals as goal

pub loop-vertex-init : goal.loop-vertex-init
loop-vertex-init g c =
    let all = members_of c.args.groups.now in
    (refl, subst (λ (l : List Incidence). IsPermutation l all) (sym (append-nil all)) (IsPermutation-refl all))

pub loop-vertex-preserved : goal.loop-vertex-preserved
loop-vertex-preserved g c =
    let w = c.args.simplex.now in
    let t = c.args.triangle in
    let i = c.loop-vertex.vertex-index in
    let v = slice_index_or w i 0 in
    let e : Incidence = record { vertex = v; triangle = t } in
    let inside : i < length w = omega (arith, c.loop-vertex-test.true, c.told-simplex) in
    let old = members_of c.args.groups.now in (
      c.in_ok-add_member.ensures.count ∙ c.loop-vertex.invariant.0,
      subst (λ (l : List Incidence). IsPermutation l (members_of c.add_member.new.groups))
          (incidence_more t w i old inside)
          (moved_more (old ++ incidences_of t (take i w)) (members_of c.loop-vertex.groups) (e ∷ []) (members_of c.add_member.new.groups)
          c.loop-vertex.invariant.1 c.in_ok-add_member.ensures.added),
    )

pub returns-clause-added : goal.returns-clause-added
returns-clause-added g c =
    let w = c.args.simplex.now in
    let past : length w ≤ c.loop-vertex.vertex-index = search rules in
    subst (λ (v : List ℕ). IsPermutation (members_of c.args.groups.now ++ incidences_of c.args.triangle v) (members_of c.loop-vertex.groups))
    (take_all c.loop-vertex.vertex-index w past) c.loop-vertex.invariant.1

use Rattle.std.proofs.Common.{ap, arith, drop, length, refl, subst, sym, take, ◌-◌, ◌≡◌, ◌∙◌, ◌<◌, ◌≤◌, true, false, List, ℕ}
use Rattle.std.specs.Prelude.{slice_index_or}
use Rattle.iso_model.specs.Walks.{walk}
use Rattle.mesh_audit.specs.declared.links.Incidence.{Incidence}
use Rattle.mesh_audit.specs.Findings.{is_trail_right}
use Rattle.mesh_audit.specs.VertexRuns.{AreAt, IsRun, vertex_of}
use Rattle.mesh_audit.proofs.VertexRunLists.{all_right, least_link, right_more, run_at}
use Rattle.mesh_audit.proofs.links.wrong_link.Goals as goal

pub returns-then-not-branch-clause-some : goal.returns-then-not-branch-clause-some
returns-then-not-branch-clause-some g c =
    let ws = c.args.simplices.now in
    let es = c.in_ok-incidences.incidences.items in
    let start = c.loop-start.start in
    let end = c.run_end-end.result in
    let e = c.index.result.now in
    let k = (slice_index_or es start e).vertex in
    let are = c.in_ok-incidences.ensures in
    let before = c.loop-start.invariant in
    let run : IsRun es start end = subst (λ (fs : List Incidence). IsRun fs start end) c.deref.ensures.value c.run_end-end.ensures in
    let at : AreAt ws k (take (end - start) (drop start c.deref-in-loop-start.result.now)) =
    subst (λ (fs : List Incidence). AreAt ws k (take (end - start) (drop start fs))) (sym c.deref-in-loop-start.ensures.value)
    (run_at ws es start end e are before run) in
    let bad : is_trail_right (walk ws k) ≡ false = sym (c.in_ok-is_linked.ensures k at) ∙ c.if-not-branch.true in
    let few : length ws < 4294967296 = omega (arith, c.requires.few) in
    let inside : start < length es = omega (arith, run.more, run.inside) in
    let same : e.vertex ≡ k = ap vertex_of c.index.ensures in
    least_link ws es start e.vertex e few are before inside same (ap (λ (v : ℕ). is_trail_right (walk ws v)) same ∙ bad)

pub loop-start-preserved : goal.loop-start-preserved
loop-start-preserved g c =
    let ws = c.args.simplices.now in
    let es = c.in_ok-incidences.incidences.items in
    let start = c.loop-start.start in
    let end = c.run_end-end.result in
    let z : Incidence = record { vertex = 0; triangle = 0 } in
    let k = (slice_index_or es start z).vertex in
    let before = c.loop-start.invariant in
    let run : IsRun es start end = subst (λ (fs : List Incidence). IsRun fs start end) c.deref.ensures.value c.run_end-end.ensures in
    let at : AreAt ws k (take (end - start) (drop start c.deref-in-loop-start.result.now)) =
    subst (λ (fs : List Incidence). AreAt ws k (take (end - start) (drop start fs))) (sym c.deref-in-loop-start.ensures.value)
    (run_at ws es start end z c.in_ok-incidences.ensures before run) in
    let good : is_trail_right (walk ws k) ≡ true = sym (c.in_ok-is_linked.ensures k at) ∙ c.if-not-branch.false in
    right_more ws es start end k z before run refl good

pub returns-clause-none : goal.returns-clause-none
returns-clause-none g c =
    let es = c.in_ok-incidences.incidences.items in
    let past : length es ≤ c.loop-start.start = omega (arith, c.loop-start-test.false, c.len.ensures) in
    all_right c.args.simplices.now es c.loop-start.start c.in_ok-incidences.ensures c.loop-start.invariant past

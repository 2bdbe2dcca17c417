use Rattle.std.proofs.Common.{ap, rules, subst, sym, ◌≡◌, ◌∙◌, ◌<◌, List, ℕ}
use Rattle.std.specs.Prelude.{All, IfSome, Option}
use Rattle.mesh_audit.specs.declared.findings.Finding.TheVariants.{Link}
use Rattle.mesh_audit.specs.Findings.{AllGlued, HasFinding}
use Rattle.mesh_audit.specs.OffMeshes.{Off}
use Rattle.mesh_audit.specs.SignedKeys.{IsLeastSide}
use Rattle.mesh_audit.specs.Sides.{AreSides}
use Rattle.mesh_audit.specs.VertexRuns.{IsLeastLink}
use Rattle.mesh_audit.proofs.VertexRunLists.{link_found}
use Rattle.mesh_audit.proofs.audits.audit.Goals as goal

pub face_finding-requires : goal.face_finding-requires
face_finding-requires g c =
    let ws = c.as_slice-simplices.result.now in
    let side : IsLeastSide ws (c.in-Wrong.number, c.in-Wrong.place) = subst (AreSides ws) c.in-Wrong.is c.in_ok-boundary.ensures.sides in
    search (rules, side)

pub returns-in-Wrong : goal.returns-in-Wrong
returns-in-Wrong g c =
    let same : c.as_slice-simplices.result.now ≡ c.args.off.now.simplices =
    c.as_slice-simplices.ensures.value ∙ ap (λ (o : Off). o.simplices) c.off.view_is in
    subst (λ (ws : List (List ℕ)). HasFinding g.row.D c.args.off.now.vertices ws c.face_finding.result) same
    (c.face_finding.ensures g.row.D c.args.off.now.vertices)

pub returns-in-Some-2 : goal.returns-in-Some-2
returns-in-Some-2 g c =
    let ws = c.as_slice-simplices.result.now in
    let same : ws ≡ c.args.off.now.simplices = c.as_slice-simplices.ensures.value ∙ ap (λ (o : Off). o.simplices) c.off.view_is in
    let glued : AllGlued ws = (subst (AreSides ws) c.in-Glued.is c.in_ok-boundary.ensures.sides).0 in
    let link : IsLeastLink ws c.in-Some-2.vertex =
    subst (λ (o : Option ℕ). IfSome o (IsLeastLink ws)) c.in-Some-2.is c.in_ok-vertex.ensures.some in
    subst (λ (vs : List (List ℕ)). HasFinding g.row.D c.args.off.now.vertices vs (Link c.in-Some-2.vertex)) same
    (link_found g.row.D c.args.off.now.vertices c.in-Some-2.vertex ws c.if-this-eq3.true
    (subst (λ (vs : List (List ℕ)). All (λ (w : List ℕ). All (λ i. i < c.args.off.now.vertices) w) vs) (sym same) c.requires.indices)
    c.in_default.ensures.none glued link)

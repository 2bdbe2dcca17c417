use Rattle.std.proofs.Common.{◌≡◌, ◌<◌, [], length}
use Rattle.std.specs.Prelude.{slice_index_or}
use Rattle.std.proofs.lemmas.List.{get_or_read}
use Rattle.lists.proofs.Contained.{any_default}
use Rattle.iso_model.specs.Walks.{turned}
use Rattle.mesh_audit.specs.declared.links.Incidence.{Incidence}
use Rattle.mesh_audit.specs.Findings.{simplex_at}
use Rattle.mesh_audit.proofs.VertexRunLists.{few_more, first_corners_more}
use Rattle.mesh_audit.proofs.links.gather_corners.Goals as goal

pub loop-incidence-preserved : goal.loop-incidence-preserved
loop-incidence-preserved g c =
    let ws = c.args.simplices.now in
    let run = c.args.run.now in
    let n = c.loop-incidence.incidence-index in
    let z : Incidence = record { vertex = 0; triangle = 0 } in
    let e = slice_index_or run n z in
    let w = c.index-simplices-incidence.result in
    let cs = c.loop-incidence.corners.items in
    let now = c.add_corner.new.corners.items in
    let h : n < length run = c.loop-incidence-test.true in
    let below : e.triangle < length ws = c.requires.inside n z h in
    let same : w ≡ simplex_at ws e.triangle = get_or_read ws e.triangle w below c.index-simplices-incidence.is [] in
    let added = c.in_ok-add_corner.ensures in (
      few_more cs now e.triangle n (turned e.vertex w) added c.loop-incidence.invariant.0,
      λ k a. first_corners_more n ws k run cs now e w h (any_default run n z e h) same added a (c.loop-incidence.invariant.1 k a),
    )

use Rattle.std.proofs.Common.{ap, ◌∙◌}
use Rattle.std.specs.Prelude.{slice_index_or}
use Rattle.lists.proofs.Contained.{any_default}
use Rattle.mesh_audit.specs.declared.links.Incidence.{Incidence}
use Rattle.mesh_audit.specs.VertexRuns.{vertex_of}
use Rattle.mesh_audit.proofs.VertexRunLists.{run_is}
use Rattle.mesh_audit.proofs.links.run_end.Goals as goal

pub returns-else-incidences-end : goal.returns-else-incidences-end
returns-else-incidences-end c =
    let es = c.args.incidences.now in
    let z : Incidence = record { vertex = 0; triangle = 0 } in
    let end = c.loop-end.end in
    run_is es c.args.start end (slice_index_or es c.args.start z).vertex c.requires.sorted c.loop-end.invariant.0 c.loop-end.invariant.1 c.loop-end.invariant.2
    (λ l d e. c.if-incidences-end.false (ap vertex_of (any_default es end z d l) ∙ e))

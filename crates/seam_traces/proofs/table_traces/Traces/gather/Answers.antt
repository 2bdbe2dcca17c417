use Rattle.std.proofs.Common.{◌∙◌, sym, ap, subst, ℕ}
use Rattle.iso_model.specs.declared.Kind.{Kind}
use Rattle.iso_model.specs.Cells.{label_count}
use Rattle.seam_traces.specs.Kept.{TellRun}
use Rattle.seam_traces.proofs.table_traces.Traces.gather.Goals as goal

pub returns : goal.returns
returns g c =
    let t = c.args.table.now in
    let count = c.labels.ensures.labels ∙ ap (λ (k : Kind). label_count k g.row.D) c.requires in
    subst (λ traces. TellRun g.C.Cell.KIND g.row.D t 0 (label_count g.C.Cell.KIND g.row.D) traces) (sym c.of_run.ensures)
    (subst (λ (n : ℕ). TellRun g.C.Cell.KIND g.row.D t 0 n c.in_ok-all.all) count c.in_ok-all.ensures.tell)

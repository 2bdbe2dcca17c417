use Rattle.std.proofs.Common.{sym, ap, ◌∙◌, subst, arith, ◌<◌, length, List, ℕ}
use Rattle.iso_model.specs.Cells.{HasDimension}
use Rattle.table_file.proofs.WritingLaws.{longer, length-table_bytes-nil, written_all}
use Rattle.table_file.proofs.writing.length_of.Goals as goal

pub loop-label-init : goal.loop-label-init
loop-label-init g c = record { is = sym (length-table_bytes-nil c.args.table.now.kind g.row.D); few = omega arith }

pub loop-label-preserved : goal.loop-label-preserved
loop-label-preserved g c =
    let table = c.args.table.now in
    let inside : c.loop-label.label < length table.entries = omega (arith, c.labels-label-end.ensures.entries, c.loop-label-test.true) in
    let fits = subst (λ (d : ℕ). HasDimension table.kind d) c.labels-label-end.ensures.dimension c.labels-label-end.ensures.table.fits in
    let more =
    longer table.kind g.row.D table.entries c.loop-label.label c.loop-label.length c.tuples.result.now fits inside c.loop-label.invariant.is
    c.tuples.ensures.tuples c.tuples.ensures.sound in
    record { is = more.is; few = omega (arith, more.few, c.loop-label.invariant.few) }

pub returns : goal.returns
returns g c =
    c.loop-label.invariant.is
    ∙ ap (λ (l : List ℕ). length l)
    (written_all c.args.table.now g.row.D c.loop-label.label c.labels-label-end.ensures.dimension
    (omega (arith, c.labels-label-end.ensures.entries, c.loop-label-test.false)))

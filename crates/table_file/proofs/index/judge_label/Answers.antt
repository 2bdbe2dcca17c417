use Rattle.std.proofs.Common.{arith, sym, ◌∙◌, ◌≡◌}
use Rattle.std.proofs.lemmas.Bool.{and_from}
use Rattle.lists.proofs.Tests.{of_lt, of_equal}
use Rattle.iso_formats.specs.TableFile2.{record_label, label_at, ascends_at}
use Rattle.iso_model.specs.Cells.{label_count}
use Rattle.iso_formats.proofs.TableFieldLaws.{cut_fault, wrong_fault, field_good, label_judged}
use Rattle.std.proofs.lemmas.Bool.{and_left, and_right, le-ltb}
use Rattle.table_file.proofs.IndexLaws.{ascends_first, ascends_later}
use Rattle.table_file.proofs.index.judge_label.Goals as goal
use Rattle.table_file.proofs.index.judge_label.Goals.{then-number-eq0, else-number-eq0}
use Rattle.table_file.proofs.index.judge_label.Goals.{else-ascends-via-then-ascends+else-label-labels, else-ascends-via-else-ascends}

pub returns-then-bytes-place-clause-cause : goal.returns-then-bytes-place-clause-cause
returns-then-bytes-place-clause-cause g c =
    cut_fault c.args.kind g.row.D c.args.bytes.now (record_label c.args.number) c.requires.number c.requires.before (omega (arith, c.if-bytes-place.true))

pub returns-then-label-labels-clause-right : goal.returns-then-label-labels-clause-right
returns-then-label-labels-clause-right g c =
    let bytes = c.args.bytes.now in
    let n = c.args.number in
    let ascends : ascends_at bytes n ≡ c.if-number-eq0.ascends = elim c.if-number-eq0.branch [
      | then-number-eq0 w ↦ ascends_first bytes n w.if-number-eq0.true ∙ sym (of_equal n 0 w.if-number-eq0.true) ∙ sym w.ascends-is
      | else-number-eq0 w ↦
          ascends_later bytes n w.u32_at.result c.u32_at-label.result w.if-number-eq0.false w.u32_at.ensures c.u32_at-label.ensures ∙ sym w.ascends-is
    ] in
    label_judged c.args.kind g.row.D bytes n c.requires.number c.requires.before
    (field_good c.args.kind g.row.D bytes (record_label n) (omega (arith, c.if-bytes-place.false))
    (and_from _ _ (ascends ∙ c.if-ascends.true) (of_lt _ _ (omega (arith, c.if-label-labels.true, c.u32_at-label.ensures, c.labels.ensures)))))

pub returns-else-ascends-clause-cause : goal.returns-else-ascends-clause-cause
returns-else-ascends-clause-cause g c =
    let bytes = c.args.bytes.now in
    let n = c.args.number in
    let ascends : ascends_at bytes n ≡ c.if-number-eq0.ascends = elim c.if-number-eq0.branch [
      | then-number-eq0 w ↦ ascends_first bytes n w.if-number-eq0.true ∙ sym (of_equal n 0 w.if-number-eq0.true) ∙ sym w.ascends-is
      | else-number-eq0 w ↦
          ascends_later bytes n w.u32_at.result c.u32_at-label.result w.if-number-eq0.false w.u32_at.ensures c.u32_at-label.ensures ∙ sym w.ascends-is
    ] in
    wrong_fault c.args.kind g.row.D bytes (record_label n) c.requires.number c.requires.before (omega (arith, c.if-bytes-place.false))
    (elim c.else-ascends.branch [
      | else-ascends-via-then-ascends+else-label-labels w ↦
          and_right _ _ (le-ltb (label_at bytes n) (label_count c.args.kind g.row.D) (omega (arith, w.if-label-labels.false, c.u32_at-label.ensures, w.labels.ensures)))
      | else-ascends-via-else-ascends w ↦ and_left _ _ (ascends ∙ w.if-ascends.false)
    ])

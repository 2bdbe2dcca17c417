use Rattle.std.proofs.Common.{arith, sym, ◌∙◌, ◌≡◌}
use Rattle.iso_formats.specs.TableFile2.{record_offset, is_offset_right, index_end as end_of_index}
use Rattle.std.proofs.Common.{ap}
use Rattle.iso_formats.proofs.TableFieldLaws.{cut_fault, wrong_fault, field_good, offset_judged}
use Rattle.table_file.proofs.IndexLaws.{first_offset_test, later_offset_test}
use Rattle.table_file.proofs.index.judge_offset.Goals as goal
use Rattle.table_file.proofs.index.judge_offset.Goals.{then-number-eq0, else-number-eq0}

pub returns-then-bytes-place-clause-cause : goal.returns-then-bytes-place-clause-cause
returns-then-bytes-place-clause-cause g c =
    cut_fault c.args.kind g.row.D c.args.bytes.now (record_offset c.args.number) (omega (arith, c.requires.number, c.requires.records)) c.requires.before
    (omega (arith, c.if-bytes-place.true))

pub returns-then-right-clause-right : goal.returns-then-right-clause-right
returns-then-right-clause-right g c =
    let bytes = c.args.bytes.now in
    let n = c.args.number in
    let right : is_offset_right bytes g.row.D n ≡ c.if-number-eq0.right = elim c.if-number-eq0.branch [
      | then-number-eq0 w ↦
          first_offset_test bytes g.row.D n c.u64_at-offset.result w.index_end.result w.if-number-eq0.true c.u64_at-offset.ensures
          (w.index_end.ensures ∙ ap end_of_index c.requires.records)
          ∙ sym w.right-is
      | else-number-eq0 w ↦
          later_offset_test bytes g.row.D n w.u64_at.result c.u64_at-offset.result w.if-number-eq0.false w.u64_at.ensures c.u64_at-offset.ensures
          ∙ sym w.has_room-right.ensures ∙ sym w.right-is
    ] in
    offset_judged c.args.kind g.row.D bytes n (omega (arith, c.requires.number, c.requires.records)) c.requires.before
    (field_good c.args.kind g.row.D bytes (record_offset n) (omega (arith, c.if-bytes-place.false)) (right ∙ c.if-right.true))

pub returns-else-right-clause-cause : goal.returns-else-right-clause-cause
returns-else-right-clause-cause g c =
    let bytes = c.args.bytes.now in
    let n = c.args.number in
    let right : is_offset_right bytes g.row.D n ≡ c.if-number-eq0.right = elim c.if-number-eq0.branch [
      | then-number-eq0 w ↦
          first_offset_test bytes g.row.D n c.u64_at-offset.result w.index_end.result w.if-number-eq0.true c.u64_at-offset.ensures
          (w.index_end.ensures ∙ ap end_of_index c.requires.records)
          ∙ sym w.right-is
      | else-number-eq0 w ↦
          later_offset_test bytes g.row.D n w.u64_at.result c.u64_at-offset.result w.if-number-eq0.false w.u64_at.ensures c.u64_at-offset.ensures
          ∙ sym w.has_room-right.ensures ∙ sym w.right-is
    ] in
    wrong_fault c.args.kind g.row.D bytes (record_offset n) (omega (arith, c.requires.number, c.requires.records)) c.requires.before
    (omega (arith, c.if-bytes-place.false)) (right ∙ c.if-right.false)

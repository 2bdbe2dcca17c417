use Rattle.std.proofs.Common.{arith, sym, ap, ◌∙◌, ◌≡◌}
use Rattle.std.specs.Int.{w32}
use Rattle.iso_formats.specs.TableFile2.{is_count_right, count_at, number_at}
use Rattle.table_file.proofs.BodyLaws.{count_cut, count_wrong, right_count, last_count_test, inner_count_test}
use Rattle.table_file.proofs.bodies.judge_count.Goals as goal
use Rattle.table_file.proofs.bodies.judge_count.Goals.{then-last, else-last}

pub returns-then-bytes-place-clause-cause : goal.returns-then-bytes-place-clause-cause
returns-then-bytes-place-clause-cause g c =
    count_cut c.args.kind g.row.D c.args.bytes.now c.args.number c.args.place c.requires.next (omega (arith, c.if-bytes-place.true))

pub returns-then-right-clause-right : goal.returns-then-right-clause-right
returns-then-right-clause-right g c =
    let bytes = c.args.bytes.now in
    let n = c.args.number in
    let count : c.u32_at-count.result ≡ count_at bytes g.row.D n = c.u32_at-count.ensures ∙ ap (λ p. number_at w32 bytes p) (sym c.requires.next.at) in
    let right : is_count_right bytes g.row.D n ≡ c.if-last.right = elim c.if-last.branch [
      | then-last w ↦
          last_count_test bytes g.row.D n c.u32_at-count.result (w.if-last.true ∙ c.requires.records) count ∙ sym w.is_filled-right.ensures ∙ sym w.right-is
      | else-last w ↦
          inner_count_test bytes g.row.D n c.u32_at-count.result c.args.place w.u64_at.result (λ e. w.if-last.false (e ∙ sym c.requires.records)) count
          c.requires.next.offset w.u64_at.ensures
          ∙ sym w.right-is
    ] in
    right_count c.args.kind g.row.D bytes n c.args.place c.requires.next (omega (arith, c.if-bytes-place.false)) (right ∙ c.if-right.true)

pub returns-else-right-clause-cause : goal.returns-else-right-clause-cause
returns-else-right-clause-cause g c =
    let bytes = c.args.bytes.now in
    let n = c.args.number in
    let count : c.u32_at-count.result ≡ count_at bytes g.row.D n = c.u32_at-count.ensures ∙ ap (λ p. number_at w32 bytes p) (sym c.requires.next.at) in
    let right : is_count_right bytes g.row.D n ≡ c.if-last.right = elim c.if-last.branch [
      | then-last w ↦
          last_count_test bytes g.row.D n c.u32_at-count.result (w.if-last.true ∙ c.requires.records) count ∙ sym w.is_filled-right.ensures ∙ sym w.right-is
      | else-last w ↦
          inner_count_test bytes g.row.D n c.u32_at-count.result c.args.place w.u64_at.result (λ e. w.if-last.false (e ∙ sym c.requires.records)) count
          c.requires.next.offset w.u64_at.ensures
          ∙ sym w.right-is
    ] in
    count_wrong c.args.kind g.row.D bytes n c.args.place c.requires.next (omega (arith, c.if-bytes-place.false)) (right ∙ c.if-right.false)

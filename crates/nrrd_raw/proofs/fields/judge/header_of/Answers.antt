use Rattle.std.proofs.Common.{◌≡◌, ◌∙◌, ℕ, ◌+◌, ◌-◌, ◌<◌, length, sym, subst, arith}
use Rattle.std.proofs.lemmas.Bool.Decides.{nat_tests}
use Rattle.std.proofs.lemmas.Result.{err_from_is_err_and}
use Rattle.nrrd_raw.proofs.JudgeLaws.{ReadingOf, reading-begin, reading-more, reading-fault, reading-all, reading-ended, reading-done}
use Rattle.nrrd_raw.proofs.JudgeLaws.{answers-spelled, answers-cause, form_cause}
use Rattle.nrrd_raw.proofs.fields.judge.header_of.Goals as goal
use Rattle.nrrd_raw.proofs.fields.judge.header_of.Goals.{else-lines-test, then-lines-test+then-is_empty}

pub lines-init : goal.lines-init
lines-init c = record {
  behind = omega arith;
  bound = omega (arith, c.line_at-at.ensures.later);
  within = c.line_at-at.ensures.within;
  read = λ texts p f. reading-begin c.args.bytes.now texts p c.line_at-at.result.0.now c.line_at-at.result.1 c.none-stated.result f
      (record { text_is = c.line_at-at.ensures.text; next_is = c.line_at-at.ensures.next }) c.none-stated.ensures;
}

pub returns-in_err-stated-clause-cause : goal.returns-in_err-stated-clause-cause
returns-in_err-stated-clause-cause c =
    let text = c.line_at-next.result.0.now in
    let some : 0 < length text = grind (arith, nat_tests) in
    let n = c.lines.number - 1 in
    let e : c.lines.number ≡ n + 1 = omega (arith, c.lines.invariant.behind) in
    let h = c.in_err-stated.ensures in
    let k = form_cause c.in_err-stated.field-0.0 h.causes h.form in
    let p = err_from_is_err_and c.from_residual.result c.from_residual.ensures.1 in
    rw (p.1, p.2) (λ texts q f. reading-fault c.args.bytes.now texts q c.lines.at n c.lines.stated (c.lines.invariant.read texts q f) text
    c.line_at-next.result.1
    (record { text_is = c.line_at-next.ensures.text; next_is = c.line_at-next.ensures.next }) c.lines.number c.in_err-stated.field-0.0 k.0 some
    (omega (arith, c.lines.invariant.behind)) e h.cause k.1 ∙ sym k.1)

pub lines-preserved : goal.lines-preserved
lines-preserved c =
    let text = c.line_at-next.result.0.now in
    let some : 0 < length text = grind (arith, nat_tests) in
    let n = c.lines.number - 1 in
    let e : c.lines.number ≡ n + 1 = omega (arith, c.lines.invariant.behind) in
    let next : n + 1 ≡ c.lines.number + 1 - 1 = omega (arith, c.lines.invariant.behind) in
    record {
      behind = omega (arith, c.lines.invariant.behind);
      bound = omega (arith, c.lines.invariant.bound, c.line_at-next.ensures.later);
      within = c.line_at-next.ensures.within;
      read = λ texts p f. subst (λ (k : ℕ). ReadingOf texts p.lines c.args.bytes.now c.line_at-next.result.1 k c.in_ok-stated.stated) next
          (reading-more c.args.bytes.now texts p c.lines.at n c.lines.stated (c.lines.invariant.read texts p f) text c.line_at-next.result.1
          (record { text_is = c.line_at-next.ensures.text; next_is = c.line_at-next.ensures.next }) c.lines.number c.in_ok-stated.stated some e
          c.in_ok-stated.ensures.kept);
    }

pub returns-clause-spelled : goal.returns-clause-spelled
returns-clause-spelled c = answers-spelled c.header.result c.args.bytes.now c.lines.stated
    (λ texts p f. let r = c.lines.invariant.read texts p f in elim c.lines-test.branch [
      | else-lines-test w ↦ absurd (reading-ended c.args.bytes.now texts p c.lines.at (c.lines.number - 1) c.lines.stated r (omega (arith, w.lines-test.false)))
      | then-lines-test+then-is_empty w ↦
          (let none : length w.line_at-next.result.0.now ≡ 0 = grind (arith, nat_tests) in
          reading-done texts p.lines c.args.bytes.now c.lines.at (c.lines.number - 1) c.lines.stated r
          (reading-all c.args.bytes.now texts p c.lines.at (c.lines.number - 1) c.lines.stated r w.line_at-next.result.0.now w.line_at-next.result.1
          (record { text_is = w.line_at-next.ensures.text; next_is = w.line_at-next.ensures.next }) none))
    ])
    c.header.ensures.whole c.header.ensures.spelled

pub returns-clause-cause : goal.returns-clause-cause
returns-clause-cause c = answers-cause c.header.result c.args.bytes.now c.lines.stated
    (λ texts p f. let r = c.lines.invariant.read texts p f in elim c.lines-test.branch [
      | else-lines-test w ↦ absurd (reading-ended c.args.bytes.now texts p c.lines.at (c.lines.number - 1) c.lines.stated r (omega (arith, w.lines-test.false)))
      | then-lines-test+then-is_empty w ↦
          (let none : length w.line_at-next.result.0.now ≡ 0 = grind (arith, nat_tests) in
          reading-done texts p.lines c.args.bytes.now c.lines.at (c.lines.number - 1) c.lines.stated r
          (reading-all c.args.bytes.now texts p c.lines.at (c.lines.number - 1) c.lines.stated r w.line_at-next.result.0.now w.line_at-next.result.1
          (record { text_is = w.line_at-next.ensures.text; next_is = w.line_at-next.ensures.next }) none))
    ])
    c.header.ensures.cause

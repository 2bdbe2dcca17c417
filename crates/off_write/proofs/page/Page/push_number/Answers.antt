use Rattle.std.proofs.Common.{◌≡◌, length, arith, length-append}
use Rattle.std.proofs.lemmas.Fmt.{length-decimal-le}
use Rattle.std.proofs.lemmas.List.{length-take-le}
use Rattle.off_write.proofs.Texts.{after_digits}
use Rattle.off_write.proofs.page.Page.push_number.Goals as goal

pub overflow_add-end : goal.overflow_add-end
overflow_add-end c =
    let short = length-decimal-le 20 c.args.number (omega arith) (omega arith) (omega arith) in
    omega arith

pub write_digits-requires : goal.write_digits-requires
write_digits-requires c =
    let short = length-decimal-le 20 c.args.number (omega arith) (omega arith) (omega arith) in
    let filled : length c.args.self.now ≡ c.self.inside.filled =
    rw (← c.self.view_is) (length-take-le c.self.inside.filled c.self.inside.bytes (omega arith)) in
    (omega arith, omega arith)

pub returns-clause-text : goal.returns-clause-text
returns-clause-text c =
    let here : c.write_digits.result ≡ c.self.inside.filled = omega arith in
    rw (c.digit_count.ensures, ← c.self.view_is) (after_digits _ _ _ _ _ (rw here at c.write_digits.ensures.written) (rw here at c.write_digits.ensures.before))

pub returns-clause-short : goal.returns-clause-short
returns-clause-short c =
    let short = length-decimal-le 20 c.args.number (omega arith) (omega arith) (omega arith) in
    rw (returns-clause-text c, length-append) (omega arith)

use Rattle.std.proofs.Common.{◌≡◌, ◌+◌, true, false, slice_index, arith, rules, sym}
use Rattle.std.specs.Char.{is_ascii_digit, digit_value}
use Rattle.std.proofs.lemmas.Str.{digit_value_digit}
use Rattle.nrrd_raw.proofs.NumeralLaws.{digits-stop, digits-more, numeral-none, value-more}
use Rattle.nrrd_raw.proofs.fields.numerals.numeral_within.Goals as goal

pub returns-then-not-is_ascii_digit-clause-value :
    goal.returns-then-not-is_ascii_digit-clause-value
returns-then-not-is_ascii_digit-clause-value c =
    let d : is_ascii_digit (slice_index c.args.text.now c.loop-at.at) ≡ false = search rules in
    numeral-none c.args.low c.args.high c.args.text.now (digits-stop c.args.text.now c.loop-at.at c.loop-at-test.true d)

pub loop-at-preserved : goal.loop-at-preserved
loop-at-preserved c =
    let d : is_ascii_digit (slice_index c.args.text.now c.loop-at.at) ≡ true = sym c.if-not-is_ascii_digit.ensures.value in
    let v = digit_value_digit (slice_index c.args.text.now c.loop-at.at) c.if-not-is_ascii_digit.ensures.cases in
    let digit : digit_value (slice_index c.args.text.now c.loop-at.at) ≡ c.from.result = omega (arith, v, c.from.ensures) in
    record {
      digits = digits-more c.args.text.now c.loop-at.at c.loop-at-test.true c.loop-at.invariant.digits d;
      value =
          value-more c.args.text.now c.loop-at.at c.loop-at.value c.from.result (c.args.high + 1) c.min-value.result c.loop-at-test.true
          c.loop-at.invariant.value digit c.min-value.ensures;
    }

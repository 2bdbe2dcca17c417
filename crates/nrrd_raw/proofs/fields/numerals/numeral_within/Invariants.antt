use Rattle.std.proofs.Common.{◌≡◌, ◌+◌, true, take, min}
use Rattle.std.specs.Str.{all_ascii_digits}
use Rattle.std.specs.Str.Parse.{digits_value}
use Rattle.nrrd_raw.proofs.fields.numerals.numeral_within.Given as goal

abbrev pub invariant-loop-at : goal.invariant-loop-at
invariant-loop-at l = record {
  digits : all_ascii_digits (take l.at l.text) ≡ true;
  value : l.value ≡ min (digits_value 10 (take l.at l.text)) (l.high + 1);
}

use Rattle.std.proofs.Common.{FitsSigned, sym, subst, w64}
use Rattle.std.specs.Prelude.{ℤ}
use Rattle.iso_words.proofs.NumberLemmas.{is_number-IsNumeral}
use Rattle.iso_words.proofs.values.number.Goals as goal

pub returns-in-Err : goal.returns-in-Err
returns-in-Err c = λ n fits h. c.in-Err.ensures.value.0 (is_number-IsNumeral c.args.value.now h.0, subst (λ (z : ℤ). FitsSigned w64 z) (sym h.1) fits)

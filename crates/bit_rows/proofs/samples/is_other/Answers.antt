use Rattle.std.proofs.Common.{ap, rules, sym, ◌∙◌, ◌≡◌, ℤ, w64, to_z, of_z, FitsSigned}
use Rattle.std.specs.Prelude.{not, ◌==◌}
use Rattle.std.proofs.lemmas.Int.{to_z-of_z}
use Rattle.iso_model.specs.Turns.{same_int}
use Rattle.iso_model.proofs.PointLaws.{same_int-is, is-same_int}
use Rattle.lists.proofs.Tests.{same_tests, equal_of, of_equal}
use Rattle.bit_rows.proofs.samples.is_other.Goals as goal

same_code : (a b : ℤ) → FitsSigned w64 a → FitsSigned w64 b → (of_z w64 a == of_z w64 b) ≡ same_int b a
same_code a b fits others = same_tests (of_z w64 a == of_z w64 b) (same_int b a)
    (λ e. is-same_int b a (sym (to_z-of_z w64 b others) ∙ ap (to_z w64) (sym (equal_of (of_z w64 a) (of_z w64 b) e)) ∙ to_z-of_z w64 a fits))
    (λ e. of_equal (of_z w64 a) (of_z w64 b) (ap (of_z w64) (sym (same_int-is b a e))))

pub returns : goal.returns
returns c =
    let sample : FitsSigned w64 c.args.sample = search rules in
    let value : FitsSigned w64 c.args.value = search rules in
    ap not (same_code c.args.sample c.args.value sample value)

use Rattle.std.proofs.Common.{ap, arith, ◌∙◌, ◌+◌, ℤ, ◌+ℤ◌, FitsSigned, w64, to_z, of_z}
use Rattle.std.proofs.lemmas.Int.{fits_signed_from_abs, to_z-of_z}
use Rattle.iso_model.specs.Turns.{total}
use Rattle.iso_model.specs.Values.{is_positive}
use Rattle.layer_scan.specs.Centres.{four_samples}
use Rattle.layer_scan.proofs.CentreSums.{sum_of_two}
use Rattle.layer_scan.proofs.centres.CentreRow.is_above.Goals as goal

pub returns : goal.returns
returns c =
    let p : ℤ = c.square_sum-lower.result in
    let q : ℤ = c.square_sum-upper.result in
    let iso : ℤ = c.args.self.now.iso in
    let fits : FitsSigned w64 iso = fits_signed_from_abs w64 iso (omega (arith, c.requires.sound.3)) in
    let sum = sum_of_two p q c.square_sum-lower.ensures.small c.square_sum-upper.ensures.small in
    c.is_positive.ensures ∙ ap (λ (z : ℤ). is_positive z (to_z w64 (of_z w64 (to_z w64 (of_z w64 p) +ℤ to_z w64 (of_z w64 q))))) (to_z-of_z w64 iso fits)
    ∙ ap (is_positive iso) (sum ∙ ap (λ (z : ℤ). z +ℤ q) c.square_sum-lower.ensures.sum
    ∙ ap (λ (z : ℤ). total (four_samples c.args.self.now.lower.now (c.args.self.now.near + c.args.x) (c.args.self.now.far + c.args.x)) +ℤ z)
    c.square_sum-upper.ensures.sum)

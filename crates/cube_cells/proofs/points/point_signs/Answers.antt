use Rattle.std.proofs.Common.{ℕ, ◌^◌, ◌<◌, length, ℤ, w64, to_z, of_z, int_le, FitsSigned, subst, arith, ◌∙◌, ap}
use Rattle.std.proofs.lemmas.Int.{to_z-of_z, fits_signed_from_abs}
use Rattle.iso_model.specs.Values.{is_positive}
use Rattle.cube_cells.specs.CubePoints.{corner_sample}
use Rattle.cube_cells.proofs.SignBits.{bit_is_set, few_bits, low_bit, top_bit}
use Rattle.cube_cells.proofs.points.point_signs.Goals as goal

pub returns-then-steps-ne8-clause-corners : goal.returns-then-steps-ne8-clause-corners
returns-then-steps-ne8-clause-corners c = λ k h.
    bit_is_set (λ j. int_le (to_z w64 (of_z w64 c.args.iso)) (corner_sample c.args.samples.now c.args.steps.now c.args.first j))
    (length c.args.steps.now) c.corner_signs-signs.result k c.corner_signs-signs.ensures h
    ∙ ap (λ (z : ℤ). int_le z (corner_sample c.args.samples.now c.args.steps.now c.args.first k)) (to_z-of_z w64 c.args.iso c.ranges.iso)

pub with_bit-requires-clause-below : goal.with_bit-requires-clause-below
with_bit-requires-clause-below c =
    subst (λ (n : ℕ). c.corner_signs-signs.result < 2 ^ n) c.if-steps-ne8.false
    (few_bits (λ j. int_le (to_z w64 (of_z w64 c.args.iso)) (corner_sample c.args.samples.now c.args.steps.now c.args.first j))
    (length c.args.steps.now) c.corner_signs-signs.result c.corner_signs-signs.ensures)

pub returns-clause-corners : goal.returns-clause-corners
returns-clause-corners c = λ k h.
    low_bit 8 c.corner_signs-signs.result c.with_bit.result k c.is_positive.result c.with_bit.ensures (omega (arith, h, c.if-steps-ne8.false))
    ∙ bit_is_set (λ j. int_le (to_z w64 (of_z w64 c.args.iso)) (corner_sample c.args.samples.now c.args.steps.now c.args.first j))
    (length c.args.steps.now) c.corner_signs-signs.result k c.corner_signs-signs.ensures h
    ∙ ap (λ (z : ℤ). int_le z (corner_sample c.args.samples.now c.args.steps.now c.args.first k)) (to_z-of_z w64 c.args.iso c.ranges.iso)

pub returns-clause-centre : goal.returns-clause-centre
returns-clause-centre c = λ eight.
    let few : c.corner_signs-signs.result < 2 ^ 8 =
    subst (λ (n : ℕ). c.corner_signs-signs.result < 2 ^ n) eight
    (few_bits (λ j. int_le (to_z w64 (of_z w64 c.args.iso)) (corner_sample c.args.samples.now c.args.steps.now c.args.first j))
    (length c.args.steps.now) c.corner_signs-signs.result c.corner_signs-signs.ensures) in
    let fits : FitsSigned w64 c.corner_sum.result = fits_signed_from_abs w64 c.corner_sum.result (omega (arith, c.corner_sum.ensures.small)) in
    top_bit 8 c.corner_signs-signs.result c.with_bit.result c.is_positive.result few c.with_bit.ensures ∙ c.is_positive.ensures
    ∙ ap (λ (z : ℤ). is_positive z (to_z w64 (of_z w64 c.corner_sum.result))) (to_z-of_z w64 c.args.iso c.ranges.iso)
    ∙ ap (is_positive c.args.iso) (to_z-of_z w64 c.corner_sum.result fits ∙ c.corner_sum.ensures.sum)

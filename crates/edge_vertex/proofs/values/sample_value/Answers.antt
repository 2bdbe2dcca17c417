use Rattle.std.proofs.Common.{ℤ, pos, ◌*ℤ◌, w64, FitsSigned, arith, ◌∙◌, ap, sym}
use Rattle.std.proofs.lemmas.Int.{to_z-of_z, fits_signed_from_abs, unsigned_abs-mul}
use Rattle.edge_vertex.proofs.CubeTotals.{sample_value}
use Rattle.edge_vertex.proofs.values.sample_value.Goals as goal

pub returns-clause-value : goal.returns-clause-value
returns-clause-value g c =
    let fits : FitsSigned w64 c.sample.result = fits_signed_from_abs w64 c.sample.result (omega (arith, c.sample.ensures.small)) in
    let eight : FitsSigned w64 (pos 8 *ℤ c.sample.result) =
    fits_signed_from_abs w64 (pos 8 *ℤ c.sample.result) (omega (arith, unsigned_abs-mul (pos 8) c.sample.result, c.sample.ensures.small)) in
    rw (to_z-of_z w64 c.sample.result fits, to_z-of_z w64 (pos 8 *ℤ c.sample.result) eight)
    (ap (λ (z : ℤ). pos 8 *ℤ z) c.sample.ensures.sample
    ∙ sym (sample_value c.args.sizes.now c.args.samples.now c.args.point.now c.place_of.result c.requires.point c.place_of.ensures.place))

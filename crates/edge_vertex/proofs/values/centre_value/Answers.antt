use Rattle.std.proofs.Common.{w64, FitsSigned, arith, ◌∙◌, sym}
use Rattle.std.proofs.lemmas.Int.{to_z-of_z, fits_signed_from_abs}
use Rattle.edge_vertex.proofs.CubeTotals.{centre_value, centre_inside}
use Rattle.edge_vertex.proofs.values.centre_value.Goals as goal

pub cube_sum-requires-clause-inside : goal.cube_sum-requires-clause-inside
cube_sum-requires-clause-inside g c =
    omega (arith, centre_inside c.args.sizes.now c.args.point.now c.place_of-first.result c.requires.point c.place_of-first.ensures.place, c.requires.there)

pub returns-clause-value : goal.returns-clause-value
returns-clause-value g c =
    let fits : FitsSigned w64 c.cube_sum.result = fits_signed_from_abs w64 c.cube_sum.result (omega (arith, c.cube_sum.ensures.small)) in
    rw (to_z-of_z w64 c.cube_sum.result fits)
    (c.cube_sum.ensures.sum
    ∙ sym
    (centre_value c.args.sizes.now c.args.samples.now c.args.point.now c.place_of-first.result c.requires.point
    c.place_of-first.ensures.place))

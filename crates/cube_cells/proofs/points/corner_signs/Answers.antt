use Rattle.std.proofs.Common.{ℕ, ◌+◌, ◌≤◌, ◌^◌, ℤ, pos, w64, to_z, of_z, int_le, slice_index_or, FitsSigned, arith, ap}
use Rattle.std.specs.Prelude.{unsigned_abs}
use Rattle.std.proofs.lemmas.Int.{to_z-of_z, fits_signed_from_abs}
use Rattle.cube_cells.specs.CubePoints.{corner_sample}
use Rattle.cube_cells.proofs.SignBits.{next_bit, few_bits}
use Rattle.cube_cells.proofs.Samples.{small_sample}
use Rattle.cube_cells.proofs.points.corner_signs.Goals as goal

pub with_bit-signs-requires-clause-below : goal.with_bit-signs-requires-clause-below
with_bit-signs-requires-clause-below c =
    few_bits (λ k. int_le (to_z w64 (of_z w64 c.args.iso)) (corner_sample c.args.samples.now c.args.steps.now c.args.first k)) c.loop-corner.corner
    c.loop-corner.signs c.loop-corner.invariant

pub loop-corner-preserved : goal.loop-corner-preserved
loop-corner-preserved c =
    let iso : ℤ = to_z w64 (of_z w64 c.args.iso) in
    let at : ℕ = c.args.first + slice_index_or c.args.steps.now c.loop-corner.corner 0 in
    let s : ℤ = slice_index_or c.args.samples.now at (pos 0) in
    let small : unsigned_abs s ≤ 2 ^ 32 =
    small_sample c.args.samples.now at c.requires.small (c.requires.inside c.loop-corner.corner c.loop-corner-test.true) in
    let fits : FitsSigned w64 s = fits_signed_from_abs w64 s (omega (arith, small)) in
    next_bit (λ k. int_le iso (corner_sample c.args.samples.now c.args.steps.now c.args.first k)) c.loop-corner.corner c.loop-corner.signs
    c.with_bit-signs.result (int_le iso (to_z w64 (of_z w64 s))) c.loop-corner.invariant
    (ap (int_le iso) (to_z-of_z w64 s fits)) c.with_bit-signs.ensures

use Rattle.std.proofs.Common.{ℕ, ◌+◌, ◌≤◌, ◌^◌, ℤ, pos, ◌+ℤ◌, slice_index_or, w64, to_z, FitsSigned, arith}
use Rattle.std.specs.Prelude.{unsigned_abs}
use Rattle.std.proofs.lemmas.Int.{to_z-of_z, fits_signed_from_abs}
use Rattle.cube_cells.proofs.Samples.{sum_is, sum_small, small_sample}
use Rattle.cube_cells.proofs.points.corner_sum.Goals as goal

pub loop-step-preserved : goal.loop-step-preserved
loop-step-preserved c =
    let at : ℕ = c.args.first + slice_index_or c.args.steps.now c.loop-step.step-index 0 in
    let s : ℤ = slice_index_or c.args.samples.now at (pos 0) in
    let small : unsigned_abs s ≤ 2 ^ 32 =
    small_sample c.args.samples.now at c.requires.small (c.requires.inside c.loop-step.step-index c.loop-step-test.true) in
    let one : FitsSigned w64 s = fits_signed_from_abs w64 s (omega (arith, small)) in
    let sum : ℤ = to_z w64 c.loop-step.sum-bits in
    let next = sum_small sum s c.loop-step.step-index c.loop-step.invariant.1 small in
    let fits : FitsSigned w64 (sum +ℤ s) = fits_signed_from_abs w64 (sum +ℤ s) (omega (arith, next, c.loop-step-test.true, c.requires.corners)) in
    rw (to_z-of_z w64 s one, to_z-of_z w64 (sum +ℤ s) fits)
    (sum_is c.args.samples.now c.args.steps.now c.args.first c.loop-step.step-index sum c.loop-step-test.true c.loop-step.invariant.0, next)

use Rattle.std.proofs.Common.{ℕ, Bool, slice_index_or, refl}
use Rattle.std.specs.Prelude.{◌==◌}
use Rattle.cube_cells.proofs.SignBits.{next_bit, few_bits}
use Rattle.cube_cells.proofs.points.point_number.Goals as goal

pub with_bit-number-requires-clause-below : goal.with_bit-number-requires-clause-below
with_bit-number-requires-clause-below g c = few_bits (λ i. slice_index_or c.args.offset.now i 0 == 2) c.loop-axis.axis c.loop-axis.number c.loop-axis.invariant

pub loop-axis-preserved : goal.loop-axis-preserved
loop-axis-preserved g c =
    let F : ℕ → Bool = λ i. slice_index_or c.args.offset.now i 0 == 2 in
    next_bit F c.loop-axis.axis c.loop-axis.number c.with_bit-number.result (F c.loop-axis.axis) c.loop-axis.invariant refl c.with_bit-number.ensures

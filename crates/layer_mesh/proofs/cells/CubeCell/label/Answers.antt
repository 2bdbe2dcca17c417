use Rattle.std.proofs.Common.{◌≡◌, ℕ, ◌==◌, ◌^◌, ◌<◌, Bool, slice_index, subst, arith, ap, ◌∙◌}
use Rattle.lists.specs.Bits.{is_set}
use Rattle.cube_cells.specs.CubePoints.{set_of}
use Rattle.cube_cells.proofs.SignBits.{few_bits, next_bit}
use Rattle.layer_mesh.proofs.cells.CubeCell.label.Goals as goal

pub with_bit-label-requires-clause-below : goal.with_bit-label-requires-clause-below
with_bit-label-requires-clause-below c =
    few_bits (λ k. is_set c.args.signs (slice_index c.args.self.now.points k)) c.loop-corner.corner c.loop-corner.label c.loop-corner.invariant

pub loop-corner-preserved : goal.loop-corner-preserved
loop-corner-preserved c =
    let F : ℕ → Bool = λ k. is_set c.args.signs (slice_index c.args.self.now.points k) in
    next_bit F c.loop-corner.corner c.loop-corner.label c.with_bit-label.result (c.bit-positive.result == 1) c.loop-corner.invariant
    (ap (λ n. n == 1) c.bit-positive.ensures ∙ (λ i. is_set (c.from.ensures i) (c.from-in-loop-corner.ensures i))) c.with_bit-label.ensures

pub returns : goal.returns
returns c =
    let F : ℕ → Bool = λ k. is_set c.args.signs (slice_index c.args.self.now.points k) in
    let all : c.loop-corner.corner ≡ c.args.self.now.corners = omega (arith, c.loop-corner-test.false, c.loop-corner.auto.corner-end) in record {
      label = c.loop-corner.invariant ∙ ap (set_of F) all;
      few = subst (λ n. c.loop-corner.label < 2 ^ n) all (few_bits F c.loop-corner.corner c.loop-corner.label c.loop-corner.invariant);
    }

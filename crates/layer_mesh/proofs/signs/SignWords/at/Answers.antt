use Rattle.std.proofs.Common.{◌≡◌, ℕ, ◌==◌, Bool, slice_index, arith, ap, ◌∙◌}
use Rattle.lists.specs.Bits.{is_set}
use Rattle.cube_cells.specs.CubePoints.{set_of}
use Rattle.cube_cells.proofs.SignBits.{few_bits, next_bit}
use Rattle.layer_mesh.proofs.signs.SignWords.at.Goals as goal

pub with_bit-signs-requires-clause-below : goal.with_bit-signs-requires-clause-below
with_bit-signs-requires-clause-below c =
    few_bits (λ k. is_set (slice_index c.args.self.now.words k) c.args.place) c.loop-point.point c.loop-point.signs c.loop-point.invariant

pub loop-point-preserved : goal.loop-point-preserved
loop-point-preserved c =
    let F : ℕ → Bool = λ k. is_set (slice_index c.args.self.now.words k) c.args.place in
    next_bit F c.loop-point.point c.loop-point.signs c.with_bit-signs.result (c.bit.result == 1) c.loop-point.invariant
    (ap (λ n. n == 1) c.bit.ensures) c.with_bit-signs.ensures

pub returns : goal.returns
returns c =
    let F : ℕ → Bool = λ k. is_set (slice_index c.args.self.now.words k) c.args.place in
    let all : c.loop-point.point ≡ c.args.self.now.count = omega (arith, c.loop-point-test.false, c.loop-point.auto.point-end) in
    c.loop-point.invariant ∙ ap (set_of F) all

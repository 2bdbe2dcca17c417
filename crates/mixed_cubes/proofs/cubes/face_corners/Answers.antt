use Rattle.std.proofs.Common.{◌≡◌, ◌*◌, ◌∷◌, ◌≤◌, ℕ, ap, arith, length}
use Rattle.std.proofs.Math.Nat.{mul-le-mul_left}
use Rattle.iso_model.specs.Values.{product}
use Rattle.grid_split.proofs.CubeNumbers.{put_length, put_next}
use Rattle.mixed_cubes.specs.CubeFaces.{corner_number as corner_number_of}
use Rattle.mixed_cubes.proofs.AxisSteps.{parts}
use Rattle.mixed_cubes.proofs.cubes.face_corners.Goals as goal

pub corner_number-requires-clause-few : goal.corner_number-requires-clause-few
corner_number-requires-clause-few c = let p = parts c.args.size c.args.others.now c.requires.sized in omega (arith, p.below, c.requires.few)

few : (n m l p q : ℕ) → m ≤ l * p → l ≤ 3 → q ≡ n * p → q ≤ 134217728 → n * m ≤ 402653184
few n m l p q h a whole b =
    let more : n * m ≤ n * (l * p) = mul-le-mul_left n h in
    let three : (n * p) * l ≤ (n * p) * 3 = mul-le-mul_left (n * p) a in
    omega (arith, more, three, whole, b)

pub overflow_mul-steps : goal.overflow_mul-steps
overflow_mul-steps c =
    let p = parts c.args.size c.args.others.now c.requires.sized in
    omega (
      arith,
      few c.args.size c.corner_number.result (length c.args.others.now) (product c.args.others.now) (product (c.args.size ∷ c.args.others.now))
          c.corner_number.ensures.below c.requires.axes p.whole c.requires.few,
    )

pub loop-corner-preserved : goal.loop-corner-preserved
loop-corner-preserved c = (
  put_length c.loop-corner.steps c.loop-corner.corner 8 (c.args.size * c.corner_number.result) c.loop-corner.invariant.0,
  put_next (λ k. c.args.size * corner_number_of c.args.others.now k) c.loop-corner.steps c.loop-corner.corner 8 (c.args.size * c.corner_number.result)
      c.loop-corner.invariant.0 c.loop-corner-test.true c.loop-corner.invariant.1
      (ap (λ (m : ℕ). c.args.size * m) c.corner_number.ensures.number),
)

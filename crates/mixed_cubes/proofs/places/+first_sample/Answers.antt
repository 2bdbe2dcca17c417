use Rattle.std.proofs.Common.{rules, ◌+◌, ◌*◌, ◌-◌, ◌%◌, ◌<◌, ℕ, arith}
use Rattle.std.specs.Prelude.{slice_index}
use Rattle.iso_model.specs.Values.{product}
use Rattle.mixed_cubes.proofs.AxisSteps.{rest, Parts, parts_of, product_is, OneAxis, one_axis}
use Rattle.lists.proofs.Tests.{next_below}
use Rattle.mixed_cubes.proofs.places.+first_sample.Goals as goal

pub first_sample-requires : goal.first_sample-requires
first_sample-requires t c =
    let p : Parts (slice_index c.args.sizes.now 0) (rest c.args.sizes.now) = parts_of c.args.sizes.now c.in-len1-up.len_at_least c.requires.sized in
    let o : OneAxis (slice_index c.args.sizes.now 0) (rest c.args.sizes.now) c.args.cube =
    one_axis c.args.sizes.now c.args.cube c.in-len1-up.len_at_least c.requires.inside in
    (search rules, (o.inside, (p.sized, omega (arith, p.below, p.whole, product_is c.args.sizes.now c.in-len1-up.len_at_least, c.requires.few))))

below : (n cube m p : ℕ) → 0 < n - 1 → m < p → cube % (n - 1) + n * m < n * p
below n cube m p some h = let less : cube % (n - 1) < n - 1 = omega (arith, some) in next_below (cube % (n - 1)) n m p (omega (arith, less)) h

pub overflow_mul-result : goal.overflow_mul-result
overflow_mul-result t c =
    let o : OneAxis (slice_index c.args.sizes.now 0) (rest c.args.sizes.now) c.args.cube =
    one_axis c.args.sizes.now c.args.cube c.in-len1-up.len_at_least c.requires.inside in
    let few = below (slice_index c.args.sizes.now 0) c.args.cube c.first_sample.result (product (rest c.args.sizes.now)) o.span c.first_sample.ensures.below in
    omega (arith, few, product_is c.args.sizes.now c.in-len1-up.len_at_least, c.requires.few)

pub overflow_add-result : goal.overflow_add-result
overflow_add-result t c =
    let o : OneAxis (slice_index c.args.sizes.now 0) (rest c.args.sizes.now) c.args.cube =
    one_axis c.args.sizes.now c.args.cube c.in-len1-up.len_at_least c.requires.inside in
    let few = below (slice_index c.args.sizes.now 0) c.args.cube c.first_sample.result (product (rest c.args.sizes.now)) o.span c.first_sample.ensures.below in
    omega (arith, few, product_is c.args.sizes.now c.in-len1-up.len_at_least, c.requires.few)

pub returns-in-len1-up-clause-below : goal.returns-in-len1-up-clause-below
returns-in-len1-up-clause-below t c =
    let o : OneAxis (slice_index c.args.sizes.now 0) (rest c.args.sizes.now) c.args.cube =
    one_axis c.args.sizes.now c.args.cube c.in-len1-up.len_at_least c.requires.inside in
    let few = below (slice_index c.args.sizes.now 0) c.args.cube c.first_sample.result (product (rest c.args.sizes.now)) o.span c.first_sample.ensures.below in
    omega (arith, few, product_is c.args.sizes.now c.in-len1-up.len_at_least)

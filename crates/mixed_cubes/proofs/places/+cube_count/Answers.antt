use Rattle.std.proofs.Common.{rules, ◌*◌, ◌-◌, ◌≤◌, ◌≡◌, arith}
use Rattle.std.specs.Prelude.{slice_index}
use Rattle.iso_model.specs.Values.{product}
use Rattle.mixed_cubes.proofs.AxisSteps.{rest, Parts, parts_of, product_is, cubes_below}
use Rattle.mixed_cubes.proofs.places.+cube_count.Goals as goal

pub cube_count-requires : goal.cube_count-requires
cube_count-requires t c =
    let p : Parts (slice_index c.args.sizes.now 0) (rest c.args.sizes.now) = parts_of c.args.sizes.now c.in-len1-up.len_at_least c.requires.sized in
    (search rules, (p.sized, omega (arith, p.below, p.whole, product_is c.args.sizes.now c.in-len1-up.len_at_least, c.requires.few)))

pub overflow_mul-result : goal.overflow_mul-result
overflow_mul-result t c =
    let few : (slice_index c.args.sizes.now 0 - 1) * c.cube_count.result ≤ slice_index c.args.sizes.now 0 * product (rest c.args.sizes.now) =
    cubes_below (slice_index c.args.sizes.now 0) c.cube_count.result (product (rest c.args.sizes.now)) c.cube_count.ensures.below in
    let whole : product c.args.sizes.now ≡ slice_index c.args.sizes.now 0 * product (rest c.args.sizes.now) =
    product_is c.args.sizes.now c.in-len1-up.len_at_least in
    omega (arith, few, whole, c.requires.few)

pub returns-in-len1-up-clause-below : goal.returns-in-len1-up-clause-below
returns-in-len1-up-clause-below t c =
    let few : (slice_index c.args.sizes.now 0 - 1) * c.cube_count.result ≤ slice_index c.args.sizes.now 0 * product (rest c.args.sizes.now) =
    cubes_below (slice_index c.args.sizes.now 0) c.cube_count.result (product (rest c.args.sizes.now)) c.cube_count.ensures.below in
    let whole : product c.args.sizes.now ≡ slice_index c.args.sizes.now 0 * product (rest c.args.sizes.now) =
    product_is c.args.sizes.now c.in-len1-up.len_at_least in
    omega (arith, few, whole)

use Rattle.std.proofs.Common.{arith, rules, slice_index_or, ◌*◌, ◌+◌, ◌-◌, ◌/◌, ◌<◌, ◌≤◌, ◌^◌}
use Rattle.layer_scan.proofs.CubePlaces.{digits_drop_most, next_digits}
use Rattle.layer_scan.proofs.cubes.digits.Goals as goal

pub overflow_mul-number : goal.overflow_mul-number
overflow_mul-number g c =
    let most = next_digits c.args.base g.row.D c.loop-back.back c.loop-back.number c.args.middle.now c.told-middle c.requires.axes c.requires.base
    c.requires.small (omega (arith, c.loop-back-test.true)) c.loop-back.invariant in
    let small : c.args.base * c.loop-back.number < 2 ^ 8 = omega (arith, most) in
    search rules

pub overflow_add-number : goal.overflow_add-number
overflow_add-number g c =
    let most = next_digits c.args.base g.row.D c.loop-back.back c.loop-back.number c.args.middle.now c.told-middle c.requires.axes c.requires.base
    c.requires.small (omega (arith, c.loop-back-test.true)) c.loop-back.invariant in
    let small : slice_index_or c.args.middle.now (g.row.D - 1 - c.loop-back.back) 0 / 2 + c.args.base * c.loop-back.number < 2 ^ 8 = omega (arith, most) in
    search rules

pub returns-clause-within : goal.returns-clause-within
returns-clause-within g c =
    let most = digits_drop_most 3 c.args.base (g.row.D - c.loop-back.back) c.args.middle.now c.requires.base c.requires.small
    (omega (arith, c.told-middle, c.requires.axes)) in
    omega (arith, most, c.loop-back.invariant)

pub returns-clause-small : goal.returns-clause-small
returns-clause-small g c = λ two.
    let most = digits_drop_most 2 c.args.base (g.row.D - c.loop-back.back) c.args.middle.now two c.requires.small
    (omega (arith, c.told-middle, c.requires.axes)) in
    omega (arith, most, c.loop-back.invariant)

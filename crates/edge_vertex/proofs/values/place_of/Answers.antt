use Rattle.std.proofs.Common.{ℕ, ◌+◌, ◌-◌, arith, subst}
use Rattle.edge_vertex.proofs.Places.{PlaceFrom, no_axes, all_axes, one_axis_more}
use Rattle.edge_vertex.proofs.values.place_of.Goals as goal

pub loop-axis-init : goal.loop-axis-init
loop-axis-init g c = no_axes c.args.sizes.now c.args.point.now g.row.D c.requires.axes

pub next_place-place-requires : goal.next_place-place-requires
next_place-place-requires g c =
    let axis : ℕ = c.loop-axis.axis - 1 in
    let from : PlaceFrom c.args.sizes.now c.args.point.now (axis + 1) c.loop-axis.place =
    subst (λ (n : ℕ). PlaceFrom c.args.sizes.now c.args.point.now n c.loop-axis.place) (omega (arith, c.loop-axis-test.true)) c.loop-axis.invariant in
    let next =
    one_axis_more c.args.sizes.now c.args.point.now axis c.loop-axis.place
    (omega (arith, c.loop-axis-test.true, c.loop-axis.auto.axis, c.requires.axes)) (omega (arith, c.requires.axes))
    (λ j h. c.requires.inside j (omega (arith, h, c.requires.axes))) from in
    omega (arith, next.few, c.requires.few)

pub loop-axis-preserved : goal.loop-axis-preserved
loop-axis-preserved g c =
    let axis : ℕ = c.loop-axis.axis - 1 in
    let from : PlaceFrom c.args.sizes.now c.args.point.now (axis + 1) c.loop-axis.place =
    subst (λ (n : ℕ). PlaceFrom c.args.sizes.now c.args.point.now n c.loop-axis.place) (omega (arith, c.loop-axis-test.true)) c.loop-axis.invariant in
    let next =
    one_axis_more c.args.sizes.now c.args.point.now axis c.loop-axis.place
    (omega (arith, c.loop-axis-test.true, c.loop-axis.auto.axis, c.requires.axes)) (omega (arith, c.requires.axes))
    (λ j h. c.requires.inside j (omega (arith, h, c.requires.axes))) from in
    rw c.next_place-place.ensures next.next

pub returns : goal.returns
returns g c =
    let from : PlaceFrom c.args.sizes.now c.args.point.now 0 c.loop-axis.place =
    subst (λ (n : ℕ). PlaceFrom c.args.sizes.now c.args.point.now n c.loop-axis.place) (omega (arith, c.loop-axis-test.false)) c.loop-axis.invariant in
    let all = all_axes c.args.sizes.now c.args.point.now c.loop-axis.place from in
    record { place = all.0; below = all.1 }

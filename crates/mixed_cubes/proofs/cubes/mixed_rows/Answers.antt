use Rattle.std.proofs.Common.{◌≡◌, ℕ, ◌+◌, ◌-◌, ◌*◌, ◌%◌, ◌^◌, ◌<◌, List, length, take, w64, to_z, of_z, sym, subst, arith}
use Rattle.std.specs.Prelude.{slice_index}
use Rattle.iso_model.specs.Splits.{cube_count}
use Rattle.mixed_cubes.specs.CubeFaces.{face_steps}
use Rattle.mixed_cubes.proofs.AxisSteps.{parts}
use Rattle.mixed_cubes.proofs.RowLaws.{steps_are, steps_inside, steps_long, row_inside, row_first, row_numbers, next_row}
use Rattle.mixed_cubes.proofs.cubes.mixed_rows.Goals as goal

pub slice_bounds-corners-end : goal.slice_bounds-corners-end
slice_bounds-corners-end c = steps_inside (length c.args.others.now) c.face_corners-corners.result c.requires.axes (omega arith)

pub slice_bounds-steps-end : goal.slice_bounds-steps-end
slice_bounds-steps-end c = steps_long (length c.args.others.now) c.face_corners-corners.result c.requires.axes (omega arith)

pub cube_count-row-end-requires-clause-few : goal.cube_count-row-end-requires-clause-few
cube_count-row-end-requires-clause-few c = let p = parts c.args.size c.args.others.now c.requires.sized in omega (arith, p.below, c.requires.few)

pub first_sample-requires-clause-few : goal.first_sample-requires-clause-few
first_sample-requires-clause-few c = let p = parts c.args.size c.args.others.now c.requires.sized in omega (arith, p.below, c.requires.few)

pub overflow_mul-first : goal.overflow_mul-first
overflow_mul-first c =
    omega (
      arith,
      row_first c.args.size c.args.others.now c.first_sample.result (length c.args.samples.now) c.requires.sized c.first_sample.ensures.below
          c.requires.there,
      c.requires.there,
      c.requires.few,
    )

pub overflow_mul-row : goal.overflow_mul-row
overflow_mul-row c =
    omega (
      arith,
      row_numbers c.args.size c.args.others.now c.loop-row.row c.cube_count-row-end.result c.requires.sized c.loop-row-test.true
          c.cube_count-row-end.ensures.below c.requires.few,
    )

pub add_row-requires-clause-row : goal.add_row-requires-clause-row
add_row-requires-clause-row c =
    row_first c.args.size c.args.others.now c.first_sample.result (length c.args.samples.now) c.requires.sized c.first_sample.ensures.below c.requires.there

pub add_row-requires-clause-inside : goal.add_row-requires-clause-inside
add_row-requires-clause-inside c =
    let are :
    take (1 * 2 ^ length c.args.others.now % 18446744073709551616) c.face_corners-corners.result ≡ face_steps c.args.size c.args.others.now =
    steps_are c.args.size c.args.others.now c.face_corners-corners.result (omega arith) c.requires.axes c.face_corners-corners.ensures in
    let inside : c.loop-row.row < cube_count c.args.others.now = omega (arith, c.loop-row-test.true, c.cube_count-row-end.ensures.count) in
    subst
    (λ (steps : List ℕ).
    (k : ℕ) → k < length steps → c.args.size * c.first_sample.result + (c.args.size - 1) + slice_index steps k < length c.args.samples.now)
    (sym are)
    (λ k h.
    row_inside c.args.size c.args.others.now c.loop-row.row k c.first_sample.result (length c.args.samples.now) c.requires.sized inside
    c.first_sample.ensures.number c.requires.there h)

pub add_row-requires-clause-numbers : goal.add_row-requires-clause-numbers
add_row-requires-clause-numbers c =
    row_numbers c.args.size c.args.others.now c.loop-row.row c.cube_count-row-end.result c.requires.sized c.loop-row-test.true
    c.cube_count-row-end.ensures.below c.requires.few

pub loop-row-preserved : goal.loop-row-preserved
loop-row-preserved c =
    let are :
    take (1 * 2 ^ length c.args.others.now % 18446744073709551616) c.face_corners-corners.result ≡ face_steps c.args.size c.args.others.now =
    steps_are c.args.size c.args.others.now c.face_corners-corners.result (omega arith) c.requires.axes c.face_corners-corners.ensures in
    next_row (to_z w64 (of_z w64 c.args.iso)) c.args.size c.args.others.now c.args.samples.now c.loop-row.row c.first_sample.result
    (take (1 * 2 ^ length c.args.others.now % 18446744073709551616) c.face_corners-corners.result) c.loop-row.cubes.items
    c.add_row.new.cubes.items
    c.first_sample.ensures.number are c.loop-row.invariant c.in_ok-add_row.ensures

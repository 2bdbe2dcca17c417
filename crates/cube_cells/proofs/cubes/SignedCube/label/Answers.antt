use Rattle.std.proofs.Common.{◌≡◌, ℕ, ◌^◌, ◌<◌, Bool, subst, arith, ◌∙◌, ap}
use Rattle.iso_model.specs.Cells.{corner_count}
use Rattle.iso_model.specs.Splits.{corner_offset}
use Rattle.cube_cells.specs.CubePoints.{set_of, point_number}
use Rattle.cube_cells.proofs.SignBits.{next_bit, few_bits}
use Rattle.cube_cells.proofs.CellPoints.{sign_of, label_is}
use Rattle.lists.specs.Bits.{is_set}
use Rattle.cube_cells.proofs.cubes.SignedCube.label.Goals as goal

pub with_bit-label-requires-clause-below : goal.with_bit-label-requires-clause-below
with_bit-label-requires-clause-below g c =
    few_bits (λ k. is_set c.args.self.now.signs (point_number g.row.D (corner_offset g.C.Cell.KIND g.row.D c.args.rank k))) c.loop-corner.corner
    c.loop-corner.label c.loop-corner.invariant

pub loop-corner-preserved : goal.loop-corner-preserved
loop-corner-preserved g c =
    let F : ℕ → Bool = λ k. is_set c.args.self.now.signs (point_number g.row.D (corner_offset g.C.Cell.KIND g.row.D c.args.rank k)) in
    next_bit F c.loop-corner.corner c.loop-corner.label c.with_bit-label.result c.is_set.result c.loop-corner.invariant
    (sign_of c.args.self.now.signs c.point_number-point.result g.row.D c.offset.result
    (corner_offset g.C.Cell.KIND g.row.D c.args.rank c.loop-corner.corner) c.is_set.result c.is_set.ensures c.point_number-point.ensures.number
    c.offset.ensures.offset)
    c.with_bit-label.ensures

pub returns-clause-label : goal.returns-clause-label
returns-clause-label g c = λ grid iso number long read.
    let F : ℕ → Bool = λ k. is_set c.args.self.now.signs (point_number g.row.D (corner_offset g.C.Cell.KIND g.row.D c.args.rank k)) in
    let all : c.loop-corner.corner ≡ corner_count g.C.Cell.KIND g.row.D =
    omega (arith, c.loop-corner-test.false, c.loop-corner.auto.corner-end, c.CORNERS-corner-end.ensures, g.met.C.Cell.corners) in
    label_is g.C.Cell.KIND grid iso g.row.D g.C.Split.PER_CUBE number c.args.rank c.loop-corner.label c.args.self.now long g.met.C.Cell.is_dimension
    g.met.C.Cell.has_dimension g.met.C.Split.counted c.requires.rank read
    (c.loop-corner.invariant ∙ ap (set_of F) all)

pub returns-clause-few : goal.returns-clause-few
returns-clause-few g c =
    let all : c.loop-corner.corner ≡ g.C.Cell.CORNERS = omega (arith, c.loop-corner-test.false, c.loop-corner.auto.corner-end, c.CORNERS-corner-end.ensures) in
    subst (λ (n : ℕ). c.loop-corner.label < 2 ^ n) all
    (few_bits (λ k. is_set c.args.self.now.signs (point_number g.row.D (corner_offset g.C.Cell.KIND g.row.D c.args.rank k))) c.loop-corner.corner
    c.loop-corner.label c.loop-corner.invariant)
